use Rattle.std.proofs.Common.{List, subst, arith}
use Rattle.std.specs.Vec.{vec_capacity}
use Rattle.std.specs.VecDeque.{deque_capacity}
use Rattle.reverse_run.specs.Remembered.{MementoValue}
use Rattle.reverse_run.specs.Moments.{moment_of, AreKept}
use Rattle.reverse_run.proofs.Unwinding.{kept_undo, undo_reads}
use Rattle.reverse_run.proofs.reversible.Reversible.undo.Goals as goal

pub invariant_of-self-in-Some : goal.invariant_of-self-in-Some
invariant_of-self-in-Some g c =
    let i = c.self.inside in
    let Kept : List MementoValue → Type 0 = λ pasts. AreKept (moment_of i.machine) pasts i.spare.items (deque_capacity i.pasts) (vec_capacity i.spare) in
    let kept = subst Kept c.in-Some.ensures.items c.self.invariant in
    rw (c.put_back.ensures.objects, c.put_back.ensures.queues, c.put_back.ensures.halted, c.push_reserved.ensures.items, c.pop_front.ensures.capacity, c.push_reserved.ensures.capacity)
    (kept_undo (moment_of i.machine) c.in-Some.kept c.pop_front.new.self.items i.spare.items (deque_capacity i.pasts) (vec_capacity i.spare) kept)

pub returns-in-Some-clause-most : goal.returns-in-Some-clause-most
returns-in-Some-clause-most g c =
    let i = c.self.inside in
    let Kept : List MementoValue → Type 0 = λ pasts. AreKept (moment_of i.machine) pasts i.spare.items (deque_capacity i.pasts) (vec_capacity i.spare) in
    let kept = subst Kept c.in-Some.ensures.items c.self.invariant in
    let most = undo_reads (moment_of i.machine) c.in-Some.kept c.pop_front.new.self.items i.spare.items (deque_capacity i.pasts) (vec_capacity i.spare) kept in
    let counted = c.put_back.ensures.counted in
    omega (arith, counted, most)
