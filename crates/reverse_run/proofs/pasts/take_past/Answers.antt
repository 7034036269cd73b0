use Rattle.std.proofs.Common.{List, [], ◌∷◌, ◌++◌, subst, arith}
use Rattle.std.specs.List.{All}
use Rattle.std.proofs.lemmas.List.Elements.{All-tail}
use Rattle.machine_state.specs.Past.{IsFor}
use Rattle.reverse_run.specs.Remembered.{MementoValue}
use Rattle.reverse_run.proofs.pasts.take_past.Goals as goal

-- what holds of all holds of the last
last : {X : Type 0} (P : X → Type 0) (xs : List X) (x : X) → All P (xs ++ x ∷ []) → P x
last P [] x all = all 0 x (omega arith)
last P (y ∷ ys) x all = last P ys x (All-tail P y (ys ++ x ∷ []) all)

pub returns-in-Some-clause-sizes : goal.returns-in-Some-clause-sizes
returns-in-Some-clause-sizes c = λ z in_use spare.
    let Made : List MementoValue → Type 0 = λ ps. All (λ (k : MementoValue). IsFor k.past z) ps in
    last (λ (k : MementoValue). IsFor k.past z) c.pop.new.self.items c.in-Some.kept (subst Made c.in-Some.ensures.items spare)
