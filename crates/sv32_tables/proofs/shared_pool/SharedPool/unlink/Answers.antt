use Rattle.std.proofs.Common.{ℕ, ◌+◌, ◌*◌, ◌/◌, None, refl, ap, ◌∙◌, sym, subst, arith}
use Rattle.std.specs.Prelude.{slice_set}
use Rattle.sv32_tables.specs.Shared.{IsSharedRoot, SharedValue, shared_of}
use Rattle.sv32_tables.specs.SharedHistory.{SetsLink}
use Rattle.sv32_tables.proofs.SharedWrites.{linked}
use Rattle.sv32_tables.proofs.shared_pool.SharedPool.unlink.Goals as goal

pub returns : goal.returns
returns c =
    let words = c.self.inside.words.items in
    let uses = c.self.inside.uses.items in
    let region = c.args.va / 4096 / 1024 in
    let Made : SharedValue → Type 0 = λ v. IsSharedRoot v c.args.root in
    let made = subst Made (sym c.self.view_is) c.requires in
    let Sets : SharedValue → Type 0 = λ v. SetsLink v (shared_of c.put.new.words.items uses) c.args.root region None in
    let put = c.put.ensures ∙ ap (λ (i : ℕ). slice_set words (c.args.root * 1024 + i) 0) c.region_of.ensures.value in
    subst Sets c.self.view_is (rw put (linked words uses c.args.root region 0 None c.self.invariant made (omega arith) refl))
