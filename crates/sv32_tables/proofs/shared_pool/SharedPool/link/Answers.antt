use Rattle.std.proofs.Common.{ℕ, ◌+◌, ◌*◌, ◌/◌, Some, ap, ◌∙◌, sym, subst, arith}
use Rattle.std.specs.Prelude.{slice_set}
use Rattle.sv32_tables.specs.Word.{pointer}
use Rattle.sv32_tables.specs.Shared.{IsSharedRoot, SharedValue, shared_of}
use Rattle.sv32_tables.specs.SharedHistory.{SetsLink}
use Rattle.sv32_tables.proofs.SharedWrites.{linked}
use Rattle.sv32_tables.proofs.WordLaws.{table_of-pointer}
use Rattle.sv32_tables.proofs.shared_pool.SharedPool.link.Goals as goal

pub returns : goal.returns
returns c =
    let words = c.self.inside.words.items in
    let uses = c.self.inside.uses.items in
    let region = c.args.va / 4096 / 1024 in
    let Made : SharedValue → Type 0 = λ v. IsSharedRoot v c.args.root in
    let made = subst Made (sym c.self.view_is) c.requires.root in
    let Sets : SharedValue → Type 0 = λ v. SetsLink v (shared_of c.put.new.words.items uses) c.args.root region (Some c.args.leaf) in
    let put = c.put.ensures ∙ (ap (λ (i : ℕ). slice_set words (c.args.root * 1024 + i) c.pointer.result) c.region_of.ensures.value
    ∙ ap (λ (w : ℕ). slice_set words (c.args.root * 1024 + region) w) c.pointer.ensures) in
    subst Sets c.self.view_is
    (rw put (linked words uses c.args.root region (pointer c.args.leaf) (Some c.args.leaf) c.self.invariant made (omega arith) (table_of-pointer c.args.leaf)))
