use Rattle.std.proofs.Common.{ℕ, ◌+◌, ◌*◌, ◌/◌, ◌%◌, ap, ◌∙◌, sym, subst, arith}
use Rattle.std.specs.Prelude.{slice_set}
use Rattle.sv32_tables.specs.Shared.{IsLeafTable, SharedValue, shared_of}
use Rattle.sv32_tables.specs.SharedHistory.{SetsEntry}
use Rattle.sv32_tables.proofs.SharedWrites.{entered}
use Rattle.sv32_tables.proofs.shared_pool.SharedPool.set.Goals as goal

pub returns : goal.returns
returns c =
    let words = c.self.inside.words.items in
    let uses = c.self.inside.uses.items in
    let index = c.args.va / 4096 % 1024 in
    let Made : SharedValue → Type 0 = λ v. IsLeafTable v c.args.leaf in
    let made = subst Made (sym c.self.view_is) c.requires in
    let Sets : SharedValue → Type 0 = λ v. SetsEntry v (shared_of c.put.new.words.items uses) c.args.leaf index c.args.entry in
    let put = c.put.ensures ∙ (ap (λ (i : ℕ). slice_set words (c.args.leaf * 1024 + i) c.leaf_word.result) c.index_of.ensures.value
    ∙ ap (λ (w : ℕ). slice_set words (c.args.leaf * 1024 + index) w) c.leaf_word.ensures.word) in
    subst Sets c.self.view_is (rw put (entered words uses c.args.leaf index c.args.entry c.self.invariant made (omega arith)))
