use Rattle.std.proofs.Common.{ℕ, List, length, ap, ◌∙◌}
use Rattle.std.specs.Prelude.{slice_index}
use Rattle.std.proofs.lemmas.List.{length-replicate}
use Rattle.sv32_tables.proofs.Empty.{slice_index-replicate}
use Rattle.sv32_tables.proofs.words.zeros.Goals as goal

pub returns-clause-length : goal.returns-clause-length
returns-clause-length c = ap (λ (xs : List ℕ). length xs) (c.in_ok-words.ensures.items_if_clones_equal (λ y e. e)) ∙ length-replicate {A = ℕ} c.args.count 0

pub returns-clause-zeros : goal.returns-clause-zeros
returns-clause-zeros c =
    λ k. ap (λ (xs : List ℕ). slice_index xs k) (c.in_ok-words.ensures.items_if_clones_equal (λ y e. e)) ∙ slice_index-replicate c.args.count k
