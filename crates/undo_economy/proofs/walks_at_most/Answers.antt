use Rattle.std.proofs.Common.{ℕ, ◌≤◌, arith}
use Rattle.std.proofs.lemmas.Bool.{cond_both}
use Rattle.walk_meaning.specs.Trail.{slots}
use Rattle.map_cache.specs.Kept.{is_spared}
use Rattle.shared_leaves.specs.Kept.{is_spared as is_spared_there}
use Rattle.undo_economy.proofs.walks_at_most.Goals as goal

pub returns-clause-plain : goal.returns-clause-plain
returns-clause-plain c = record { most = λ k o space address kind. omega arith }

pub returns-clause-cached : goal.returns-clause-cached
returns-clause-cached c = record {
  most = λ k o space address kind. cond_both (is_spared k o space address kind) _ _ (λ (n : ℕ). n ≤ slots o space address kind) (λ e. omega arith) (λ e. omega arith);
}

pub returns-clause-shared : goal.returns-clause-shared
returns-clause-shared c = record {
  most = λ k o space address kind. cond_both (is_spared_there k o space address kind) _ _ (λ (n : ℕ). n ≤ slots o space address kind) (λ e. omega arith) (λ e. omega arith);
}
