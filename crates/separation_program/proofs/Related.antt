-- The domains to which a domain is related, one by one.
use Rattle.std.proofs.Common.{◌≡◌, ◌+◌, ◌++◌, [], ℕ, refl, ap, add-one}
use Rattle.separation_policy.specs.Policy.{PolicyValue}
use Rattle.separation_program.specs.declared.relation.Relation.{Relation}
use Rattle.separation_program.specs.Text.{one_if, related_below, related_other}

pub related_below-none : (policy : PolicyValue) (relation : Relation) (a : ℕ) → related_below policy relation a 0 ≡ []
unfolding related_below
related_below-none policy relation a = refl

pub related_below-more : (policy : PolicyValue) (relation : Relation) (a n : ℕ) → related_below policy relation a (n + 1) ≡ related_below policy relation a n ++ one_if (related_other policy relation a n) n
unfolding related_below
related_below-more policy relation a n = ap (related_below policy relation a) (add-one n)
