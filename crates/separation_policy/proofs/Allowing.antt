-- What lines of a policy allow: whoever was let read or write another may.
use Rattle.std.proofs.Common.{◌≡◌, ℕ, ◌<◌, true, refl, ◌∙◌, ap, length, arith}
use Rattle.std.proofs.lemmas.Bool.{or_right, eq-eqb, lt-ltb}
use Rattle.std.proofs.lemmas.List.{get_or-set_same, length-set}
use Rattle.separation_policy.specs.declared.domain_set.DomainSet.{DomainSet}
use Rattle.separation_policy.specs.declared.policy.Domain.{Domain}
use Rattle.separation_policy.specs.DomainSet.{has_domain, with_domain}
use Rattle.separation_policy.specs.Policy.{PolicyValue, unmade, domain_at, may_read, may_write}
use Rattle.separation_policy.specs.Making.{domain_reading, domain_writing, with_reading, with_writing}
use Rattle.separation_policy.proofs.Closing.{has-with}
use Rattle.separation_policy.proofs.Reaching.{both}

-- a set has what it was given
has-given : (domains : DomainSet) (b : ℕ) → has_domain (with_domain domains b) b ≡ true
has-given domains b = has-with domains b b ∙ or_right (has_domain domains b) _ (eq-eqb b b refl)

module _ (policy : PolicyValue) (a b : ℕ) (made : a < length policy.domains) where
  pub reading-allows : may_read (with_reading policy a b) a b ≡ true
  reading-allows =
      ap (λ (d : Domain). has_domain d.reads b) (get_or-set_same policy.domains a (domain_reading (domain_at policy a) b) unmade made)
      ∙ has-given (domain_at policy a).reads b

  pub writing-allows : b < length policy.domains → may_write (with_writing policy a b) a b ≡ true
  writing-allows there =
      let long = length-set policy.domains a (domain_writing (domain_at policy a) b) in
      both _ _ (lt-ltb b (length (with_writing policy a b).domains) (omega (arith, long, there)))
      (ap (λ (d : Domain). has_domain d.writes b) (get_or-set_same policy.domains a (domain_writing (domain_at policy a) b) unmade made)
      ∙ has-given (domain_at policy a).writes b)
