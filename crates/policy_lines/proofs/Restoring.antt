-- A policy whose domain may do again what it could is the one that it was.
use Rattle.std.proofs.Common.{◌≡◌, ℕ, ◌<◌, List, length, set, ◌∙◌, ap}
use Rattle.std.proofs.lemmas.List.{get_or-set_same, set-get_or, set-set}
use Rattle.separation_policy.specs.declared.policy.Domain.{Domain}
use Rattle.separation_policy.specs.declared.rights.Rights.{Rights}
use Rattle.separation_policy.specs.Policy.{PolicyValue, unmade, domain_at}
use Rattle.separation_policy.specs.Making.{domain_allowed, rights_at, with_rights}

module _ (policy : PolicyValue) (a : ℕ) (rights : Rights) (made : a < length policy.domains) where
  abbrev changed : Domain
  changed = domain_allowed rights (domain_at policy a)

  again : domain_allowed (rights_at policy a) (domain_at (with_rights policy a rights) a) ≡ domain_at policy a
  again = ap (λ (d : Domain). domain_allowed (rights_at policy a) d) (get_or-set_same policy.domains a changed unmade made)

  pub restored : with_rights (with_rights policy a rights) a (rights_at policy a) ≡ policy
  restored =
      ap (λ (domains : List Domain). record policy { domains = domains })
      (set-set policy.domains a changed _ ∙ (ap (λ (d : Domain). set policy.domains a d) again ∙ set-get_or policy.domains a unmade))
