-- Sets of domains, one bit for each. (Own.)
use Rattle.std.specs.Prelude.{ℕ, ◌^◌, ◌==◌, Bool, if◌then◌else◌, bit_or, bit_xor}
use Rattle.std.specs.Int.{bit_at}
use Rattle.separation_policy.specs.declared.domain_set.DomainSet.{DomainSet}

-- no domain
abbrev pub no_domains : DomainSet
no_domains = record { bits = 0 }

-- whether a domain is in the set
abbrev pub has_domain : DomainSet → ℕ → Bool
has_domain domains d = bit_at domains.bits d == 1

-- the set with this domain
abbrev pub with_domain : DomainSet → ℕ → DomainSet
with_domain domains d = record { bits = bit_or domains.bits (2 ^ d) }

-- the set without this domain
abbrev pub without_domain : DomainSet → ℕ → DomainSet
without_domain domains d = if has_domain domains d then record { bits = bit_xor domains.bits (2 ^ d) } else domains

-- the domains of both sets
abbrev pub both_domains : DomainSet → DomainSet → DomainSet
both_domains some others = record { bits = bit_or some.bits others.bits }
