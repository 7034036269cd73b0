use Rattle.std.proofs.Common.{◌≡◌, ◌++◌, map, take, drop}
use Rattle.separation_policy.specs.Making.{domain_bare}
use Rattle.separation_policy.proofs.policy.forbid_all.Given as goal

abbrev pub invariant-each : goal.invariant-each
invariant-each l = l.domains ≡ map domain_bare (take l.domain-index l.fn.domains) ++ drop l.domain-index l.fn.domains
