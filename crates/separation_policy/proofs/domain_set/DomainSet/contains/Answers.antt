use Rattle.std.proofs.Common.{◌==◌, ℕ, sym, ap, arith}
use Rattle.std.proofs.lemmas.Nat.Bits.{bit_at_above}
use Rattle.separation_policy.proofs.domain_set.DomainSet.contains.Goals as goal

pub returns-then-domain-ge64 : goal.returns-then-domain-ge64
returns-then-domain-ge64 c = sym (ap (λ (n : ℕ). n == 1) (bit_at_above c.args.self.bits 64 c.args.domain (omega arith) (omega arith)))
