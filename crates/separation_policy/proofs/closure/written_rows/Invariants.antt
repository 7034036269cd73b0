use Rattle.std.proofs.Common.{◌≡◌, ℕ, ◌<◌, length, get_or}
use Rattle.separation_policy.specs.DomainSet.{no_domains}
use Rattle.separation_policy.specs.Closure.{written_by}
use Rattle.separation_policy.proofs.closure.written_rows.Given as goal

abbrev pub invariant-each : goal.invariant-each
invariant-each l = record {
  size : length l.rows.items ≡ l.a;
  each : (a : ℕ) → a < length l.rows.items → get_or l.rows.items a no_domains ≡ written_by l.policy (get_or l.reads a no_domains) (length l.policy.domains);
}
