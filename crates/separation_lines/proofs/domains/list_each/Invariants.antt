use Rattle.std.proofs.Common.{◌≡◌, List, drop}
use Rattle.coy_text.specs.Words.{words_of}
use Rattle.separation_policy.specs.declared.policy.Domain.{Domain}
use Rattle.separation_lines.specs.DomainsLine.{listed_each}
use Rattle.separation_lines.proofs.Listing.{with_more}
use Rattle.separation_lines.proofs.domains.list_each.Given as goal

abbrev pub invariant-each : goal.invariant-each
invariant-each l = record {
  listed : listed_each l.fn.policy (drop 1 (words_of l.line)) ≡ listed_each l.policy (drop l.place (words_of l.line));
  kept : (more : List Domain) × (l.policy ≡ with_more l.fn.policy more);
}
