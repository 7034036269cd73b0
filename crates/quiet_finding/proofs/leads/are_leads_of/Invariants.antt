use Rattle.std.proofs.Common.{◌≡◌, ◌<◌, ◌+◌, ◌*◌, ℕ, get_or}
use Rattle.cap_format.specs.declared.kind.CapKind.TheVariants.{Null}
use Rattle.object_store.specs.Meaning.{state_map}
use Rattle.object_store.specs.Places.{reads_in}
use Rattle.quiet_finding.specs.Leads.{lead_in, lead_to}
use Rattle.quiet_finding.proofs.leads.are_leads_of.Given as goal

abbrev pub invariant-each : goal.invariant-each
invariant-each g l = record {
  same : (k : ℕ) → k < l.place → get_or l.leads k (lead_to Null 0) ≡ lead_in (state_map l.objects) l.kind k;
  fetches : l.fetches ≡ l.fn.fetches + reads_in l.kind * l.place;
}
