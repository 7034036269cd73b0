use Rattle.std.proofs.Common.{◌≡◌, ◌+◌, ◌*◌}
use Rattle.object_store.specs.Meaning.{state_map}
use Rattle.object_store.specs.Places.{reads_in}
use Rattle.quiet_finding.specs.Leads.{lead_in, listed}
use Rattle.quiet_finding.proofs.leads.leads_of.Given as goal

abbrev pub invariant-each : goal.invariant-each
invariant-each g l = record {
  value : l.leads.items ≡ listed (lead_in (state_map l.objects) l.kind) l.place;
  fetches : l.fetches ≡ l.fn.fetches + reads_in l.kind * l.place;
}
