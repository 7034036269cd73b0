use Rattle.object_store.specs.Meaning.{state_map}
use Rattle.quiet_finding.specs.Leads.{AreLeadsOf, LeadsValue}
use Rattle.quiet_finding.proofs.Leading.{alike-reaching}
use Rattle.quiet_finding.proofs.kept_reaching.KeptReaching.new.Goals as goal

pub invariant_of-result : goal.invariant_of-result
invariant_of-result g c =
    let s = c.args.objects.now in
    let leads : LeadsValue = record { processes = c.in_ok-processes.processes.items; cappages = c.in_ok-cappages.cappages.items; gpts = c.in_ok-gpts.gpts.items; endpoints = c.in_ok-endpoints.endpoints.items } in
    let of : AreLeadsOf (state_map s) leads = record { processes = c.in_ok-processes.ensures.value; cappages = c.in_ok-cappages.ensures.value; gpts = c.in_ok-gpts.ensures.value; endpoints = c.in_ok-endpoints.ensures.value } in
    λ t full of_too. alike-reaching s t c.tell_full.ensures full leads of of_too c.in_ok-reaching.reaching c.in_ok-reaching.ensures.value
