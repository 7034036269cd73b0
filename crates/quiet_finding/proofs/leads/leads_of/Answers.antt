use Rattle.std.proofs.Common.{◌≡◌, ℕ, suc, ◌+◌, [], ◌∷◌, ◌++◌, List, ap, ap₂, sym, ◌∙◌, arith}
use Rattle.object_store.specs.Meaning.{state_map}
use Rattle.quiet_finding.specs.declared.leads.Lead.{Lead}
use Rattle.quiet_finding.specs.Leads.{lead_in, listed}
use Rattle.quiet_finding.proofs.Leading.{listed-more, listed-none}
use Rattle.quiet_finding.proofs.leads.leads_of.Goals as goal

pub each-init : goal.each-init
each-init g c = record {
  value = c.in_ok-leads.ensures.items ∙ sym (listed-none (lead_in (state_map c.args.objects.now) c.args.kind));
  fetches = omega arith;
}

pub each-preserved : goal.each-preserved
each-preserved g c =
    let leads : ℕ → Lead = lead_in (state_map c.args.objects.now) c.args.kind in
    let n = c.each.place in
    let next : suc n ≡ n + 1 = omega arith in
    record {
      value = c.in_ok-push.ensures.items
          ∙ (ap₂ (λ (before : List Lead) (lead : Lead). before ++ lead ∷ []) c.each.invariant.value c.lead_in-lead.ensures.value
          ∙ (sym (listed-more leads n) ∙ ap (listed leads) next));
      fetches = omega (arith, c.lead_in-lead.ensures.counted, c.each.invariant.fetches);
    }
