use Rattle.std.proofs.Common.{◌≡◌, ℕ, ◌*◌, ◌<◌, length, List, get_or, ap, refl, sym, ◌∙◌, arith}
use Rattle.std.proofs.lemmas.List.{same_lists, get_or_default}
use Rattle.cap_format.specs.declared.kind.CapKind.TheVariants.{Null}
use Rattle.object_store.specs.Store.{size_of}
use Rattle.object_store.specs.Meaning.{state_map}
use Rattle.object_store.specs.Places.{places_in}
use Rattle.quiet_finding.specs.declared.leads.Lead.{Lead}
use Rattle.quiet_finding.specs.Leads.{lead_in, lead_to, leads_of}
use Rattle.quiet_finding.proofs.Leading.{get-listed, length-listed}
use Rattle.quiet_finding.proofs.leads.are_leads_of.Goals as goal

pub returns-then-leads-count-clause-exactly : goal.returns-then-leads-count-clause-exactly
returns-then-leads-count-clause-exactly g c =
    let s = state_map c.args.objects.now in
    let kind = c.args.kind in
    let all = length-listed (lead_in s kind) (size_of c.args.objects.now.items kind * places_in kind) in
    (λ no. absurd (cc (no)), λ same. absurd (c.if-leads-count.true (ap (λ (l : List Lead). length l) same ∙ (all ∙ sym c.all_places-count.ensures))))

pub returns-then-not-is_same_lead-clause-exactly : goal.returns-then-not-is_same_lead-clause-exactly
returns-then-not-is_same_lead-clause-exactly g c =
    let s = state_map c.args.objects.now in
    let kind = c.args.kind in
    let count : ℕ = size_of c.args.objects.now.items kind * places_in kind in
    let place = c.each.place in
    let below : place < count = omega (arith, c.each-test.true, c.all_places-count.ensures) in (
      λ no. absurd (cc (no)),
      λ same. c.if-not-is_same_lead.ensures.1
          (ap (λ (l : List Lead). get_or l place (lead_to Null 0)) same ∙ (get-listed (lead_in s kind) count place (lead_to Null 0) below ∙ sym c.lead_in-lead.ensures.value)),
    )

pub returns-clause-exactly : goal.returns-clause-exactly
returns-clause-exactly g c =
    let s = state_map c.args.objects.now in
    let kind = c.args.kind in
    let leads = c.args.leads.now in
    let count : ℕ = size_of c.args.objects.now.items kind * places_in kind in
    let all = length-listed (lead_in s kind) count in
    let long : length leads ≡ length (leads_of s kind) = c.if-leads-count.false ∙ (c.all_places-count.ensures ∙ sym all) in
    let end = c.each-test.false in
    let each : (k : ℕ) (d : Lead) → k < length leads → get_or leads k d ≡ get_or (leads_of s kind) k d = λ k d lt.
    let before : k < c.each.place = omega (arith, lt, end, c.if-leads-count.false) in
    let there : k < count = omega (arith, lt, long, all) in
    get_or_default leads k d (lead_to Null 0) lt ∙ (c.each.invariant.same k before ∙ sym (get-listed (lead_in s kind) count k d there)) in
    (λ yes. same_lists leads (leads_of s kind) long each, λ same. refl)
