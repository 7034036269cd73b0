use Rattle.std.proofs.Common.{◌≡◌, ◌<◌, ◌≤◌, ◌*◌, ◌/◌, ◌%◌, ℕ, ap, sym, ◌∙◌, arith}
use Rattle.std.proofs.lemmas.Nat.{div_below}
use Rattle.object_store.specs.Store.{size_of}
use Rattle.object_store.specs.Meaning.{meaning, state_map}
use Rattle.object_store.specs.Places.{cap_in, places_in}
use Rattle.confine_check.proofs.Found.{cap_in-state_map}
use Rattle.quiet_finding.specs.Leads.{lead_of}
use Rattle.quiet_finding.proofs.Leading.{some-places}
use Rattle.quiet_finding.proofs.leads.lead_in.Goals as goal

pub overflow_cast-n : goal.overflow_cast-n
overflow_cast-n g c =
    let width = c.places-places.ensures in
    let kind = c.args.kind in
    let size = size_of c.args.objects.now.items kind in
    let some : 0 < places_in kind = some-places size (places_in kind) c.args.place c.requires in
    let below : c.args.place / places_in kind < size = div_below c.args.place (places_in kind) size some c.requires in
    let same = ap (λ (w : ℕ). c.args.place / w) width in
    omega (arith, below, same, c.size-count.ensures)

pub returns-clause-value : goal.returns-clause-value
returns-clause-value g c =
    let s = c.args.objects.now in
    let kind = c.args.kind in
    let place = c.args.place in
    let w = c.places-places.result in
    let meant = c.live.ensures.means ∙ (ap (meaning s.items) c.cap_in-cap.ensures.value ∙ sym (cap_in-state_map s kind (place / w) (place % w))) in
    c.lead_of.ensures ∙ (ap lead_of meant ∙ ap (λ (w : ℕ). lead_of (cap_in (state_map s) kind (place / w) (place % w))) c.places-places.ensures)
