-- Who answers an entry, by what is stored.
use Rattle.std.proofs.Common.{◌≡◌, ◌≢◌, ℕ, false, if◌then◌else◌, refl, sym, ap, ◌∙◌}
use Rattle.cap_format.specs.declared.kind.CapKind.{CapKind}
use Rattle.cap_format.specs.declared.kind.CapKind.TheVariants.{Process}
use Rattle.cap_format.specs.Capability.{Capability}
use Rattle.endpoint_objects.specs.declared.endpoint.Endpoint.{Endpoint as EndpointValue}
use Rattle.object_store.specs.Store.{Store, process_at, endpoint_at}
use Rattle.object_store.specs.Meaning.{live, state_map}
use Rattle.object_store.proofs.Means.{endpoint_at-state_map}
use Rattle.object_store.proofs.Live.{bare-live}
use Rattle.object_store.proofs.Writes.{state_means, id_means}
use Rattle.invocation.specs.Answerer.{answered_by, asked, refuses, entered}
use Rattle.invocation.specs.Answerer.Answer.{Dead}

-- a recipient is asked by what is stored
asked_means : (s : Store) (e : ℕ) (kind : CapKind) (q : ℕ) → asked (state_map s) e kind q ≡ asked s e kind q
asked_means s e Process q = ap (λ state. answered_by state (endpoint_at (state_map s) e).id e q) (sym (state_means s q)) ∙ ap (λ id. answered_by (process_at s q).state id e q) (sym (id_means s e))
asked_means s e kind q = refl

-- what is no process has nobody who answers
asked_nobody : (s : Store) (e : ℕ) (kind : CapKind) (q : ℕ) → kind ≢ Process → asked s e kind q ≡ Dead
asked_nobody s e Process q other = absurd (other refl)
asked_nobody s e kind q other = refl

-- an entry of the map, by the recipient that is stored, as it is live
entered_means : (s : Store) (e payload : ℕ) → entered (state_map s) e payload ≡ (if refuses (endpoint_at s e) payload then Dead else asked s e (live s.items (endpoint_at s e).recipient).kind (live s.items (endpoint_at s e).recipient).object)
entered_means s e payload =
    let recipient = (endpoint_at s e).recipient in
    ap (λ (x : EndpointValue). if refuses x payload then Dead else asked (state_map s) e x.recipient.kind x.recipient.object) (endpoint_at-state_map s e)
    ∙ (ap (λ (c : Capability). if refuses (endpoint_at s e) payload then Dead else asked (state_map s) e c.kind c.object) (sym (bare-live s.items recipient))
    ∙ ap (λ a. if refuses (endpoint_at s e) payload then Dead else a) (asked_means s e (live s.items recipient).kind (live s.items recipient).object))

-- an entry to endpoint `e`, which is `to` and has a recipient that is `r` as it is live
module _ (s : Store) (e payload : ℕ) (to : EndpointValue) (r : Capability) (at_e : to ≡ endpoint_at s e) (open_to : refuses to payload ≡ false) (r_is : r ≡ live s.items to.recipient) where
  recipient_is : r ≡ live s.items (endpoint_at s e).recipient
  recipient_is = r_is ∙ ap (λ (x : EndpointValue). live s.items x.recipient) at_e

  entered_is : entered (state_map s) e payload ≡ asked s e r.kind r.object
  entered_is =
      entered_means s e payload
      ∙ (ap (λ (x : EndpointValue). if refuses x payload then Dead else asked s e (live s.items (endpoint_at s e).recipient).kind (live s.items (endpoint_at s e).recipient).object) (sym at_e)
      ∙ rw open_to (ap (λ (c : Capability). asked s e c.kind c.object) (sym recipient_is)))

  -- where that is no process, nobody answers
  pub entered_nobody : r.kind ≢ Process → Dead ≡ entered (state_map s) e payload
  entered_nobody other = sym (entered_is ∙ asked_nobody s e r.kind r.object other)

  -- where it is one, it answers
  pub entered_process : r.kind ≡ Process → answered_by (process_at s r.object).state to.id e r.object ≡ entered (state_map s) e payload
  entered_process is =
      ap (λ (x : EndpointValue). answered_by (process_at s r.object).state x.id e r.object) at_e
      ∙ (ap (λ kind. asked s e kind r.object) (sym is) ∙ sym entered_is)
