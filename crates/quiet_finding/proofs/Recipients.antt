-- The recipients of endpoints, in the model's map.
use Rattle.std.proofs.Common.{◌≡◌, ℕ, Bool, ◌||◌, length, sym, ◌∙◌, ap}
use Rattle.std.proofs.lemmas.List.{length-map}
use Rattle.cap_format.specs.declared.kind.CapKind.TheVariants.{Endpoint}
use Rattle.cap_format.specs.Capability.{Capability}
use Rattle.object_store.specs.Store.{Store, endpoint_at, size_of}
use Rattle.object_store.specs.Meaning.{endpoint_map, meaning, state_map}
use Rattle.object_store.specs.Places.{places_in}
use Rattle.confine_check.specs.Full.{AreFull}
use Rattle.quiet_runs.specs.Finding.{is_below, some_recipient}
use Rattle.quiet_finding.specs.Passing.{in_objects, in_places}
use Rattle.quiet_finding.proofs.Folding.{is_below-same, is_below-suc, is_below-zero}

module _ (s : Store) (full : AreFull s) (test : Capability → Bool) where
  abbrev M : Store
  M = state_map s

  -- the map has as many endpoints
  endpoint-count : size_of s.items Endpoint ≡ length M.contents.endpoints
  endpoint-count = sym (length-map s.contents.endpoints (endpoint_map (meaning s.items)) ∙ full.is_store.sized.endpoints)

  -- an endpoint has one place
  one-place : (e : ℕ) → in_places M Endpoint e (places_in Endpoint) test ≡ test (endpoint_at M e).recipient
  one-place e =
      is_below-suc (λ i. test (endpoint_at M e).recipient) 0
      ∙ ap (λ (b : Bool). b || test (endpoint_at M e).recipient) (is_below-zero (λ i. test (endpoint_at M e).recipient))

  pub in-endpoints : in_objects M Endpoint (size_of s.items Endpoint) test ≡ some_recipient test M
  in-endpoints =
      is_below-same (λ e. in_places M Endpoint e (places_in Endpoint) test) (λ e. test (endpoint_at M e).recipient) (size_of s.items Endpoint) (λ e lt. one-place e)
      ∙ ap (is_below (λ e. test (endpoint_at M e).recipient)) endpoint-count
