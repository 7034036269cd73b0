-- The proof that a walk over the meanings reaches an object that is there, of the kind that serves the access.
use Rattle.std.proofs.Common.{◌≡◌, inl, inr, ℕ, zero, suc, ◌<◌, Bool, true, false, if◌then◌else◌, Result, Ok, Err, refl, sym, ◌∙◌, ap, subst}
use Rattle.std.proofs.lemmas.Bool.{leb-false}
use Rattle.cap_format.specs.Capability.{Capability, null, bare}
use Rattle.cap_format.specs.declared.fault.FaultCode.TheVariants.{MalformedSpace}
use Rattle.cap_format.specs.declared.kind.CapKind.{CapKind}
use Rattle.cap_format.specs.declared.kind.CapKind.TheVariants.{Page, CapPage}
use Rattle.object_store.specs.Store.{Items, size_of, slot_at}
use Rattle.object_store.specs.Meaning.{is_live, meaning, map_of}
use Rattle.object_store.proofs.Means.{slot_at-map_of}
use Rattle.object_store.proofs.Live.{live_page, live_cappage}
use Rattle.walk_meaning.specs.declared.at.At.{At}
use Rattle.walk_meaning.specs.declared.kind.Kind.{Kind}
use Rattle.walk_meaning.specs.declared.place.Place.{Place}
use Rattle.walk_meaning.specs.declared.place.WalkFault.{WalkFault}
use Rattle.walk_meaning.specs.declared.step.Step.{Step}
use Rattle.walk_meaning.specs.declared.step.Step.TheVariants.{Reach, Fault, Go}
use Rattle.walk_meaning.specs.Walk.{past, step, walk, fault, start_at}
use Rattle.walk_meaning.specs.After.{walk_after}
use Rattle.walk_meaning.proofs.Walked.{walk-zero, walk-suc}
use Rattle.walk_meaning.proofs.Ends.{Serves, reached}
use Rattle.walk_meaning.proofs.FrameLaw.{null_stops}
use Rattle.walk_meaning.specs.Laws.{serving, IsReached, PlaceLaw}

-- a live page or capability page, which serves the kind, is there
place_kind : (o : Items) (kind : Kind) (d : Capability) → is_live o d ≡ true → Serves d.kind kind → (d.kind ≡ serving kind) × (d.object < size_of o d.kind)
place_kind o kind d live (inl s) =
    (s.0 ∙ ap (λ (b : Bool). if b then Page else CapPage) (sym s.1), subst (λ (k : CapKind). d.object < size_of o k) (sym s.0) (live_page o d s.0 live))
place_kind o kind d live (inr s) =
    (s.0 ∙ ap (λ (b : Bool). if b then Page else CapPage) (sym s.1), subst (λ (k : CapKind). d.object < size_of o k) (sym s.0) (live_cappage o d s.0 live))

module _ (o : Items) (kind : Kind) (place : Place) where
  abbrev Rest : ℕ → Type 0
  Rest n = (d : Capability) (w : At) → walk (map_of o) kind n (meaning o d) w ≡ Ok place → IsReached o kind place

  placed_reach : (p : Place) (d : Capability) (w : At) → is_live o d ≡ true → step (map_of o) kind (bare d) w ≡ Reach p → p ≡ place → IsReached o kind place
  placed_reach p d w live e same =
      let r = reached kind p (map_of o) (bare d) w e in
      let serves = place_kind o kind d live r.serves in
      let is : IsReached o kind p = subst (IsReached o kind) r.place (record { kind_is = serves.0; there = serves.1; within = leb-false 4096 (past (bare d) w).address r.within }) in
      subst (IsReached o kind) same is

  placed_after : (n : ℕ) → Rest n → (d : Capability) (w : At) → is_live o d ≡ true → (s : Step) → step (map_of o) kind (bare d) w ≡ s → walk_after (map_of o) kind n s ≡ Ok place → IsReached o kind place
  placed_after n ih d w live (Reach p) e reach = placed_reach p d w live e (cc (reach))
  placed_after n ih d w live (Fault code handler) e reach = absurd (cc (reach))
  placed_after n ih d w live (Go next g i) e reach =
      ih (slot_at o g i) next (ap (λ (c : Capability). walk (map_of o) kind n c next) (sym (slot_at-map_of o g i)) ∙ reach)

  placed_suc : (n : ℕ) → Rest n → (d : Capability) (w : At) → (b : Bool) → is_live o d ≡ b → walk (map_of o) kind (suc n) (if b then bare d else null) w ≡ Ok place → IsReached o kind place
  placed_suc n ih d w true live reach =
      placed_after n ih d w live (step (map_of o) kind (bare d) w) refl (sym (walk-suc (map_of o) kind n (bare d) w) ∙ reach)
  placed_suc n ih d w false dead reach = absurd (null_stops (map_of o) kind (suc n) w place reach)

  placed : (n : ℕ) → Rest n
  placed zero d w reach = let e : ◌≡◌ {A = Result Place WalkFault} (Err (fault (map_of o) MalformedSpace w.handler)) (Ok place) = sym (walk-zero (map_of o) kind (meaning o d) w) ∙ reach in absurd (cc (e))
  placed (suc n) d w reach = placed_suc n (placed n) d w (is_live o d) refl reach

-- what is reached is there, and serves the access
pub place_law : PlaceLaw
place_law o space address kind place reach = placed o kind place 32 space (start_at address) reach
