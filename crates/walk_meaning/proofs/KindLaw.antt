-- The proof that kinds agree but for what is denied at the place: no step on the way looks at the kind.
use Rattle.std.proofs.Common.{◌≡◌, inl, inr, ℕ, zero, suc, Bool, true, false, List, [], ◌∷◌, ◌++◌, Option, Result, Ok, Err, refl, sym, ◌∙◌, ap}
use Rattle.cap_format.specs.Capability.{Capability}
use Rattle.cap_format.specs.declared.fault.FaultCode.TheVariants.{MalformedSpace, AccessViolation}
use Rattle.cap_format.specs.declared.item.Item.TheVariants.{Slot}
use Rattle.object_store.specs.Store.{Items, slot_at}
use Rattle.walk_meaning.specs.declared.at.At.{At}
use Rattle.walk_meaning.specs.declared.kind.Kind.{Kind}
use Rattle.walk_meaning.specs.declared.noted.Noted.{Noted}
use Rattle.walk_meaning.specs.declared.place.Place.{Place}
use Rattle.walk_meaning.specs.declared.place.WalkFault.{WalkFault}
use Rattle.walk_meaning.specs.declared.step.Step.{Step}
use Rattle.walk_meaning.specs.declared.step.Step.TheVariants.{Reach, Fault, Go}
use Rattle.walk_meaning.specs.Walk.{is_data, denied, past, step, walk, fault, start_at}
use Rattle.walk_meaning.specs.Trail.{noted, header_noted, trail_from}
use Rattle.walk_meaning.specs.After.{walk_after, trail_after}
use Rattle.walk_meaning.proofs.Walked.{walk-zero, walk-suc, trail_from-suc}
use Rattle.walk_meaning.proofs.Ways.{gone, gone-step}
use Rattle.walk_meaning.proofs.Ends.{Serves, reached, step-reaches, step-denied}
use Rattle.walk_meaning.specs.Laws.{KindLaw}

module _ (o : Items) (a : ℕ) (j k : Kind) (alike : is_data j ≡ is_data k) (place : Place) where
  record Agrees (n : ℕ) (c : Capability) (w : At) : Type 0 where
    allowed : denied j place.restr.0 ≡ false
    same : denied k place.restr.0 ≡ false → walk o k n c w ≡ Ok place
    refused : denied k place.restr.0 ≡ true → (h : Option ℕ) × (walk o k n c w ≡ Err (fault o AccessViolation h))
    reads : trail_from o k a n c w ≡ trail_from o j a n c w

  record AgreesAfter (n : ℕ) (s t : Step) : Type 0 where
    allowed : denied j place.restr.0 ≡ false
    same : denied k place.restr.0 ≡ false → walk_after o k n t ≡ Ok place
    refused : denied k place.restr.0 ≡ true → (h : Option ℕ) × (walk_after o k n t ≡ Err (fault o AccessViolation h))
    reads : trail_after o k a n t ≡ trail_after o j a n s

  abbrev Rest : ℕ → Type 0
  Rest n = (c : Capability) (w : At) → walk o j n c w ≡ Ok place → Agrees n c w

  serves_too : (c : Capability) → Serves c.kind j → Serves c.kind k
  serves_too c (inl s) = inl (s.0, sym alike ∙ s.1)
  serves_too c (inr s) = inr (s.0, sym alike ∙ s.1)

  -- whether or not the restrictions deny kind k, the step ends without a read
  ends_unread : (n : ℕ) (c : Capability) (w : At) (b : Bool) → denied k place.restr.0 ≡ b → (denied k place.restr.0 ≡ false → step o k c w ≡ Reach place)
      → (denied k place.restr.0 ≡ true → step o k c w ≡ Fault AccessViolation w.handler) → ◌≡◌ {A = List Noted} (trail_after o k a n (step o k c w)) []
  ends_unread n c w true e reach refuse = ap (λ (t : Step). trail_after o k a n t) (refuse e)
  ends_unread n c w false e reach refuse = ap (λ (t : Step). trail_after o k a n t) (reach e)

  agrees_reach : (n : ℕ) (p : Place) (c : Capability) (w : At) → step o j c w ≡ Reach p → p ≡ place → AgreesAfter n (Reach p) (step o k c w)
  agrees_reach n p c w e same =
      let r = reached j p o c w e in
      let met : (past c w).restr.0 ≡ place.restr.0 = ap (λ (q : Place). q.restr.0) (r.place ∙ same) in
      let reach : denied k place.restr.0 ≡ false → step o k c w ≡ Reach place = λ free.
      step-reaches o k c w r.passed (serves_too c r.serves) r.within (ap (λ (m : ℕ). denied k m) met ∙ free) ∙ ap (λ (q : Place). Reach q) (r.place ∙ same) in
      let refuse : denied k place.restr.0 ≡ true → step o k c w ≡ Fault AccessViolation w.handler = λ deny.
      step-denied o k c w r.passed (serves_too c r.serves) r.within (ap (λ (m : ℕ). denied k m) met ∙ deny) in
      record {
        allowed = sym (ap (λ (m : ℕ). denied j m) met) ∙ r.allowed;
        same = λ free. ap (λ (t : Step). walk_after o k n t) (reach free);
        refused = λ deny. (w.handler, ap (λ (t : Step). walk_after o k n t) (refuse deny));
        reads = ends_unread n c w (denied k place.restr.0) refl reach refuse;
      }

  agrees_go : (n : ℕ) → Rest n → (c : Capability) (w next : At) (g i : ℕ) → step o j c w ≡ Go next g i → walk o j n (slot_at o g i) next ≡ Ok place → AgreesAfter n (Go next g i) (step o k c w)
  agrees_go n ih c w next g i e reach =
      let steps = gone-step o k c w next g i (gone o next g i c j w e) in
      let rest = ih (slot_at o g i) next reach in
      record {
        allowed = rest.allowed;
        same = λ free. ap (λ (t : Step). walk_after o k n t) steps ∙ rest.same free;
        refused = λ deny. let r = rest.refused deny in (r.0, ap (λ (t : Step). walk_after o k n t) steps ∙ r.1);
        reads = ap (λ (t : Step). trail_after o k a n t) steps ∙ ap (λ (ms : List Noted). noted (Slot g i) a next.l2 ∷ ms) rest.reads;
      }

  agrees_after : (n : ℕ) → Rest n → (c : Capability) (w : At) (s : Step) → step o j c w ≡ s → walk_after o j n s ≡ Ok place → AgreesAfter n s (step o k c w)
  agrees_after n ih c w (Reach p) e reach = agrees_reach n p c w e (cc (reach))
  agrees_after n ih c w (Fault code handler) e reach = absurd (cc (reach))
  agrees_after n ih c w (Go next g i) e reach = agrees_go n ih c w next g i e reach

  agrees_suc : (n : ℕ) → Rest n → Rest (suc n)
  agrees_suc n ih c w reach =
      let rest = agrees_after n ih c w (step o j c w) refl (sym (walk-suc o j n c w) ∙ reach) in
      record {
        allowed = rest.allowed;
        same = λ free. walk-suc o k n c w ∙ rest.same free;
        refused = λ deny. let r = rest.refused deny in (r.0, walk-suc o k n c w ∙ r.1);
        reads = trail_from-suc o k a n c w ∙ (ap (λ (ms : List Noted). header_noted c a w.l2 ++ ms) rest.reads ∙ sym (trail_from-suc o j a n c w));
      }

  agrees : (n : ℕ) → Rest n
  agrees zero c w reach = let e : ◌≡◌ {A = Result Place WalkFault} (Err (fault o MalformedSpace w.handler)) (Ok place) = sym (walk-zero o j c w) ∙ reach in absurd (cc (e))
  agrees (suc n) c w reach = agrees_suc n (agrees n) c w reach

-- kinds of one sort agree but for what is denied
pub kind_law : KindLaw
kind_law o c address j k place alike reach =
    let all = agrees o address j k alike place 32 c (start_at address) reach in
    record { allowed = all.allowed; same = all.same; refused = all.refused; reads = all.reads }
