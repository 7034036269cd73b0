-- What each kind of step makes of a walk on its way.
use Rattle.std.specs.Prelude.{◌≡◌, ℕ, zero, suc, ◌+◌, List, [], ◌∷◌, ◌++◌, Option}
use Rattle.std.proofs.Common.{sym, ◌∙◌, ap, subst, append_assoc, append-nil, arith}
use Rattle.cap_format.specs.Capability.{Capability}
use Rattle.cap_format.specs.declared.fault.FaultCode.{FaultCode}
use Rattle.cap_format.specs.declared.fault.FaultCode.TheVariants.{MalformedSpace}
use Rattle.cap_format.specs.declared.item.Item.TheVariants.{Slot}
use Rattle.object_store.specs.Store.{Items, slot_at}
use Rattle.walk_meaning.specs.declared.at.At.{At}
use Rattle.walk_meaning.specs.declared.kind.Kind.{Kind}
use Rattle.walk_meaning.specs.declared.noted.Noted.{Noted}
use Rattle.walk_meaning.specs.declared.place.Place.{Place}
use Rattle.walk_meaning.specs.declared.step.Step.{Step}
use Rattle.walk_meaning.specs.declared.step.Step.TheVariants.{Reach, Fault, Go}
use Rattle.walk_meaning.specs.Walk.{step}
use Rattle.walk_meaning.specs.Trail.{noted, header_noted, trail_from, handler_cost, read_cost, slots_from}
use Rattle.walk_meaning.specs.After.{walk_after, trail_after, slots_after}
use Rattle.walk_meaning.proofs.Walked.{walk-zero, walk-suc, trail_from-zero, trail_from-suc, slots_from-zero, slots_from-suc}
use Rattle.walk_engine.specs.OnWay.{IsOnWay, WalkEndsAt, WalkEndsIn}

module _ (o : Items) (space : Capability) (address : ℕ) (kind : Kind) (c : Capability) (w : At) (reads : List Noted) (start count : ℕ) where
  abbrev On : ℕ → Type 0
  On n = IsOnWay o space address kind n c w reads start count

  -- by one capability further
  pub on_way-go : (n k : ℕ) (next : At) (g i : ℕ) → n ≡ suc k → step o kind c w ≡ Go next g i → On n
      → IsOnWay o space address kind k (slot_at o g i) next ((reads ++ header_noted c address w.l2) ++ noted (Slot g i) address next.l2 ∷ []) start (count + read_cost k)
  on_way-go n k next g i fewer e way =
      let now : On (suc k) = subst On fewer way in
      let go : Step = Go next g i in
      let rest : List Noted = trail_from o kind address k (slot_at o g i) next in
      let tail : trail_from o kind address (suc k) c w ≡ header_noted c address w.l2 ++ (noted (Slot g i) address next.l2 ∷ rest) =
      trail_from-suc o kind address k c w ∙ ap (λ (s : Step). header_noted c address w.l2 ++ trail_after o kind address k s) e in
      let cost : slots_from o kind (suc k) c w ≡ read_cost k + slots_from o kind k (slot_at o g i) next =
      slots_from-suc o kind k c w ∙ ap (λ (s : Step). slots_after o kind k s) e in
      record {
        place = sym (walk-suc o kind k c w ∙ ap (λ (s : Step). walk_after o kind k s) e) ∙ now.place;
        noted =
            append_assoc (reads ++ header_noted c address w.l2) (noted (Slot g i) address next.l2 ∷ []) rest
            ∙ (append_assoc reads (header_noted c address w.l2) (noted (Slot g i) address next.l2 ∷ rest)
            ∙ (ap (λ (t : List Noted). reads ++ t) (sym tail) ∙ now.noted));
        counted = omega (arith, cost, now.counted);
      }

  -- at a place
  pub on_way-reach : (n k : ℕ) (place : Place) → n ≡ suc k → step o kind c w ≡ Reach place → On n
      → WalkEndsAt o space address kind place (reads ++ header_noted c address w.l2) start count
  on_way-reach n k place fewer e way =
      let now : On (suc k) = subst On fewer way in
      let tail : trail_from o kind address (suc k) c w ≡ header_noted c address w.l2 ++ [] =
      trail_from-suc o kind address k c w ∙ ap (λ (s : Step). header_noted c address w.l2 ++ trail_after o kind address k s) e in
      let cost : slots_from o kind (suc k) c w ≡ 0 = slots_from-suc o kind k c w ∙ ap (λ (s : Step). slots_after o kind k s) e in
      record {
        reached = sym now.place ∙ (walk-suc o kind k c w ∙ ap (λ (s : Step). walk_after o kind k s) e);
        noted = ap (λ (t : List Noted). reads ++ t) (sym (append-nil (header_noted c address w.l2)) ∙ sym tail) ∙ now.noted;
        counted = omega (arith, cost, now.counted);
      }

  -- in a fault
  pub on_way-fault : (n k : ℕ) (code : FaultCode) (handler : Option ℕ) → n ≡ suc k → step o kind c w ≡ Fault code handler → On n
      → WalkEndsIn o space address kind code handler start count
  on_way-fault n k code handler fewer e way =
      let now : On (suc k) = subst On fewer way in
      let cost : slots_from o kind (suc k) c w ≡ handler_cost handler = slots_from-suc o kind k c w ∙ ap (λ (s : Step). slots_after o kind k s) e in
      record {
        faulted = sym now.place ∙ (walk-suc o kind k c w ∙ ap (λ (s : Step). walk_after o kind k s) e);
        counted = omega (arith, cost, now.counted);
      }

  -- where no capability may be met any more
  pub on_way-end : (n : ℕ) → n ≡ zero → On n → WalkEndsIn o space address kind MalformedSpace w.handler start count
  on_way-end n none way =
      let now : On zero = subst On none way in
      let cost : slots_from o kind zero c w ≡ handler_cost w.handler = slots_from-zero o kind c w in
      record {
        faulted = sym now.place ∙ walk-zero o kind c w;
        counted = omega (arith, cost, now.counted);
      }

-- where no capability may be met any more, none is read
pub on_way-unread : (o : Items) (space : Capability) (address : ℕ) (kind : Kind) (n : ℕ) (c d : Capability) (w : At) (reads : List Noted) (start count : ℕ)
    → n ≡ zero → IsOnWay o space address kind n c w reads start count → IsOnWay o space address kind n d w reads start count
on_way-unread o space address kind n c d w reads start count none way =
    let now = subst (λ (n : ℕ). IsOnWay o space address kind n c w reads start count) none way in
    let there : IsOnWay o space address kind zero d w reads start count = record {
      place = (walk-zero o kind d w ∙ sym (walk-zero o kind c w)) ∙ now.place;
      noted = ap (λ (t : List Noted). reads ++ t) (trail_from-zero o kind address d w ∙ sym (trail_from-zero o kind address c w)) ∙ now.noted;
      counted = ap (λ (n : ℕ). count + n) (slots_from-zero o kind d w ∙ sym (slots_from-zero o kind c w)) ∙ now.counted;
    } in
    subst (λ (n : ℕ). IsOnWay o space address kind n d w reads start count) (sym none) there
