-- The proof that all addresses of a page are walked alike: by induction on the capabilities that may be met,
-- along a walk whose address is alike from bit 12 on.
use Rattle.std.proofs.Common.{◌≡◌, ℕ, zero, suc, ◌+◌, ◌/◌, ◌%◌, ◌≤◌, false, nat_le, List, ◌∷◌, ◌++◌, Result, Ok, Err, refl, sym, ◌∙◌, ap, arith}
use Rattle.std.proofs.lemmas.Bool.Decides.{nat_tests}
use Rattle.cap_format.specs.Capability.{Capability, IsCapability}
use Rattle.cap_format.specs.declared.fault.FaultCode.TheVariants.{MalformedSpace}
use Rattle.cap_format.specs.declared.item.Item.TheVariants.{Slot}
use Rattle.guard_math.specs.Pass.{remainder}
use Rattle.object_store.specs.Store.{Items, slot_at}
use Rattle.object_store.specs.Ranges.{IsRanged}
use Rattle.object_store.proofs.Ranged.{IsHeader-header_at, IsCapability-slot_at}
use Rattle.walk_meaning.specs.declared.at.At.{At}
use Rattle.walk_meaning.specs.declared.kind.Kind.{Kind}
use Rattle.walk_meaning.specs.declared.noted.Noted.{Noted}
use Rattle.walk_meaning.specs.declared.place.Place.{Place}
use Rattle.walk_meaning.specs.declared.place.WalkFault.{WalkFault}
use Rattle.walk_meaning.specs.declared.step.Step.{Step}
use Rattle.walk_meaning.specs.declared.step.Step.TheVariants.{Reach, Fault, Go}
use Rattle.walk_meaning.specs.Walk.{past, reached_place, step, walk, fault, start_at}
use Rattle.walk_meaning.specs.Trail.{noted, header_noted, trail_from, read_cost, slots_from}
use Rattle.walk_meaning.specs.After.{walk_after, trail_after, slots_after}
use Rattle.walk_meaning.proofs.Walked.{walk-zero, walk-suc, trail_from-suc, slots_from-suc}
use Rattle.walk_meaning.proofs.Ends.{reached, step-reaches}
use Rattle.walk_meaning.proofs.Alike.{Alike, alike-mod, low-mod}
use Rattle.walk_meaning.proofs.Along.{at, passes_along, goes_along, goes_low, header-alike, slot-alike}
use Rattle.walk_meaning.specs.Laws.{PageLaw}

-- a place at another offset
abbrev pub at_offset : Place → ℕ → Place
at_offset place offset = record place { offset = offset }

-- in one page, or in none, together
page_along : (x y : ℕ) → x / 4096 ≡ y / 4096 → nat_le 4096 x ≡ false → (nat_le 4096 y ≡ false) × (x % 4096 ≡ x) × (y % 4096 ≡ y)
page_along x y alike under = (grind (arith, nat_tests), grind (arith, nat_tests), grind (arith, nat_tests))

module _ (o : Items) (ranged : IsRanged o) (kind : Kind) (a b : ℕ) (page : a / 4096 ≡ b / 4096) (place : Place) where
  -- what is shown of each number of capabilities
  record Paged (n : ℕ) (c : Capability) (w : At) (y : ℕ) : Type 0 where
    offset : place.offset ≡ a % 4096
    there : walk o kind n c (at w y) ≡ Ok (at_offset place (b % 4096))
    reads : trail_from o kind b n c (at w y) ≡ trail_from o kind a n c w
    cost : slots_from o kind n c (at w y) ≡ slots_from o kind n c w

  record PagedAfter (n : ℕ) (s t : Step) : Type 0 where
    offset : place.offset ≡ a % 4096
    there : walk_after o kind n t ≡ Ok (at_offset place (b % 4096))
    reads : trail_after o kind b n t ≡ trail_after o kind a n s
    cost : slots_after o kind n t ≡ slots_after o kind n s

  -- a walk at address x, for the accessed address a, and one at y, for b
  record Beside (c : Capability) (w : At) (y : ℕ) : Type 0 where
    is : IsCapability c
    low : 12 ≤ w.l2
    alike : Alike 12 w.address y
    first : w.address % 4096 ≡ a % 4096
    second : y % 4096 ≡ b % 4096

  abbrev Rest : ℕ → Type 0
  Rest n = (c : Capability) (w : At) (y : ℕ) → Beside c w y → walk o kind n c w ≡ Ok place → Paged n c w y

  paged_reach : (n : ℕ) (p : Place) (c : Capability) (w : At) (y : ℕ) → Beside c w y → step o kind c w ≡ Reach p → p ≡ place → PagedAfter n (Reach p) (step o kind c (at w y))
  paged_reach n p c w y beside e same =
      let r = reached kind p o c w e in
      let rest : Alike 12 (remainder c.guard w.address) (remainder c.guard y) = alike-mod 12 c.guard.l2g w.address y beside.is.guard.low beside.alike in
      let within = page_along (remainder c.guard w.address) (remainder c.guard y) rest r.within in
      let steps = step-reaches o kind c (at w y) (passes_along 12 (omega arith) o kind c beside.is w y beside.alike beside.is.guard.low r.passed) r.serves within.0 r.allowed in
      let first : remainder c.guard w.address ≡ a % 4096 = sym within.1 ∙ (low-mod c.guard.l2g w.address beside.is.guard.low ∙ beside.first) in
      let second : remainder c.guard y ≡ b % 4096 = sym within.2 ∙ (low-mod c.guard.l2g y beside.is.guard.low ∙ beside.second) in
      let place_is : reached_place c (past c w) ≡ place = r.place ∙ same in
      let end : step o kind c (at w y) ≡ Reach (at_offset place (b % 4096)) =
      steps ∙ (ap (λ (v : ℕ). Reach (at_offset (reached_place c (past c w)) v)) second ∙ ap (λ (q : Place). Reach (at_offset q (b % 4096))) place_is) in
      record {
        offset = sym (ap (λ (q : Place). q.offset) place_is) ∙ first;
        there = ap (λ (t : Step). walk_after o kind n t) end;
        reads = ap (λ (t : Step). trail_after o kind b n t) end;
        cost = ap (λ (t : Step). slots_after o kind n t) end;
      }

  paged_go : (n : ℕ) → Rest n → (c : Capability) (w : At) (y : ℕ) → Beside c w y → (next : At) (g i : ℕ) → step o kind c w ≡ Go next g i
      → walk o kind n (slot_at o g i) next ≡ Ok place → PagedAfter n (Go next g i) (step o kind c (at w y))
  paged_go n ih c w y beside next g i e reach =
      let low : 12 ≤ next.l2 = goes_low o (IsHeader-header_at o ranged) kind c beside.is w next g i beside.low e in
      let along = goes_along 12 (omega arith) o kind c beside.is w y beside.alike kind next g i e low in
      let rest = ih (slot_at o g i) next along.z (record {
        is = IsCapability-slot_at o ranged g i;
        low = low;
        alike = along.alike;
        first = along.low ∙ beside.first;
        second = along.low_z ∙ beside.second;
      }) reach in
      record {
        offset = rest.offset;
        there = ap (λ (t : Step). walk_after o kind n t) along.steps ∙ rest.there;
        reads = ap (λ (t : Step). trail_after o kind b n t) along.steps
            ∙ (ap (λ (m : Noted). m ∷ trail_from o kind b n (slot_at o g i) (at next along.z)) (slot-alike 12 a b g i next.l2 low page)
            ∙ ap (λ (ms : List Noted). noted (Slot g i) a next.l2 ∷ ms) rest.reads);
        cost = ap (λ (t : Step). slots_after o kind n t) along.steps ∙ ap (λ (k : ℕ). read_cost n + k) rest.cost;
      }

  paged_after : (n : ℕ) → Rest n → (c : Capability) (w : At) (y : ℕ) → Beside c w y → (s : Step) → step o kind c w ≡ s → walk_after o kind n s ≡ Ok place → PagedAfter n s (step o kind c (at w y))
  paged_after n ih c w y beside (Reach p) e reach = paged_reach n p c w y beside e (cc (reach))
  paged_after n ih c w y beside (Fault code handler) e reach = absurd (cc (reach))
  paged_after n ih c w y beside (Go next g i) e reach = paged_go n ih c w y beside next g i e reach

  paged_suc : (n : ℕ) → Rest n → Rest (suc n)
  paged_suc n ih c w y beside reach =
      let rest = paged_after n ih c w y beside (step o kind c w) refl (sym (walk-suc o kind n c w) ∙ reach) in
      record {
        offset = rest.offset;
        there = walk-suc o kind n c (at w y) ∙ rest.there;
        reads = trail_from-suc o kind b n c (at w y)
            ∙ (ap (λ (ms : List Noted). ms ++ trail_after o kind b n (step o kind c (at w y))) (header-alike 12 a b c w.l2 beside.low page)
            ∙ (ap (λ (ms : List Noted). header_noted c a w.l2 ++ ms) rest.reads ∙ sym (trail_from-suc o kind a n c w)));
        cost = slots_from-suc o kind n c (at w y) ∙ (rest.cost ∙ sym (slots_from-suc o kind n c w));
      }

  paged : (n : ℕ) → Rest n
  paged zero c w y beside reach = let e : ◌≡◌ {A = Result Place WalkFault} (Err (fault o MalformedSpace w.handler)) (Ok place) = sym (walk-zero o kind c w) ∙ reach in absurd (cc (e))
  paged (suc n) c w y beside reach = paged_suc n (paged n) c w y beside reach

-- all addresses of a page are walked alike
pub page_law : PageLaw
page_law o c a b kind place ranged is page reach =
    let all = paged o ranged kind a b page place 32 c (start_at a) b (record { is = is; low = omega arith; alike = page; first = refl; second = refl }) reach in
    record { offset = all.offset; reached = all.there; reads = all.reads; cost = all.cost }
