-- Walks of the addresses of one region come to the same points, by the same reads, and keep the bits of the address in it.
use Rattle.std.proofs.Common.{◌≡◌, inl, inr, ℕ, zero, suc, ◌+◌, ◌-◌, ◌/◌, ◌%◌, ◌^◌, ◌≤◌, min, List, ◌∷◌, ◌++◌, sym, ap, subst, ◌∙◌, arith}
use Rattle.std.proofs.Math.Nat.{le_trans}
use Rattle.std.proofs.Math.Pow.{mod-mod-pow}
use Rattle.cap_format.specs.Capability.{Capability, IsCapability}
use Rattle.cap_format.specs.Kind.{is_window}
use Rattle.cap_format.specs.declared.kind.CapKind.{CapKind}
use Rattle.cap_format.specs.declared.item.Item.TheVariants.{Slot}
use Rattle.object_store.specs.Store.{Items, header_at, slot_at}
use Rattle.object_store.specs.Ranges.{IsRanged}
use Rattle.object_store.proofs.Ranged.{IsCapability-slot_at}
use Rattle.walk_meaning.specs.declared.at.At.{At}
use Rattle.walk_meaning.specs.declared.kind.Kind.{Kind}
use Rattle.walk_meaning.specs.declared.noted.Noted.{Noted}
use Rattle.walk_meaning.specs.Walk.{past}
use Rattle.walk_meaning.specs.Trail.{header_noted, noted}
use Rattle.walk_meaning.proofs.Ways.{Way, gone}
use Rattle.walk_meaning.proofs.Ways.Way.{BySlot, ByWindow, ByLocal}
use Rattle.walk_meaning.proofs.Alike.{Alike}
use Rattle.walk_meaning.proofs.Along.{at, goes_along, header-alike, slot-alike}
use Rattle.producers.specs.Producer.{Point}
use Rattle.producers.specs.Meets.{Meets}
use Rattle.producers.proofs.Points.{Meets-first, Meets-suc, Meets-zero, Onward, meets-shrinks}

-- ---- the bits of the address in the region

-- a size of a region or more keeps them
low-mod : (m a : ℕ) → 22 ≤ m → a % 2 ^ m % 2 ^ 22 ≡ a % 2 ^ 22
low-mod m a low =
    let parts : m ≡ m - 22 + 22 = omega arith in
    ap (λ (n : ℕ). a % 2 ^ n % 2 ^ 22) parts ∙ mod-mod-pow a (m - 22) 22

-- so does an offset that is a multiple of such a size
low-add : (m c a : ℕ) → 22 ≤ m → c % 2 ^ m ≡ 0 → (c + a) % 2 ^ 22 ≡ a % 2 ^ 22
low-add m c a low aligned = let region : c % 2 ^ 22 ≡ 0 = sym (low-mod m c low) ∙ ap (λ (n : ℕ). n % 2 ^ 22) aligned in omega (arith, region)

low_way : (o : Items) (c : Capability) (is : IsCapability c) (w next : At) (g i : ℕ) → Way o c (past c w) next g i → 22 ≤ next.l2 → next.address % 2 ^ 22 ≡ w.address % 2 ^ 22
low_way o c is w next g i (BySlot k object index free into) le =
    let wide : 22 ≤ min (min w.l2 c.guard.l2g) (header_at o c.object).l2v = subst (λ (t : At). 22 ≤ t.l2) (sym into) le in
    let guard : 22 ≤ c.guard.l2g = omega (arith, wide) in
    let slot : 22 ≤ (header_at o c.object).l2v = omega (arith, wide) in
    subst (λ (t : At). t.address % 2 ^ 22 ≡ w.address % 2 ^ 22) into
    (low-mod (header_at o c.object).l2v (w.address % 2 ^ c.guard.l2g) slot ∙ low-mod c.guard.l2g w.address guard)
low_way o c is w next g i (ByWindow k back index through) le =
    let wide : 22 ≤ min w.l2 c.guard.l2g = subst (λ (t : At). 22 ≤ t.l2) (sym through) le in
    let guard : 22 ≤ c.guard.l2g = omega (arith, wide) in
    let aligned : c.object % 2 ^ c.guard.l2g ≡ 0 = is.aligned (ap (λ (k : CapKind). is_window k) k) in
    subst (λ (t : At). t.address % 2 ^ 22 ≡ w.address % 2 ^ 22) through
    (low-add c.guard.l2g c.object (w.address % 2 ^ c.guard.l2g) guard aligned ∙ low-mod c.guard.l2g w.address guard)
low_way o c is w next g i (ByLocal k hold index free through) le =
    let wide : 22 ≤ min w.l2 c.guard.l2g = subst (λ (t : At). 22 ≤ t.l2) (sym through) le in
    let guard : 22 ≤ c.guard.l2g = omega (arith, wide) in
    let aligned : c.object % 2 ^ c.guard.l2g ≡ 0 = is.aligned (ap (λ (k : CapKind). is_window k) k) in
    subst (λ (t : At). t.address % 2 ^ 22 ≡ w.address % 2 ^ 22) through
    (low-add c.guard.l2g c.object (w.address % 2 ^ c.guard.l2g) guard aligned ∙ low-mod c.guard.l2g w.address guard)

-- what is left behind a guard of a region or more keeps them too
pub low-past : (c : Capability) (w : At) → 22 ≤ (past c w).l2 → (past c w).address % 2 ^ 22 ≡ w.address % 2 ^ 22
low-past c w wide = low-mod c.guard.l2g w.address (omega (arith, wide))

module _ (o : Items) (ranged : IsRanged o) (kind : Kind) (a : ℕ) (p : Point) (wide : 22 ≤ p.at.l2) where
  pub meets-low : (n : ℕ) (c : Capability) (w : At) (reads : List Noted) → IsCapability c → Meets o kind a n c w p reads → p.at.address % 2 ^ 22 ≡ w.address % 2 ^ 22
  meets-low zero c w reads is meets = absurd (Meets-zero o kind a p c w reads meets)
  meets-low (suc n) c w reads is meets = on (Meets-suc o kind a p n c w reads meets) (meets-low n)
    where
      on : Onward o kind a p n c w reads
          → ((d : Capability) (v : At) (rest : List Noted) → IsCapability d → Meets o kind a n d v p rest → p.at.address % 2 ^ 22 ≡ v.address % 2 ^ 22)
          → p.at.address % 2 ^ 22 ≡ w.address % 2 ^ 22
      on (inl here) ih = ap (λ (v : At). v.address % 2 ^ 22) here.at
      on (inr goes) ih =
          let next : At = goes.next in
          let le : 22 ≤ next.l2 = le_trans wide (meets-shrinks o kind a p n (slot_at o goes.gpt goes.slot) next goes.rest goes.further) in
          ih (slot_at o goes.gpt goes.slot) next goes.rest (IsCapability-slot_at o ranged goes.gpt goes.slot) goes.further
          ∙ low_way o c is w next goes.gpt goes.slot (gone o next goes.gpt goes.slot c kind w goes.steps).way le

  -- the capability met at the point is in its ranges
  pub meets-capability : (n : ℕ) (c : Capability) (w : At) (reads : List Noted) → IsCapability c → Meets o kind a n c w p reads → IsCapability p.cap
  meets-capability zero c w reads is meets = absurd (Meets-zero o kind a p c w reads meets)
  meets-capability (suc n) c w reads is meets = on (Meets-suc o kind a p n c w reads meets) (meets-capability n)
    where
      on : Onward o kind a p n c w reads
          → ((d : Capability) (v : At) (rest : List Noted) → IsCapability d → Meets o kind a n d v p rest → IsCapability p.cap) → IsCapability p.cap
      on (inl here) ih = subst IsCapability (sym here.cap) is
      on (inr goes) ih = ih (slot_at o goes.gpt goes.slot) goes.next goes.rest (IsCapability-slot_at o ranged goes.gpt goes.slot) goes.further

-- ---- another address of the region, and another kind

-- the point at another address
abbrev pub moved : Point → ℕ → Point
moved p z = record p { at = at p.at z }

-- a walk to address b comes to the point that one to address a came to
pub record Beside (o : Items) (kind : Kind) (b n : ℕ) (c : Capability) (w : At) (y : ℕ) (p : Point) (reads : List Noted) : Type 0 where
  pub z : ℕ
  pub met : Meets o kind b n c (at w y) (moved p z) reads
  pub alike : Alike 22 p.at.address z

module _ (o : Items) (ranged : IsRanged o) (kind other : Kind) (a b : ℕ) (near : Alike 22 a b) (p : Point) (wide : 22 ≤ p.at.l2) where
  pub meets-along : (n : ℕ) (c : Capability) (w : At) (y : ℕ) (reads : List Noted) → IsCapability c → Alike 22 w.address y → Meets o kind a n c w p reads → Beside o other b n c w y p reads
  meets-along zero c w y reads is alike meets = absurd (Meets-zero o kind a p c w reads meets)
  meets-along (suc n) c w y reads is alike meets = on (Meets-suc o kind a p n c w reads meets) (meets-along n)
    where
      on : Onward o kind a p n c w reads
          → ((d : Capability) (v : At) (x : ℕ) (rest : List Noted) → IsCapability d → Alike 22 v.address x → Meets o kind a n d v p rest → Beside o other b n d v x p rest)
          → Beside o other b (suc n) c w y p reads
      on (inl here) ih = record {
        z = y;
        met = Meets-first o other b (moved p y) n c (at w y) reads (inl (record { left = here.left; cap = here.cap; at = ap (λ (v : At). at v y) here.at; none = here.none }));
        alike = ap (λ (v : At). v.address / 2 ^ 22) here.at ∙ alike;
      }
      on (inr goes) ih =
          let next : At = goes.next in
          let g : ℕ = goes.gpt in
          let i : ℕ = goes.slot in
          let le : 22 ≤ next.l2 = le_trans wide (meets-shrinks o kind a p n (slot_at o g i) next goes.rest goes.further) in
          let start : 22 ≤ w.l2 = le_trans wide (meets-shrinks o kind a p (suc n) c w reads meets) in
          let along = goes_along 22 (omega arith) o other c is w y alike kind next g i goes.steps le in
          let rest = ih (slot_at o g i) next along.z goes.rest (IsCapability-slot_at o ranged g i) along.alike goes.further in
          record {
            z = rest.z;
            met = Meets-first o other b (moved p rest.z) n c (at w y) reads (inr (record {
              next = at next along.z;
              gpt = g;
              slot = i;
              rest = goes.rest;
              steps = along.steps;
              reads_are =
                  goes.reads_are
                  ∙ (ap (λ (t : List Noted). t ++ noted (Slot g i) a next.l2 ∷ goes.rest) (sym (header-alike 22 a b c w.l2 start near))
                  ∙ ap (λ (m : Noted). header_noted c b w.l2 ++ m ∷ goes.rest) (sym (slot-alike 22 a b g i next.l2 le near)));
              further = rest.met;
            }));
            alike = rest.alike;
          }
