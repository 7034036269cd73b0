-- Two walks along each other: addresses that are alike from a bit on take the same steps, as long as
-- no smaller size is passed.
use Rattle.std.proofs.Common.{◌≡◌, ℕ, ◌+◌, ◌/◌, ◌%◌, ◌^◌, ◌≤◌, min, true, false, ◌&&◌, ◌||◌, nat_lt, ◌==◌, [], ◌∷◌, if◌then◌else◌, refl, sym, ◌∙◌, ap, subst}
use Rattle.std.proofs.Math.Nat.{le_trans, le-min, min-le_left, min-le_right}
use Rattle.cap_format.specs.Capability.{Capability, IsCapability}
use Rattle.cap_format.specs.Kind.{is_counted, is_memory, is_window, object_kind}
use Rattle.cap_format.specs.declared.item.Item.TheVariants.{Header, Slot}
use Rattle.cap_format.specs.declared.kind.CapKind.{CapKind}
use Rattle.cap_format.specs.declared.kind.CapKind.TheVariants.{Gpt}
use Rattle.gpt_objects.specs.Header.{IsHeader}
use Rattle.guard_math.specs.Block.{BlockValue}
use Rattle.guard_math.specs.Pass.{passes, remainder}
use Rattle.object_store.specs.Store.{Items, header_at}
use Rattle.walk_meaning.specs.declared.at.At.{At}
use Rattle.walk_meaning.specs.declared.kind.Kind.{Kind}
use Rattle.walk_meaning.specs.declared.step.Step.TheVariants.{Go}
use Rattle.walk_meaning.specs.Walk.{is_reserved, into_slot, through_window, past, step}
use Rattle.walk_meaning.specs.Trail.{noted, noted_in, header_noted}
use Rattle.walk_meaning.proofs.Ways.{Way, gone, step-slot, step-window, step-local}
use Rattle.walk_meaning.proofs.Ways.Way.{BySlot, ByWindow, ByLocal}
use Rattle.walk_meaning.proofs.Alike.{Alike, alike-above, alike-mod, alike-add, around-alike, low-mod, low-add}

-- the walk with another address
abbrev pub at : At → ℕ → At
at w y = record w { address = y }

-- a step that goes on takes the walk at address y along, to address z
pub record Along (l : ℕ) (o : Items) (kind : Kind) (c : Capability) (w : At) (y : ℕ) (next : At) (g i : ℕ) : Type 0 where
  pub z : ℕ
  pub steps : step o kind c (at w y) ≡ Go (at next z) g i
  pub alike : Alike l next.address z
  pub low : next.address % 4096 ≡ w.address % 4096
  pub low_z : z % 4096 ≡ y % 4096

module _ (l : ℕ) (page : 12 ≤ l) (o : Items) (kind : Kind) (c : Capability) (is : IsCapability c) (w : At) (y : ℕ) (alike : Alike l w.address y) where
  -- both pass the guard, or neither
  pub passes_along : l ≤ c.guard.l2g → (is_memory c.kind && passes c.guard w.address) ≡ true → (is_memory c.kind && passes c.guard y) ≡ true
  passes_along le passed = ap (λ (q : ℕ). is_memory c.kind && (q == c.guard.matches)) (sym (alike-above l c.guard.l2g w.address y le alike)) ∙ passed

  along_slot : (h : ℕ) (i : ℕ) → (header_at o c.object).l2v ≡ h → l ≤ min (min w.l2 c.guard.l2g) h → (is_memory c.kind && passes c.guard w.address) ≡ true → c.kind ≡ Gpt
      → (past c w).address / 2 ^ h ≡ i → (nat_lt 15 i || is_reserved (header_at o c.object) i) ≡ false
      → Along l o kind c w y (into_slot (header_at o c.object) c.object (past c w)) c.object i
  along_slot h i l2v le passed k index free =
      let guard : l ≤ c.guard.l2g = le_trans le (le_trans (min-le_left (min w.l2 c.guard.l2g) h) (min-le_right w.l2 c.guard.l2g)) in
      let slot : l ≤ h = le_trans le (min-le_right (min w.l2 c.guard.l2g) h) in
      let rest : Alike l (remainder c.guard w.address) (remainder c.guard y) = alike-mod l c.guard.l2g w.address y guard alike in
      let index_y : remainder c.guard y / 2 ^ (header_at o c.object).l2v ≡ i =
      ap (λ (n : ℕ). remainder c.guard y / 2 ^ n) l2v ∙ (sym (alike-above l h (remainder c.guard w.address) (remainder c.guard y) slot rest) ∙ index) in
      record {
        z = remainder c.guard y % 2 ^ (header_at o c.object).l2v;
        steps = step-slot o kind c (at w y) i (passes_along guard passed) k index_y free;
        alike = alike-mod l (header_at o c.object).l2v (remainder c.guard w.address) (remainder c.guard y) (rw l2v slot) rest;
        low = low-mod (header_at o c.object).l2v (remainder c.guard w.address) (rw l2v (le_trans page slot)) ∙ low-mod c.guard.l2g w.address (le_trans page guard);
        low_z = low-mod (header_at o c.object).l2v (remainder c.guard y) (rw l2v (le_trans page slot)) ∙ low-mod c.guard.l2g y (le_trans page guard);
      }

  along_window : (g i : ℕ) → l ≤ min w.l2 c.guard.l2g → c.object % 2 ^ c.guard.l2g ≡ 0
      → step o kind c (at w y) ≡ Go (through_window c g (past c (at w y))) g i
      → Along l o kind c w y (through_window c g (past c w)) g i
  along_window g i le aligned steps =
      let guard : l ≤ c.guard.l2g = le_trans le (min-le_right w.l2 c.guard.l2g) in
      let rest : Alike l (remainder c.guard w.address) (remainder c.guard y) = alike-mod l c.guard.l2g w.address y guard alike in
      record {
        z = c.object + remainder c.guard y;
        steps = steps;
        alike = alike-add l c.guard.l2g c.object (remainder c.guard w.address) (remainder c.guard y) guard aligned rest;
        low = low-add c.guard.l2g c.object (remainder c.guard w.address) (le_trans page guard) aligned ∙ low-mod c.guard.l2g w.address (le_trans page guard);
        low_z = low-add c.guard.l2g c.object (remainder c.guard y) (le_trans page guard) aligned ∙ low-mod c.guard.l2g y (le_trans page guard);
      }

  along_way : (next : At) (g i : ℕ) → (is_memory c.kind && passes c.guard w.address) ≡ true → Way o c (past c w) next g i → l ≤ next.l2 → Along l o kind c w y next g i
  along_way next g i passed (BySlot k object index free into) le =
      let P : At → Type 0 = λ t. l ≤ t.l2 in
      let Q : At → Type 0 = λ t. Along l o kind c w y t g i in
      let R : ℕ → Type 0 = λ f. Along l o kind c w y (into_slot (header_at o c.object) c.object (past c w)) f i in
      subst Q into (subst R object (along_slot (header_at o c.object).l2v i refl (subst P (sym into) le) passed k index free))
  along_way next g i passed (ByWindow k back index through) le =
      let P : At → Type 0 = λ t. l ≤ t.l2 in
      let Q : At → Type 0 = λ t. Along l o kind c w y t g i in
      let R : ℕ → Type 0 = λ j. Along l o kind c w y (through_window c g (past c w)) g j in
      let small : l ≤ min w.l2 c.guard.l2g = subst P (sym through) le in
      let aligned : c.object % 2 ^ c.guard.l2g ≡ 0 = is.aligned (ap (λ (k : CapKind). is_window k) k) in
      let along = passes_along (le_trans small (min-le_right w.l2 c.guard.l2g)) passed in
      subst Q through (subst R index (along_window g 14 small aligned (step-window o kind c (at w y) g along k back)))
  along_way next g i passed (ByLocal k hold index free through) le =
      let P : At → Type 0 = λ t. l ≤ t.l2 in
      let Q : At → Type 0 = λ t. Along l o kind c w y t g i in
      let R : ℕ → Type 0 = λ j. Along l o kind c w y (through_window c g (past c w)) g j in
      let small : l ≤ min w.l2 c.guard.l2g = subst P (sym through) le in
      let aligned : c.object % 2 ^ c.guard.l2g ≡ 0 = is.aligned (ap (λ (k : CapKind). is_window k) k) in
      let along = passes_along (le_trans small (min-le_right w.l2 c.guard.l2g)) passed in
      subst Q through (subst R index (along_window g c.slot small aligned (step-local o kind c (at w y) g along k hold free)))

  -- a step that goes on takes an address along that is alike from a bit on that is not above the sizes passed
  pub goes_along : (other : Kind) (next : At) (g i : ℕ) → step o other c w ≡ Go next g i → l ≤ next.l2 → Along l o kind c w y next g i
  goes_along other next g i e le = let d = gone o next g i c other w e in along_way next g i d.passed d.way le

-- a step that goes on passes sizes of a page or more, where all are in their ranges
low_way : (o : Items) (headers : (g : ℕ) → IsHeader (header_at o g)) (c : Capability) (is : IsCapability c) (w next : At) (g i : ℕ) → 12 ≤ w.l2 → Way o c (past c w) next g i → 12 ≤ next.l2
low_way o headers c is w next g i low (BySlot k object index free into) =
    subst (λ (t : At). 12 ≤ t.l2) into (le-min (le-min low is.guard.low) (headers c.object).low)
low_way o headers c is w next g i low (ByWindow k back index through) = subst (λ (t : At). 12 ≤ t.l2) through (le-min low is.guard.low)
low_way o headers c is w next g i low (ByLocal k hold index free through) = subst (λ (t : At). 12 ≤ t.l2) through (le-min low is.guard.low)

-- so it is with every step that goes on
pub goes_low : (o : Items) (headers : (g : ℕ) → IsHeader (header_at o g)) (kind : Kind) (c : Capability) (is : IsCapability c) (w next : At) (g i : ℕ) → 12 ≤ w.l2 → step o kind c w ≡ Go next g i → 12 ≤ next.l2
goes_low o headers kind c is w next g i low e = low_way o headers c is w next g i low (gone o next g i c kind w e).way

-- a step never raises the least size passed
shrinks_way : (o : Items) (c : Capability) (w next : At) (g i : ℕ) → Way o c (past c w) next g i → next.l2 ≤ w.l2
shrinks_way o c w next g i (BySlot k object index free into) =
    subst (λ (t : At). t.l2 ≤ w.l2) into (le_trans (min-le_left (min w.l2 c.guard.l2g) (header_at o c.object).l2v) (min-le_left w.l2 c.guard.l2g))
shrinks_way o c w next g i (ByWindow k back index through) = subst (λ (t : At). t.l2 ≤ w.l2) through (min-le_left w.l2 c.guard.l2g)
shrinks_way o c w next g i (ByLocal k hold index free through) = subst (λ (t : At). t.l2 ≤ w.l2) through (min-le_left w.l2 c.guard.l2g)

-- so it is with every step that goes on
pub goes_shrinks : (o : Items) (kind : Kind) (c : Capability) (w next : At) (g i : ℕ) → step o kind c w ≡ Go next g i → next.l2 ≤ w.l2
goes_shrinks o kind c w next g i e = shrinks_way o c w next g i (gone o next g i c kind w e).way

-- both note the same reads, whose sizes are not below the one from which on they are alike
pub header-alike : (l a b : ℕ) (c : Capability) (l2 : ℕ) → l ≤ l2 → Alike l a b → header_noted c b l2 ≡ header_noted c a l2
header-alike l a b c l2 le alike =
    ap (λ (block : BlockValue). if is_counted c.kind then noted_in (Header (object_kind c.kind) c.object) block ∷ [] else []) (sym (around-alike l l2 a b le alike))

-- so it is with the read of a slot
pub slot-alike : (l a b g i l2 : ℕ) → l ≤ l2 → Alike l a b → noted (Slot g i) b l2 ≡ noted (Slot g i) a l2
slot-alike l a b g i l2 le alike = ap (λ (block : BlockValue). noted_in (Slot g i) block) (sym (around-alike l l2 a b le alike))
