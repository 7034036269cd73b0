-- Walks that differ in the handler, in sizes of a region or more, and in the bits of the accessed address above a region reach
-- the same place, and make the same reads, cut to the region.
use Rattle.std.proofs.Common.{◌≡◌, ◌⊎◌, inl, inr, ℕ, zero, suc, ◌-◌, ◌*◌, ◌/◌, ◌%◌, ◌^◌, ◌<◌, ◌≤◌, leb, min, Bool, true, false, if◌then◌else◌, List, [], ◌∷◌, ◌++◌, map, Some, refl, sym, ap, ◌∙◌, arith}
use Rattle.std.specs.Result.{result_ok}
use Rattle.std.proofs.Math.Nat.{mul_comm}
use Rattle.std.proofs.Math.Arith.{mod-mul}
use Rattle.std.proofs.lemmas.Nat.{pow_pos, div-mul-add}
use Rattle.std.proofs.lemmas.Bool.Decides.{leb_tells}
use Rattle.cap_format.specs.Capability.{Capability}
use Rattle.cap_format.specs.Kind.{is_counted, object_kind}
use Rattle.cap_format.specs.declared.item.Item.{Item}
use Rattle.cap_format.specs.declared.item.Item.TheVariants.{Header, Slot}
use Rattle.guard_math.specs.Block.{BlockValue, around, block_of}
use Rattle.object_store.specs.Store.{Items, slot_at}
use Rattle.walk_meaning.specs.declared.at.At.{At}
use Rattle.walk_meaning.specs.declared.kind.Kind.{Kind}
use Rattle.walk_meaning.specs.declared.noted.Noted.{Noted}
use Rattle.walk_meaning.specs.declared.place.Place.{Place}
use Rattle.walk_meaning.specs.declared.step.Step.{Step}
use Rattle.walk_meaning.specs.declared.step.Step.TheVariants.{Reach, Fault, Go}
use Rattle.walk_meaning.specs.Walk.{step, walk}
use Rattle.walk_meaning.specs.Trail.{header_noted, noted, noted_in, trail_from}
use Rattle.walk_meaning.specs.After.{trail_after, walk_after}
use Rattle.walk_meaning.proofs.Walked.{trail_from-suc, trail_from-zero, walk-suc, walk-zero}
use Rattle.walk_meaning.proofs.Alike.{size_by}
use Rattle.producers.specs.Producer.{cut, cut_block}
use Rattle.producers.proofs.Stripped.{step-stripped, strip, strip_at}

-- ---- cut reads

-- the part of an address below a larger size, in smaller sizes
mod_div : (n s k : ℕ) → 0 < s → 0 < k → n % (s * k) / s ≡ n / s % k
mod_div n s k s_pos k_pos =
    let cut' = ap (λ (t : ℕ). n % t) (mul_comm s k) ∙ mod-mul n {m = k} {c = s} k_pos s_pos in
    let below : n % s < s = omega arith in
    ap (λ (t : ℕ). t / s) cut' ∙ div-mul-add (n / s % k) s (n % s) below

-- the block round an address, cut, is the block round the address's bits in the region
cut-around : (a l : ℕ) → cut_block (around a l) ≡ around (a % 2 ^ 22) (min l 22)
cut-around a l = ap (λ (q : ℕ). block_of (q * 2 ^ min l 22) (min l 22)) (on (leb_tells l 22))
  where
    on : ((leb l 22 ≡ true) × (l ≤ 22)) ⊎ ((leb l 22 ≡ false) × (22 < l)) → a / 2 ^ l * 2 ^ l % 2 ^ 22 / 2 ^ min l 22 ≡ a % 2 ^ 22 / 2 ^ min l 22
    on (inl low) =
        let small : min l 22 ≡ l = let le = low.1 in omega (arith, le) in
        let whole : 2 ^ 22 ≡ 2 ^ l * 2 ^ (22 - l) = size_by l 22 low.1 in
        let exact : a / 2 ^ l * 2 ^ l / 2 ^ l ≡ a / 2 ^ l = let e = div-mul-add (a / 2 ^ l) (2 ^ l) 0 (pow_pos l) in ap (λ (n : ℕ). n / 2 ^ l) (omega arith) ∙ e in
        let left = ap (λ (s : ℕ). a / 2 ^ l * 2 ^ l % s / 2 ^ l) whole ∙ mod_div (a / 2 ^ l * 2 ^ l) (2 ^ l) (2 ^ (22 - l)) (pow_pos l) (pow_pos (22 - l)) in
        let right = ap (λ (s : ℕ). a % s / 2 ^ l) whole ∙ mod_div a (2 ^ l) (2 ^ (22 - l)) (pow_pos l) (pow_pos (22 - l)) in
        rw small (left ∙ (ap (λ (n : ℕ). n % 2 ^ (22 - l)) exact ∙ sym right))
    on (inr high) =
        let large : min l 22 ≡ 22 = let more = high.1 in omega (arith, more) in
        rw large (none (a / 2 ^ l * 2 ^ l) ∙ sym (none a))
      where
        none : (n : ℕ) → n % 2 ^ 22 / 2 ^ 22 ≡ 0
        none n = omega arith

pub cut-noted : (item : Item) (a l : ℕ) → cut (noted item a l) ≡ noted item (a % 2 ^ 22) (min l 22)
cut-noted item a l = ap (λ (b : BlockValue). noted_in item b) (cut-around a l)

pub map-append : (f : Noted → Noted) (xs ys : List Noted) → map f (xs ++ ys) ≡ map f xs ++ map f ys
map-append f [] ys = refl
map-append f (x ∷ xs) ys = ap (λ (t : List Noted). f x ∷ t) (map-append f xs ys)

-- two reads of an item that are the same when they are cut
pub cut-same : (item : Item) (a b l m : ℕ) → a % 2 ^ 22 ≡ b % 2 ^ 22 → min l 22 ≡ min m 22 → cut (noted item a l) ≡ cut (noted item b m)
cut-same item a b l m near size =
    cut-noted item a l ∙ (ap (λ (x : ℕ). noted item x (min l 22)) near ∙ (ap (λ (x : ℕ). noted item (b % 2 ^ 22) x) size ∙ sym (cut-noted item b m)))

cut-header : (c : Capability) (a b l m : ℕ) → a % 2 ^ 22 ≡ b % 2 ^ 22 → min l 22 ≡ min m 22 → map cut (header_noted c a l) ≡ map cut (header_noted c b m)
cut-header c a b l m near size = on (is_counted c.kind)
  where
    on : (x : Bool) → map cut (if x then noted (Header (object_kind c.kind) c.object) a l ∷ [] else []) ≡ map cut (if x then noted (Header (object_kind c.kind) c.object) b m ∷ [] else [])
    on true = ap (λ (n : Noted). n ∷ []) (cut-same (Header (object_kind c.kind) c.object) a b l m near size)
    on false = refl

-- ---- walks

module _ (o : Items) (kind : Kind) (a b : ℕ) (near : a % 2 ^ 22 ≡ b % 2 ^ 22) where
  pub record CutAlike (n : ℕ) (c d : Capability) (w v : At) : Type 0 where
    pub place : result_ok (walk o kind n c w) ≡ result_ok (walk o kind n d v)
    pub reads : map cut (trail_from o kind a n c w) ≡ map cut (trail_from o kind b n d v)

  pub record AfterAlike (n : ℕ) (s t : Step) : Type 0 where
    pub place : result_ok (walk_after o kind n s) ≡ result_ok (walk_after o kind n t)
    pub reads : map cut (trail_after o kind a n s) ≡ map cut (trail_after o kind b n t)

  abbrev Rest : ℕ → Type 0
  Rest n = (c : Capability) (w v : At) → strip_at w ≡ strip_at v → CutAlike n c c w v

  pub after_alike : (n : ℕ) → Rest n → (s t : Step) → strip s ≡ strip t → AfterAlike n s t
  after_alike n ih (Reach p) (Reach q) e = let same : p ≡ q = cc (e) in record { place = ap (λ (x : Place). Some x) same; reads = refl }
  after_alike n ih (Fault x h) (Fault y k) e = record { place = refl; reads = refl }
  after_alike n ih (Go next g i) (Go other f j) e =
      let states : strip_at next ≡ strip_at other = cc (e) in
      let gpts : g ≡ f = cc (e) in
      let slots : i ≡ j = cc (e) in
      let size : min next.l2 22 ≡ min other.l2 22 = ap (λ (w : At). w.l2) states in
      let rest = ih (slot_at o g i) next other states in
      let there : slot_at o g i ≡ slot_at o f j = ap (λ (x : ℕ). slot_at o x i) gpts ∙ ap (λ (x : ℕ). slot_at o f x) slots in
      let item : Slot g i ≡ Slot f j = ap (λ (x : ℕ). Slot x i) gpts ∙ ap (λ (x : ℕ). Slot f x) slots in
      record {
        place = rest.place ∙ ap (λ (d : Capability). result_ok (walk o kind n d other)) there;
        reads =
            ap (λ (m : Noted). m ∷ map cut (trail_from o kind a n (slot_at o g i) next)) (cut-same (Slot g i) a b next.l2 other.l2 near size ∙ ap (λ (x : Item). cut (noted x b other.l2)) item)
            ∙ ap (λ (t : List Noted). cut (noted (Slot f j) b other.l2) ∷ t) (rest.reads ∙ ap (λ (d : Capability). map cut (trail_from o kind b n d other)) there);
      }
  after_alike n ih (Reach p) (Fault y k) e = absurd (cc (e))
  after_alike n ih (Reach p) (Go other f j) e = absurd (cc (e))
  after_alike n ih (Fault x h) (Reach q) e = absurd (cc (e))
  after_alike n ih (Fault x h) (Go other f j) e = absurd (cc (e))
  after_alike n ih (Go next g i) (Reach q) e = absurd (cc (e))
  after_alike n ih (Go next g i) (Fault y k) e = absurd (cc (e))

  -- two first steps that are the same, with headers that are the same
  pub suc_alike : (n : ℕ) → Rest n → (c d : Capability) (w v : At) → strip (step o kind c w) ≡ strip (step o kind d v)
      → map cut (header_noted c a w.l2) ≡ map cut (header_noted d b v.l2) → CutAlike (suc n) c d w v
  suc_alike n ih c d w v steps headers =
      let after = after_alike n ih (step o kind c w) (step o kind d v) steps in
      record {
        place = ap result_ok (walk-suc o kind n c w) ∙ (after.place ∙ sym (ap result_ok (walk-suc o kind n d v)));
        reads =
            ap (map cut) (trail_from-suc o kind a n c w)
            ∙ (map-append cut (header_noted c a w.l2) (trail_after o kind a n (step o kind c w))
            ∙ (ap (λ (t : List Noted). t ++ map cut (trail_after o kind a n (step o kind c w))) headers
            ∙ (ap (λ (t : List Noted). map cut (header_noted d b v.l2) ++ t) after.reads
            ∙ (sym (map-append cut (header_noted d b v.l2) (trail_after o kind b n (step o kind d v)))
            ∙ sym (ap (map cut) (trail_from-suc o kind b n d v))))));
      }

  pub cut_alike : (n : ℕ) → Rest n
  cut_alike zero c w v same = record {
    place = ap result_ok (walk-zero o kind c w) ∙ sym (ap result_ok (walk-zero o kind c v));
    reads = ap (map cut) (trail_from-zero o kind a c w) ∙ sym (ap (map cut) (trail_from-zero o kind b c v));
  }
  cut_alike (suc n) c w v same =
      suc_alike n (cut_alike n) c c w v (step-stripped o kind c w v same) (cut-header c a b w.l2 v.l2 near (ap (λ (u : At). u.l2) same))
