-- What lies behind a producer: where walks with its key join no others, and which reads they make in front of one read.
use Rattle.std.proofs.Common.{◌≡◌, ℕ, suc, ◌+◌, ◌*◌, ◌/◌, ◌%◌, ◌^◌, ◌<◌, ◌≤◌, Bool, true, ◌&&◌, if◌then◌else◌, List, ◌∷◌, ◌++◌, length, map, Option, Some, None, refl, sym, ap, ◌∙◌, append_assoc, arith}
use Rattle.std.proofs.lemmas.List.{append_cancel_left}
use Rattle.std.specs.Int.Bits.{or_zero_r}
use Rattle.cap_format.specs.Capability.{Capability, IsCapability}
use Rattle.cap_format.specs.declared.kind.CapKind.TheVariants.{Gpt}
use Rattle.guard_math.specs.Block.{covers}
use Rattle.object_store.specs.Store.{Items, count_of}
use Rattle.object_store.specs.Ranges.{IsRanged}
use Rattle.walk_meaning.specs.declared.at.At.{At}
use Rattle.walk_meaning.specs.declared.kind.Kind.{Kind}
use Rattle.walk_meaning.specs.declared.noted.Noted.{Noted}
use Rattle.walk_meaning.specs.Walk.{past, start_at}
use Rattle.walk_meaning.specs.Trail.{trail, trail_from}
use Rattle.walk_meaning.proofs.Alike.{Alike, alike-mod}
use Rattle.walk_meaning.proofs.Along.{at, passes_along}
use Rattle.walk_meaning.proofs.BlockLaw.{block_law}
use Rattle.producers.specs.declared.producer.Produced.{Produced}
use Rattle.producers.specs.declared.producer.Producer.{Producer}
use Rattle.producers.specs.Producer.{Point, aged, at_join, cut, gpt_cap, joined_trail, joins, key_of, producer_at}
use Rattle.producers.specs.Meets.{Meets, PassesAt}
use Rattle.producers.proofs.Cuts.{map-append}
use Rattle.producers.proofs.Joins.{addresses, joins-alike, number-aged, passed_too, steps}
use Rattle.producers.proofs.Points.{meets-rests}
use Rattle.producers.proofs.Regions.{meets-along, meets-capability, meets-low, moved}
use Rattle.producers.proofs.Wide.{behind_more, header_count, joins-passed, produced_here, wide-first, wide-meets, wide-more, wide-region, wide-some, wide_from}

-- a capability to a GPT that there may be is in its ranges
IsCapability-gpt_cap : (g : ℕ) → g < 1024 → IsCapability (gpt_cap g)
IsCapability-gpt_cap g less = record {
  restr = omega arith;
  count = omega arith;
  guard = record { low = omega arith; high = omega arith; fits = omega arith };
  unguarded = λ e. absurd (cc);
  object = less;
  aligned = λ e. absurd (cc);
  payload = omega arith;
  slot = omega arith;
}

-- ---- a point, and the walks with its key

module _ (o : Items) (kind : Kind) (a : ℕ) (p : Point) (there : PassesAt p) (is : IsCapability p.cap) (low : p.at.address % 2 ^ 22 ≡ a % 2 ^ 22) where
  -- the capability and the state with which walks with the key begin
  abbrev d : Capability
  d = gpt_cap p.cap.object

  abbrev v : At
  v = at_join (key_of o p) (a % 2 ^ 22)

  key_there : producer_at o p.left d v ≡ key_of o p
  key_there =
      let top : (past d v).address / 2 ^ 22 ≡ (past p.cap p.at).address / 2 ^ 22 = ap (λ (n : ℕ). n / 2 ^ 22) (sym (addresses o kind a p there is low)) in
      let restr : (past d v).restr ≡ (past p.cap p.at).restr = ap (λ (n : ℕ). record { 0 = n }) (or_zero_r (past p.cap p.at).restr.0) in
      let back : aged o v.background ≡ aged o p.at.background = ap (aged o) (number-aged o p.at.background) in
      λ i. record {
        gpt = p.cap.object;
        age = count_of o Gpt p.cap.object;
        top = top i;
        restr = restr i;
        background = back i;
        left = p.left;
      }

  joins_there : joins d v ≡ true
  joins_there = ap (λ (b : Bool). b && true) (passed_too o kind a p there is low)

  heres : (m : ℕ) → produced_here o p.left d v m ≡ produced_here o p.left p.cap p.at m
  heres m =
      let one : produced_here o p.left d v m ≡ Some (record { producer = key_of o p; before = m }) =
      ap (λ (b : Bool). if b then Some (record { producer = producer_at o p.left d v; before = m }) else None) joins_there
      ∙ ap (λ (k : Producer). Some (record { producer = k; before = m })) key_there in
      let two : produced_here o p.left p.cap p.at m ≡ Some (record { producer = key_of o p; before = m }) =
      ap (λ (b : Bool). if b then Some (record { producer = producer_at o p.left p.cap p.at; before = m }) else None) (joins-passed p there) in
      one ∙ sym two

  counts : header_count d ≡ header_count p.cap
  counts = rw there.kind refl

  -- the last producer of the walk from the point on is that of the walks with its key
  pub wide-joined : (m : ℕ) → wide_from o kind (suc p.left) d v m ≡ wide_from o kind (suc p.left) p.cap p.at m
  wide-joined m = wide-first o kind p.left d p.cap v p.at m (heres m) counts (sym (steps o kind a p there is low))

-- at any two addresses of a region the walks with a key join the same
wide-places : (o : Items) → IsRanged o → (kind : Kind) (n g : ℕ) (k : Producer) (low other m : ℕ) → g < 1024 → low < 2 ^ 22 → other < 2 ^ 22
    → wide_from o kind n (gpt_cap g) (at_join k low) m ≡ wide_from o kind n (gpt_cap g) (at_join k other) m
wide-places o ranged kind n g k low other m less fits fits_too =
    wide-region o ranged kind kind n (gpt_cap g) (at_join k low) (k.top * 2 ^ 22 + other) m (IsCapability-gpt_cap g less)
    (let one : (k.top * 2 ^ 22 + low) / 2 ^ 22 ≡ k.top = omega (arith, fits) in
    let two : (k.top * 2 ^ 22 + other) / 2 ^ 22 ≡ k.top = omega (arith, fits_too) in
    one ∙ sym two)

-- ---- a region that comes to a point behind which no walk joins

module _ (o : Items) (ranged : IsRanged o) (kind : Kind) (a : ℕ) (c : Capability) (is : IsCapability c) (p : Point) (reads : List Noted)
    (met : Meets o kind a 32 c (start_at a) p reads) (there : PassesAt p) where
  wide : 22 ≤ p.at.l2
  wide = let w = there.wide in omega (arith, w)

  cap_is : IsCapability p.cap
  cap_is = meets-capability o ranged kind a p wide 32 c (start_at a) reads is met

  gpt_less : p.cap.object < 1024
  gpt_less = rw there.kind at cap_is.object

  lows : p.at.address % 2 ^ 22 ≡ a % 2 ^ 22
  lows = meets-low o ranged kind a p wide 32 c (start_at a) reads is met

  -- so its access joins last there
  pub joined-last : (low : ℕ) → low < 2 ^ 22
      → wide_from o kind (suc p.left) (gpt_cap p.cap.object) (at_join (key_of o p) low) 0 ≡ Some (record { producer = key_of o p; before = 0 })
      → wide_from o kind 32 c (start_at a) 0 ≡ Some (record { producer = key_of o p; before = length reads })
  joined-last low fits ends =
      let t : ℕ = length reads in
      let moves = wide-places o ranged kind (suc p.left) p.cap.object (key_of o p) (a % 2 ^ 22) low 0 gpt_less (omega arith) fits in
      let more = wide-more o kind (suc p.left) (gpt_cap p.cap.object) (at_join (key_of o p) (a % 2 ^ 22)) 0 t in
      let none : 0 + t ≡ t = omega arith in
      let joined : wide_from o kind (suc p.left) (gpt_cap p.cap.object) (at_join (key_of o p) (a % 2 ^ 22)) (0 + t) ≡ Some (record { producer = key_of o p; before = t }) =
      more ∙ (ap (behind_more t) (moves ∙ ends) ∙ ap (λ (n : ℕ). Some (record { producer = key_of o p; before = n })) none) in
      wide-meets o kind a p 32 c (start_at a) 0 reads (record { producer = key_of o p; before = t }) met
      (sym (wide-joined o kind a p there cap_is lows (0 + t)) ∙ joined)

  -- and where it joins last there, no walk with the key joins behind
  pub last-joined : wide_from o kind 32 c (start_at a) 0 ≡ Some (record { producer = key_of o p; before = length reads })
      → (low : ℕ) → low < 2 ^ 22
      → wide_from o kind (suc p.left) (gpt_cap p.cap.object) (at_join (key_of o p) low) 0 ≡ Some (record { producer = key_of o p; before = 0 })
  last-joined last low fits =
      let t : ℕ = length reads in
      let some = wide-some o kind a p (0 + t) (joins-passed p there) in
      let one = wide-meets o kind a p 32 c (start_at a) 0 reads some.0 met some.1 in
      let same : Some some.0 ≡ Some (record { producer = key_of o p; before = t }) = sym one ∙ last in
      let more = wide-more o kind (suc p.left) (gpt_cap p.cap.object) (at_join (key_of o p) (a % 2 ^ 22)) 0 t in
      let moved_by : behind_more t (wide_from o kind (suc p.left) (gpt_cap p.cap.object) (at_join (key_of o p) (a % 2 ^ 22)) 0) ≡ Some (record { producer = key_of o p; before = t }) =
      sym more ∙ (wide-joined o kind a p there cap_is lows (0 + t) ∙ (some.1 ∙ same)) in
      wide-places o ranged kind (suc p.left) p.cap.object (key_of o p) low (a % 2 ^ 22) 0 gpt_less fits (omega arith)
      ∙ back (wide_from o kind (suc p.left) (gpt_cap p.cap.object) (at_join (key_of o p) (a % 2 ^ 22)) 0) (key_of o p) t moved_by
    where
      back : (x : Option Produced) (k : Producer) (t : ℕ) → behind_more t x ≡ Some (record { producer = k; before = t }) → x ≡ Some (record { producer = k; before = 0 })
      back None k t e = absurd (cc)
      back (Some d) k t e =
          let inner : ◌≡◌ {A = Produced} (record { producer = d.producer; before = d.before + t }) (record { producer = k; before = t }) = cc (e) in
          let keys : d.producer ≡ k = ap (λ (x : Produced). x.producer) inner in
          let order : d.before + t ≡ t = ap (λ (x : Produced). x.before) inner in
          let none : d.before ≡ 0 = omega (arith, order) in
          λ i. Some (record { producer = keys i; before = none i })

  -- the reads behind the point, cut, at another address of the region that lies in the block of one of them
  pub joined-front : (b : ℕ) (pre post : List Noted) (n : Noted) → trail o c a kind ≡ reads ++ (pre ++ n ∷ post) → Alike 22 a b → covers n.block b ≡ true
      → (rest : List Noted) × (joined_trail o (key_of o p) (b % 2 ^ 22) kind ≡ map cut pre ++ cut n ∷ rest)
  joined-front b pre post n are alike inside =
      let law = block_law o c a b kind kind (reads ++ pre) post n ranged is (are ∙ sym (append_assoc reads pre (n ∷ post))) inside in
      let beside = meets-along o ranged kind kind a b alike p wide 32 c (start_at a) b reads is alike met in
      let q : Point = moved p beside.z in
      let rests = meets-rests o kind b q 32 c (start_at b) reads beside.met in
      let tail : List Noted = trail_from o kind b (suc p.left) p.cap (at p.at beside.z) in
      let both : reads ++ tail ≡ reads ++ (pre ++ n ∷ law.0) = sym rests.reads_are ∙ (law.1 ∙ append_assoc reads pre (n ∷ law.0)) in
      let tail_is : tail ≡ pre ++ n ∷ law.0 = append_cancel_left reads tail (pre ++ n ∷ law.0) both in
      let guard : 22 ≤ p.cap.guard.l2g = let w = there.wide in omega (arith, w) in
      let passed : PassesAt q = record {
        kind = there.kind;
        wide = there.wide;
        passed = passes_along 22 (omega arith) o kind p.cap cap_is p.at beside.z beside.alike guard there.passed;
      } in
      let low_is = meets-low o ranged kind b q wide 32 c (start_at b) reads is beside.met in
      let joins_too = joins-alike o kind b q passed cap_is low_is in
      let key : key_of o q ≡ key_of o p =
      ap (λ (t : ℕ). record { gpt = p.cap.object; age = count_of o Gpt p.cap.object; top = t; restr = (past p.cap p.at).restr; background = aged o p.at.background; left = p.left })
      (sym (alike-mod 22 p.cap.guard.l2g p.at.address beside.z guard beside.alike)) in (
        map cut law.0,
        sym (ap (λ (k : Producer). joined_trail o k (b % 2 ^ 22) kind) key)
            ∙ (sym joins_too.reads ∙ (ap (map cut) tail_is ∙ map-append cut pre (n ∷ law.0))),
      )
