-- From its producer on, a walk goes as its key says.
use Rattle.std.proofs.Common.{◌≡◌, ℕ, suc, ◌+◌, ◌*◌, ◌/◌, ◌%◌, ◌^◌, ◌<◌, ◌≤◌, min, true, ◌&&◌, ◌==◌, List, [], ◌∷◌, map, Option, Some, None, Result, Ok, Err, refl, sym, ap, subst, ◌∙◌, arith}
use Rattle.std.specs.Result.{result_ok}
use Rattle.std.specs.Int.Bits.{or_zero_r}
use Rattle.std.proofs.Math.Nat.{mod-lt}
use Rattle.std.proofs.Math.Pow.{pow_mono}
use Rattle.std.proofs.lemmas.Nat.{pow_pos}
use Rattle.std.proofs.lemmas.Option.{none-some}
use Rattle.cap_format.specs.Capability.{IsCapability}
use Rattle.cap_format.specs.Kind.{is_memory}
use Rattle.cap_format.specs.declared.item.Item.TheVariants.{Header}
use Rattle.cap_format.specs.declared.kind.CapKind.{CapKind}
use Rattle.cap_format.specs.declared.kind.CapKind.TheVariants.{Gpt}
use Rattle.cap_format.specs.declared.restr.Restr.{Restr}
use Rattle.gpt_objects.specs.Header.{HeaderValue}
use Rattle.guard_math.specs.Pass.{passes}
use Rattle.object_store.specs.Store.{Items, header_at}
use Rattle.walk_meaning.specs.declared.at.At.{At}
use Rattle.walk_meaning.specs.declared.kind.Kind.{Kind}
use Rattle.walk_meaning.specs.declared.noted.Noted.{Noted}
use Rattle.walk_meaning.specs.declared.place.Place.{Place}
use Rattle.walk_meaning.specs.declared.place.WalkFault.{WalkFault}
use Rattle.walk_meaning.specs.Walk.{at_gpt, at_kind, past, start_at, step}
use Rattle.walk_meaning.specs.Trail.{header_noted, trail_from}
use Rattle.walk_meaning.proofs.Ways.{step-passed}
use Rattle.walk_meaning.proofs.FrameLaw.{agree}
use Rattle.producers.specs.declared.producer.Producer.{Producer}
use Rattle.producers.specs.Producer.{Point, aged, at_join, background_number, cut, gpt_cap, joined_trail, joined_walk, key_of}
use Rattle.producers.specs.Meets.{Meets, PassesAt}
use Rattle.producers.specs.Laws.{JoinLaw, Joined, KeyLaw, SameKeyLaw}
use Rattle.producers.proofs.Stripped.{gpt-stripped, slot_form, strip}
use Rattle.producers.proofs.Cuts.{CutAlike, cut-same, cut_alike, suc_alike}
use Rattle.producers.proofs.Points.{Lies, Rests, last_lies, meets-rests, passes_at}
use Rattle.producers.proofs.Regions.{low-past, meets-capability, meets-low}
use Rattle.producers.proofs.Staying.{key-same, meets-stays}

-- a result that is Ok by what is told of it
pub ok_told : (r : Result Place WalkFault) (place : Place) → result_ok r ≡ Some place → r ≡ Ok place
ok_told (Ok p) place e = let same : p ≡ place = cc in ap (λ (q : Place). Ok q) same
ok_told (Err f) place e = absurd (none-some place e)

pub number-aged : (o : Items) (b : Option ℕ) → background_number (aged o b) ≡ b
number-aged o None = refl
number-aged o (Some g) = refl

-- the bits of an address in its region are their own
pub near : (a : ℕ) → a % 2 ^ 22 ≡ a % 2 ^ 22 % 2 ^ 22
near a = omega arith

module _ (o : Items) (kind : Kind) (a : ℕ) (p : Point) (passes_here : PassesAt p) (is : IsCapability p.cap)
    (low : p.at.address % 2 ^ 22 ≡ a % 2 ^ 22) where
  abbrev pub k : Producer
  k = key_of o p

  abbrev pub v : At
  v = at_join k (a % 2 ^ 22)

  -- the two addresses behind the guards are one
  pub addresses : (past p.cap p.at).address ≡ (past (gpt_cap p.cap.object) v).address
  addresses =
      let behind : (past p.cap p.at).address % 2 ^ 22 ≡ a % 2 ^ 22 = low-past p.cap p.at passes_here.wide ∙ low in
      let fits : (past p.cap p.at).address < 2 ^ 32 = small p.cap.guard.l2g p.at.address is.guard.high in
      same (past p.cap p.at).address (a % 2 ^ 22) behind fits
    where
      small : (l n : ℕ) → l ≤ 32 → n % 2 ^ l < 2 ^ 32
      small l n le =
          let below : n % 2 ^ l < 2 ^ l = mod-lt n (pow_pos l) in
          let most : 2 ^ l ≤ 2 ^ 32 = pow_mono le in
          omega (arith, below, most)

      same : (x y : ℕ) → x % 2 ^ 22 ≡ y → x < 2 ^ 32 → x ≡ (x / 2 ^ 22 * 2 ^ 22 + y) % 2 ^ 32
      same x y e fits = omega (arith, e, fits)

  pub passed_too : (is_memory (gpt_cap p.cap.object).kind && passes (gpt_cap p.cap.object).guard v.address) ≡ true
  passed_too =
      let behind : (past p.cap p.at).address % 2 ^ 22 ≡ a % 2 ^ 22 = low-past p.cap p.at passes_here.wide ∙ low in
      let below : (past p.cap p.at).address < 2 ^ p.cap.guard.l2g = mod-lt p.at.address (pow_pos p.cap.guard.l2g) in
      let most : 2 ^ p.cap.guard.l2g ≤ 2 ^ 32 = pow_mono is.guard.high in
      let fits : (past p.cap p.at).address < 2 ^ 32 = omega (arith, below, most) in
      passes_all (past p.cap p.at).address (a % 2 ^ 22) behind fits
    where
      passes_all : (x y : ℕ) → x % 2 ^ 22 ≡ y → x < 2 ^ 32 → ((x / 2 ^ 22 * 2 ^ 22 + y) / 2 ^ 32 == 0) ≡ true
      passes_all x y e fits = let zero_above : (x / 2 ^ 22 * 2 ^ 22 + y) / 2 ^ 32 ≡ 0 = omega (arith, e, fits) in ap (λ (n : ℕ). n == 0) zero_above

  pub steps : strip (step o kind p.cap p.at) ≡ strip (step o kind (gpt_cap p.cap.object) v)
  steps =
      let header : HeaderValue = header_at o p.cap.object in
      let g : ℕ = p.cap.object in
      let first : step o kind p.cap p.at ≡ at_gpt header g kind (past p.cap p.at) =
      step-passed o kind p.cap p.at passes_here.passed ∙ ap (λ (x : CapKind). at_kind o kind x p.cap (past p.cap p.at)) passes_here.kind in
      let second : step o kind (gpt_cap g) v ≡ at_gpt header g kind (past (gpt_cap g) v) = step-passed o kind (gpt_cap g) v passed_too in
      let size : min (past p.cap p.at).l2 22 ≡ 22 = let wide = passes_here.wide in omega (arith, wide) in
      let restr : (past p.cap p.at).restr ≡ (past (gpt_cap g) v).restr = ap (λ (n : ℕ). record { 0 = n }) (sym (or_zero_r (past p.cap p.at).restr.0)) in
      ap strip first
      ∙ (gpt-stripped header g kind (past p.cap p.at)
      ∙ (ap (λ (x : ℕ). slot_form header g kind x (past p.cap p.at).restr (past p.cap p.at).background (min (past p.cap p.at).l2 22)) addresses
      ∙ (ap (λ (x : Restr). slot_form header g kind (past (gpt_cap g) v).address x (past p.cap p.at).background (min (past p.cap p.at).l2 22)) restr
      ∙ (ap (λ (x : Option ℕ). slot_form header g kind (past (gpt_cap g) v).address (past (gpt_cap g) v).restr x (min (past p.cap p.at).l2 22)) (sym (number-aged o p.at.background))
      ∙ (ap (λ (x : ℕ). slot_form header g kind (past (gpt_cap g) v).address (past (gpt_cap g) v).restr (past (gpt_cap g) v).background x) size
      ∙ (sym (gpt-stripped header g kind (past (gpt_cap g) v)) ∙ sym (ap strip second)))))))

  headers : map cut (header_noted p.cap a p.at.l2) ≡ map cut (header_noted (gpt_cap p.cap.object) (a % 2 ^ 22) 22)
  headers =
      let wide = passes_here.wide in
      let size : min p.at.l2 22 ≡ 22 = omega (arith, wide) in
      rw passes_here.kind (ap (λ (n : Noted). n ∷ []) (cut-same (Header Gpt p.cap.object) a (a % 2 ^ 22) p.at.l2 22 (near a) size))

  pub joins-alike : CutAlike o kind a (a % 2 ^ 22) (near a) (suc p.left) p.cap (gpt_cap p.cap.object) p.at v
  joins-alike = suc_alike o kind a (a % 2 ^ 22) (near a) p.left (cut_alike o kind a (a % 2 ^ 22) (near a) p.left) p.cap (gpt_cap p.cap.object) p.at v steps headers

-- the join law
pub join_law : JoinLaw
join_law o c a kind place p ranged is fits reach found = joined
  where
    lies : Lies o kind a 32 c (start_at a) [] p
    lies = last_lies o kind a 32 c (start_at a) [] p found

    passes_there : PassesAt p
    passes_there = passes_at p lies.joins_there

    wide : 22 ≤ p.at.l2
    wide = let w = passes_there.wide in omega (arith, w)

    met : Meets o kind a 32 c (start_at a) p p.before
    met = subst (λ (t : List Noted). Meets o kind a 32 c (start_at a) p t) (sym lies.before) lies.met

    rests : Rests o kind a 32 c (start_at a) p p.before
    rests = meets-rests o kind a p 32 c (start_at a) p.before met

    alike : CutAlike o kind a (a % 2 ^ 22) (near a) (suc p.left) p.cap (gpt_cap p.cap.object) p.at (at_join (key_of o p) (a % 2 ^ 22))
    alike = joins-alike o kind a p passes_there (meets-capability o ranged kind a p wide 32 c (start_at a) p.before is met)
        (meets-low o ranged kind a p wide 32 c (start_at a) p.before is met)

    joined : Joined o c a kind place p
    joined = record {
      met = met;
      passes = passes_there;
      behind = trail_from o kind a (suc p.left) p.cap p.at;
      reads = rests.reads_are;
      reached = ok_told (joined_walk o (key_of o p) (a % 2 ^ 22) kind) place (sym alike.place ∙ ap result_ok (sym rests.place ∙ reach));
      cut_reads = alike.reads;
    }

-- two accesses with one key
pub same_key_law : SameKeyLaw
same_key_law o c d a b kind p q place other ranged is_c is_d fits_a fits_b reach_a reach_b found_a found_b key low =
    let first = join_law o c a kind place p ranged is_c fits_a reach_a found_a in
    let second = join_law o d b kind other q ranged is_d fits_b reach_b found_b in
    let walks : joined_walk o (key_of o p) (a % 2 ^ 22) kind ≡ joined_walk o (key_of o q) (b % 2 ^ 22) kind =
    ap (λ (k : Producer). joined_walk o k (a % 2 ^ 22) kind) key ∙ ap (λ (n : ℕ). joined_walk o (key_of o q) n kind) low in
    let trails : joined_trail o (key_of o p) (a % 2 ^ 22) kind ≡ joined_trail o (key_of o q) (b % 2 ^ 22) kind =
    ap (λ (k : Producer). joined_trail o k (a % 2 ^ 22) kind) key ∙ ap (λ (n : ℕ). joined_trail o (key_of o q) n kind) low in
    record {
      places = let same = sym first.reached ∙ (walks ∙ second.reached) in cc (same);
      first = first.behind;
      second = second.behind;
      first_is = first.reads;
      second_is = second.reads;
      reads = first.cut_reads ∙ (trails ∙ sym second.cut_reads);
    }

-- the key is a function of what was read before
pub key_law : KeyLaw
key_law item o q c a kind m reads differ met passes_there unread =
    let same = agree item o q differ in
    let stays = meets-stays item o q same kind a m passes_there.kind 32 c (start_at a) reads tt tt met unread in
    record { met = stays.met; key = key-same item o q same m stays.background stays.own }
