-- Shared economy, by induction on the touches: what is kept meets what is owed from touch to touch, while the shared need fits.
use Rattle.std.proofs.Common.{◌≡◌, ℕ, ◌+◌, ◌*◌, ◌/◌, ◌%◌, ◌^◌, ◌<◌, ◌≤◌, Bool, true, false, not, ◌&&◌, nat_le, if◌then◌else◌, List, [], ◌∷◌, length, Option, Result, Ok, Err, refl, sym, ap, ◌∙◌, subst, arith}
use Rattle.std.specs.FinSet.{len}
use Rattle.std.proofs.lemmas.Bool.Decides.{nat_tests}
use Rattle.cap_format.specs.Capability.{Capability}
use Rattle.object_store.specs.Store.{Items}
use Rattle.walk_meaning.specs.declared.kind.Kind.{Kind}
use Rattle.walk_meaning.specs.declared.kind.Kind.TheVariants.{Load}
use Rattle.walk_meaning.specs.declared.noted.Noted.{Noted}
use Rattle.walk_meaning.specs.declared.place.Place.{Place}
use Rattle.walk_meaning.specs.declared.place.WalkFault.{WalkFault}
use Rattle.walk_meaning.specs.Walk.{access}
use Rattle.walk_meaning.specs.Trail.{slots, trail}
use Rattle.walk_meaning.proofs.SlotsLaw.{slots_law}
use Rattle.producers.specs.Producer.{join_of}
use Rattle.map_cache.specs.Kept.{counted, is_reached}
use Rattle.shared_leaves.specs.declared.key.Key.{Key}
use Rattle.shared_leaves.specs.Key.{root_key, with_key}
use Rattle.shared_leaves.specs.Kept.{Addition, SharedKept, added, added_to, addition_by, addition_of, cost_of, fits, holds_page, is_held, kept_after, kept_without, nothing}
use Rattle.machine_state.specs.Outcome.{Touch}
use Rattle.machine_state.specs.Outcome.Touch.{DataAccess, CapAccess, GptCall, Changed}
use Rattle.fetch_economy.proofs.Bound.{slot_reads-most}
use Rattle.fetch_economy.specs.Counts.{slot_reads}
use Rattle.fetch_economy.specs.Economy.{EconomyValue, at_start, covering, economy_after, economy_at, uncovered, uncovered_at}
use Rattle.fetch_economy.specs.Follows.{Follows}
use Rattle.shared_economy.specs.Accesses.{AreAccesses, IsAccess}
use Rattle.shared_economy.specs.Counts.{fetched_by, kept_by, overflows, overflows_in}
use Rattle.shared_economy.specs.Need.{NeedValue, need_after, need_at, needing, no_need}
use Rattle.shared_economy.specs.Laws.{RoundEconomy, SharedEconomy}
use Rattle.shared_economy.proofs.Added.{AsLoad, as-load}
use Rattle.shared_economy.proofs.Meets.{Meets, meets-fits, meets-start, within_need}
use Rattle.shared_economy.proofs.Adding.{meets-added, meets-held}
use Rattle.shared_economy.proofs.Changed.{meets-changed}
use Rattle.depend_table.proofs.Coded.{with_key-grows}
use Rattle.depend_table.proofs.Notes.{noted_all-grows}
use Rattle.map_cache.proofs.Codes.{space_coding}
use Rattle.shared_leaves.proofs.Codes.{key_coding}

-- ---- the need only grows

within_less : (a b c d f g : ℕ) → a ≤ d → b ≤ f → c ≤ g → (nat_le d 256 && nat_le (2 * f + g) 16384) ≡ true → (nat_le a 256 && nat_le (2 * b + c) 16384) ≡ true
within_less a b c d f g keys spaces leaves holds = grind (arith, nat_tests, keys, spaces, leaves, holds)

need-before_access : (e : EconomyValue) (n : NeedValue) (space aged : Capability) (page : ℕ) (reads : List Noted) (add : Addition)
    → within_need (covering e space aged page reads) (needing n aged add) ≡ true → within_need e n ≡ true
need-before_access e n space aged page reads add =
    let one = with_key-grows key_coding n.frames (root_key aged) in
    let two = with_key-grows key_coding (with_key n.frames (root_key aged)) add.key in
    let covers : EconomyValue = covering e space aged page reads in
    let needs : NeedValue = needing n aged add in
    within_less (length n.frames) (len e.noted) (len n.records) (length needs.frames) (len covers.noted) (len needs.records)
    (omega (arith, one.0, two.0)) (noted_all-grows space_coding e.noted aged reads) (noted_all-grows key_coding n.records add.key add.entry_reads)

need-before_touch : (e : EconomyValue) (n : NeedValue) (t : Touch) → within_need (economy_at e t) (need_at n t) ≡ true → within_need e n ≡ true
need-before_touch e n (DataAccess o space address kind) need = on (is_reached (access o space address kind)) need
  where
    on : (r : Bool) → within_need (if r then covering e space (counted o space) (address / 4096) (trail o space address kind) else e)
        (if r then needing n (counted o space) (addition_of o space address kind) else n) ≡ true → within_need e n ≡ true
    on true need = need-before_access e n space (counted o space) (address / 4096) (trail o space address kind) (addition_of o space address kind) need
    on false need = need
need-before_touch e n (CapAccess o space address kind) need = need
need-before_touch e n (GptCall reads) need = need
need-before_touch e n (Changed item) need = need

-- the need before touches fits where the need after them does
need-before : (e : EconomyValue) (n : NeedValue) (ts : List Touch) → within_need (economy_after e ts) (need_after n ts) ≡ true → within_need e n ≡ true
need-before e n [] need = need
need-before e n (t ∷ ts) need = need-before_touch e n t (need-before (economy_at e t) (need_at n t) ts need)

-- a pair that is covered is held
end-held : (k : SharedKept) (e : EconomyValue) (n : NeedValue) (o : Items) → Meets k e n o → (space : Capability) (page : ℕ) → e.covered space page ≡ true
    → is_held k (counted o space) page ≡ true
end-held k e n o m space page covered =
    let was = m.covered space page covered in
    ap (λ (l : Option Key). holds_page k (page % 1024) l) was.link ∙ was.held

-- ---- one access

module _ (k : SharedKept) (e : EconomyValue) (n : NeedValue) (o : Items) (space : Capability) (address : ℕ) (kind : Kind) (m : Meets k e n o) (is : IsAccess o space address kind) where
  abbrev touch : Touch
  touch = DataAccess o space address kind

  abbrev aged : Capability
  aged = counted o space

  abbrev page : ℕ
  page = address / 4096

  abbrev add : Addition
  add = addition_of o space address kind

  abbrev more : SharedKept
  more = added k aged page add

  abbrev covers : EconomyValue
  covers = covering e space aged page (trail o space address kind)

  abbrev needs : NeedValue
  needs = needing n aged add

  inside : page < 2 ^ 20
  inside = let fits_in = is.address_fits in omega (arith, fits_in)

  -- the result of the access, where it reaches
  reached : (r : Result Place WalkFault) → is_reached r ≡ true → (place : Place) × (r ≡ Ok place)
  reached (Ok place) yes_it = (place, refl)
  reached (Err fault) yes_it = absurd (cc)

  -- as the load of its page
  load : is_reached (access o space address kind) ≡ true → AsLoad o space address kind
  load there = let at = reached (access o space address kind) there in as-load o space address kind at.0 is at.1

  -- what is owed and needed after the load is what is after the access
  owed : (l : AsLoad o space address kind) (v : SharedKept)
      → Meets v (covering e space aged page (trail o space (page * 4096) Load)) (needing n aged (addition_by o aged page (trail o space (page * 4096) Load) (join_of o space (page * 4096) Load))) o
      → Meets v covers needs o
  owed l v met = subst (λ (a : Addition). Meets v covers (needing n aged a) o) (sym l.adds)
      (subst (λ (t : List Noted). Meets v (covering e space aged page t) (needing n aged (addition_by o aged page (trail o space (page * 4096) Load) (join_of o space (page * 4096) Load))) o) (sym l.reads) met)

  held-meets : is_reached (access o space address kind) ≡ true → is_held k aged page ≡ true → Meets k covers needs o
  held-meets there held =
      let l = load there in
      owed l k (meets-held k e n o m is.ranged space is.capability is.uncounted page inside l.place l.reached held)

  added-meets : is_reached (access o space address kind) ≡ true → Meets more covers needs o
  added-meets there =
      let l = load there in
      subst (λ (a : Addition). Meets (added k aged page a) covers needs o) (sym l.adds)
      (owed l (added k aged page (addition_by o aged page (trail o space (page * 4096) Load) (join_of o space (page * 4096) Load)))
      (meets-added k e n o m is.ranged space is.capability is.uncounted page inside l.place l.reached))

  -- what it adds fits
  more-fits : is_reached (access o space address kind) ≡ true → within_need covers needs ≡ true → fits more ≡ true
  more-fits there need = meets-fits more covers needs o (added-meets there) need

  meets-access : within_need (economy_at e touch) (need_at n touch) ≡ true → Meets (kept_after k o space address kind) (economy_at e touch) (need_at n touch) o
  meets-access = on (is_reached (access o space address kind)) refl (is_held k aged page) refl
    where
      on : (r : Bool) → is_reached (access o space address kind) ≡ r → (h : Bool) → is_held k aged page ≡ h
          → within_need (if r then covers else e) (if r then needs else n) ≡ true
          → Meets (if r && not h then added_to k aged page add else k) (if r then covers else e) (if r then needs else n) o
      on true there true held need = held-meets there held
      on true there false held need =
          let whole : added_to k aged page add ≡ more = ap (λ (b : Bool). if b then more else added nothing aged page add) (more-fits there need) in
          subst (λ (v : SharedKept). Meets v covers needs o) (sym whole) (added-meets there)
      on false there h held need = m

  -- it fetches nothing where it is covered
  cost-access : cost_of k o space address kind ≤ 32 * uncovered_at e touch
  cost-access = on (is_reached (access o space address kind)) (is_held k aged page) (e.covered space page) (end-held k e n o m space page)
    where
      on : (r h c : Bool) → (c ≡ true → h ≡ true) → (if r && h then 0 else slots o space address kind) ≤ 32 * (if r && c then 0 else 1)
      on true true c held = omega arith
      on true false true held = absurd (let no_way : false ≡ true = held refl in cc)
      on true false false held = slots_law o space address kind
      on false h c held = slots_law o space address kind

  -- and forgets nothing for want of room
  whole-access : within_need (economy_at e touch) (need_at n touch) ≡ true → overflows k o space address kind ≡ false
  whole-access = on (is_reached (access o space address kind)) refl (is_held k aged page)
    where
      on : (r : Bool) → is_reached (access o space address kind) ≡ r → (h : Bool) → within_need (if r then covers else e) (if r then needs else n) ≡ true
          → ((r && not h) && not (fits more)) ≡ false
      on true there true need = refl
      on true there false need = ap not (more-fits there need)
      on false there h need = refl

-- ---- all touches

-- what touches come to: what is kept meets what is owed, few slots are fetched, and nothing is forgotten for want of room
record Goes (k : SharedKept) (e : EconomyValue) (n : NeedValue) (ts : List Touch) (p : Items) : Type 0 where
  meets : Meets (kept_by k ts) (economy_after e ts) (need_after n ts) p
  few : fetched_by k ts ≤ 32 * uncovered e ts + slot_reads ts
  whole : overflows_in k ts ≡ false

economic : (k : SharedKept) (e : EconomyValue) (n : NeedValue) (o p : Items) (ts : List Touch) → Meets k e n o → Follows o ts p → AreAccesses ts
    → within_need (economy_after e ts) (need_after n ts) ≡ true → Goes k e n ts p
economic k e n o p [] m follows are need = record { meets = subst (λ (q : Items). Meets k e n q) follows m; few = omega arith; whole = refl }
economic k e n o p (DataAccess q space address kind ∷ ts) m follows are need =
    let t : Touch = DataAccess q space address kind in
    let now : Meets k e n q = subst (λ (v : Items). Meets k e n v) (sym follows.0) m in
    let onward : Follows q ts p = subst (λ (v : Items). Follows v ts p) (sym follows.0) follows.1 in
    let here : within_need (economy_at e t) (need_at n t) ≡ true = need-before (economy_at e t) (need_at n t) ts need in
    let rest = economic (kept_after k q space address kind) (economy_at e t) (need_at n t) q p ts (meets-access k e n q space address kind now are.0 here) onward are.1 need in
    let rest_few = rest.few in
    record {
      meets = rest.meets;
      few = omega (arith, cost-access k e n q space address kind now are.0, rest_few);
      whole = rw (whole-access k e n q space address kind now are.0 here) rest.whole;
    }
economic k e n o p (CapAccess q space address kind ∷ ts) m follows are need =
    let rest = economic k e n o p ts m follows.1 are need in
    let rest_few = rest.few in
    record { meets = rest.meets; few = omega (arith, slots_law q space address kind, rest_few); whole = rest.whole }
economic k e n o p (GptCall true ∷ ts) m follows are need =
    let rest = economic k e n o p ts m follows are need in
    let rest_few = rest.few in
    record { meets = rest.meets; few = omega (arith, rest_few); whole = rest.whole }
economic k e n o p (GptCall false ∷ ts) m follows are need =
    let rest = economic k e n o p ts m follows are need in
    let rest_few = rest.few in
    record { meets = rest.meets; few = omega (arith, rest_few); whole = rest.whole }
economic k e n o p (Changed item ∷ ts) m follows are need =
    let rest = economic (kept_without k item) (economy_at e (Changed item)) n follows.0 p ts (meets-changed k e n o follows.0 m item follows.1) follows.2 are need in
    let rest_few = rest.few in
    record { meets = rest.meets; few = omega (arith, rest_few); whole = rest.whole }

pub shared_economy : SharedEconomy
shared_economy o p ts follows are need =
    let all = economic nothing at_start no_need o p ts (meets-start o) follows are need in
    record {
      exact = ap (λ (keys : List Key). length keys) all.meets.frames;
      few = all.few;
      held = end-held (kept_by nothing ts) (economy_after at_start ts) (need_after no_need ts) p all.meets;
      whole = all.whole;
    }

pub round_economy : RoundEconomy
round_economy o p ts follows are need =
    let all = shared_economy o p ts follows are need in
    let few = all.few in
    omega (arith, few, slot_reads-most ts)
