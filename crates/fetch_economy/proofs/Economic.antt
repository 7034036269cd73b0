-- Fetch economy, by induction on the touches: what is kept meets what is owed from touch to touch, while the need fits.
use Rattle.std.proofs.Common.{◌≡◌, ℕ, ◌+◌, ◌*◌, ◌/◌, ◌≤◌, Bool, true, false, not, ◌&&◌, nat_le, if◌then◌else◌, List, [], ◌∷◌, length, refl, sym, ap, subst, arith}
use Rattle.std.specs.FinSet.{len}
use Rattle.std.proofs.lemmas.Bool.Decides.{nat_tests}
use Rattle.cap_format.specs.Capability.{Capability}
use Rattle.object_store.specs.Store.{Items}
use Rattle.walk_meaning.specs.declared.kind.Kind.{Kind}
use Rattle.walk_meaning.specs.declared.noted.Noted.{Noted}
use Rattle.walk_meaning.specs.Walk.{access}
use Rattle.walk_meaning.specs.Trail.{slots, trail}
use Rattle.walk_meaning.proofs.SlotsLaw.{slots_law}
use Rattle.map_cache.specs.Key.{region_key, root_key, with_key}
use Rattle.map_cache.specs.Kept.{KeptValue, added, added_to, cost_of, counted, fits, is_reached, kept_after, kept_without, nothing, overflows}
use Rattle.machine_state.specs.Outcome.{Touch}
use Rattle.machine_state.specs.Outcome.Touch.{DataAccess, CapAccess, GptCall, Changed}
use Rattle.fetch_economy.proofs.Bound.{slot_reads-most}
use Rattle.fetch_economy.specs.Counts.{slot_reads, fetched_by, kept_by, overflows_in}
use Rattle.fetch_economy.specs.Economy.{EconomyValue, at_start, covering, economy_at, economy_after, uncovered, uncovered_at}
use Rattle.fetch_economy.specs.Ages.{AgesAreTold}
use Rattle.fetch_economy.specs.Laws.{FetchEconomy, RoundEconomy}
use Rattle.fetch_economy.proofs.Meets.{Meets, meets-added, meets-changed, meets-fits, meets-held, meets-same, meets-start, within_need}
use Rattle.depend_table.proofs.Coded.{with_key-grows}
use Rattle.depend_table.proofs.Notes.{noted_all-grows}
use Rattle.map_cache.proofs.Codes.{key_coding, space_coding}

-- ---- the need only grows

within_less : (a b c d : ℕ) → a ≤ c → b ≤ d → (nat_le c 256 && nat_le d 16384) ≡ true → (nat_le a 256 && nat_le b 16384) ≡ true
within_less a b c d keys notes holds = grind (arith, nat_tests, keys, notes, holds)

need-before_access : (e : EconomyValue) (space aged : Capability) (page : ℕ) (reads : List Noted) → within_need (covering e space aged page reads) ≡ true → within_need e ≡ true
need-before_access e space aged page reads =
    let one = with_key-grows key_coding e.frames (root_key aged) in
    let two = with_key-grows key_coding (with_key e.frames (root_key aged)) (region_key aged (page / 1024)) in
    let covers : EconomyValue = covering e space aged page reads in
    within_less (length e.frames) (len e.noted) (length covers.frames) (len covers.noted) (omega (arith, one.0, two.0)) (noted_all-grows space_coding e.noted aged reads)

need-before_touch : (e : EconomyValue) (t : Touch) → within_need (economy_at e t) ≡ true → within_need e ≡ true
need-before_touch e (DataAccess o space address kind) need = on (is_reached (access o space address kind)) need
  where
    on : (r : Bool) → within_need (if r then covering e space (counted o space) (address / 4096) (trail o space address kind) else e) ≡ true → within_need e ≡ true
    on true need = need-before_access e space (counted o space) (address / 4096) (trail o space address kind) need
    on false need = need
need-before_touch e (CapAccess o space address kind) need = need
need-before_touch e (GptCall reads) need = need
need-before_touch e (Changed item) need = need

-- the need before touches fits where the need after them does
pub need-before : (e : EconomyValue) (ts : List Touch) → within_need (economy_after e ts) ≡ true → within_need e ≡ true
need-before e [] need = need
need-before e (t ∷ ts) need = need-before_touch e t (need-before (economy_at e t) ts need)

-- ---- one access

module _ (k : KeptValue) (e : EconomyValue) (o : Items) (space : Capability) (address : ℕ) (kind : Kind) (m : Meets k e o) where
  abbrev touch : Touch
  touch = DataAccess o space address kind

  abbrev more : KeptValue
  more = added k (counted o space) (address / 4096) (trail o space address kind)

  abbrev covers : EconomyValue
  covers = covering e space (counted o space) (address / 4096) (trail o space address kind)

  -- what it adds fits
  more-fits : within_need covers ≡ true → fits more ≡ true
  more-fits need = meets-fits more covers o (meets-added k e o space address kind m) need

  meets-access : within_need (economy_at e touch) ≡ true → Meets (kept_after k o space address kind) (economy_at e touch) o
  meets-access = on (is_reached (access o space address kind)) (k.held (counted o space) (address / 4096)) refl
    where
      on : (r h : Bool) → k.held (counted o space) (address / 4096) ≡ h → within_need (if r then covers else e) ≡ true
          → Meets (if r && not h then added_to k (counted o space) (address / 4096) (trail o space address kind) else k) (if r then covers else e) o
      on true true is need = meets-held k e o space address kind m is
      on true false is need =
          let whole : added_to k (counted o space) (address / 4096) (trail o space address kind) ≡ more =
          ap (λ (b : Bool). if b then more else added nothing (counted o space) (address / 4096) (trail o space address kind)) (more-fits need) in
          subst (λ (v : KeptValue). Meets v covers o) (sym whole) (meets-added k e o space address kind m)
      on false h is need = m

  -- it fetches nothing where it is covered
  cost-access : cost_of k o space address kind ≤ 32 * uncovered_at e touch
  cost-access = on (is_reached (access o space address kind)) (k.held (counted o space) (address / 4096)) (e.covered space (address / 4096)) (m.held space (address / 4096))
    where
      on : (r h c : Bool) → (c ≡ true → h ≡ true) → (if r && h then 0 else slots o space address kind) ≤ 32 * (if r && c then 0 else 1)
      on true true c held = omega arith
      on true false true held = absurd (let no : false ≡ true = held refl in cc)
      on true false false held = slots_law o space address kind
      on false h c held = slots_law o space address kind

  -- and forgets nothing for want of room
  whole-access : within_need (economy_at e touch) ≡ true → overflows k o space address kind ≡ false
  whole-access = on (is_reached (access o space address kind)) (k.held (counted o space) (address / 4096))
    where
      on : (r h : Bool) → within_need (if r then covers else e) ≡ true → ((r && not h) && not (fits more)) ≡ false
      on true true need = refl
      on true false need = ap not (more-fits need)
      on false h need = refl

-- ---- all touches

-- what touches come to: what is kept meets what is owed, few slots are fetched_by, and nothing is forgotten for want of room
pub record Goes (k : KeptValue) (e : EconomyValue) (ts : List Touch) (p : Items) : Type 0 where
  pub meets : Meets (kept_by k ts) (economy_after e ts) p
  pub few : fetched_by k ts ≤ 32 * uncovered e ts + slot_reads ts
  pub whole : overflows_in k ts ≡ false

pub economic : (k : KeptValue) (e : EconomyValue) (o p : Items) (ts : List Touch) → Meets k e o → AgesAreTold o ts p → within_need (economy_after e ts) ≡ true → Goes k e ts p
economic k e o p [] m told need = record { meets = meets-same k e o p told m; few = omega arith; whole = refl }
economic k e o p (DataAccess q space address kind ∷ ts) m told need =
    let now : Meets k e q = meets-same k e o q told.0 m in
    let here : within_need (economy_at e (DataAccess q space address kind)) ≡ true = need-before (economy_at e (DataAccess q space address kind)) ts need in
    let rest = economic (kept_after k q space address kind) (economy_at e (DataAccess q space address kind)) q p ts (meets-access k e q space address kind now here) told.1 need in
    record {
      meets = rest.meets;
      few = omega (arith, cost-access k e q space address kind now, rest.few);
      whole = rw (whole-access k e q space address kind now here) rest.whole;
    }
economic k e o p (CapAccess q space address kind ∷ ts) m told need =
    let rest = economic k e o p ts m told need in
    record { meets = rest.meets; few = omega (arith, slots_law q space address kind, rest.few); whole = rest.whole }
economic k e o p (GptCall true ∷ ts) m told need =
    let rest = economic k e o p ts m told need in
    record { meets = rest.meets; few = omega (arith, rest.few); whole = rest.whole }
economic k e o p (GptCall false ∷ ts) m told need =
    let rest = economic k e o p ts m told need in
    record { meets = rest.meets; few = omega (arith, rest.few); whole = rest.whole }
economic k e o p (Changed item ∷ ts) m told need =
    let rest = economic (kept_without k item) (economy_at e (Changed item)) told.0 p ts (meets-changed k e item o told.0 told.1 m) told.2 need in
    record { meets = rest.meets; few = omega (arith, rest.few); whole = rest.whole }

pub fetch_economy : FetchEconomy
fetch_economy o p ts told need =
    let all = economic nothing at_start o p ts (meets-start o) told need in
    record { few = all.few; held = all.meets.held; whole = all.whole }

pub round_economy : RoundEconomy
round_economy o p ts told need = omega (arith, (fetch_economy o p ts told need).few, slot_reads-most ts)
