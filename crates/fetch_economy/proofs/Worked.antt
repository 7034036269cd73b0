-- The worked value: after the first fetch nothing changes but the covered pair's being covered again.
use Rattle.std.proofs.Common.{◌≡◌, subst, inr, ℕ, zero, suc, ◌+◌, ◌/◌, Bool, true, false, ◌&&◌, if◌then◌else◌, nat_le, List, [], ◌∷◌, ◌++◌, length, refl, sym, ap, ◌∙◌, arith}
use Rattle.std.specs.List.{list_any, AllByRecursion as Each}
use Rattle.std.specs.FinSet.{FinSet, contains-empty, empty, items, len, len-empty}
use Rattle.cap_format.specs.Capability.{Capability, null}
use Rattle.cap_format.specs.declared.item.Item.TheVariants.{Header, Slot}
use Rattle.cap_format.specs.declared.kind.CapKind.TheVariants.{Gpt, Page}
use Rattle.guard_math.specs.Block.{block_of}
use Rattle.walk_meaning.specs.declared.kind.Kind.TheVariants.{Fetch}
use Rattle.walk_meaning.specs.declared.noted.Noted.{Noted}
use Rattle.walk_meaning.specs.Walk.{access, walk}
use Rattle.walk_meaning.specs.Trail.{trail, trail_from, noted_in}
use Rattle.map_cache.specs.declared.key.Key.{Key}
use Rattle.map_cache.specs.Key.{region_key, root_key, with_key}
use Rattle.map_cache.specs.Kept.{note_order, noted_all, is_reached, counted}
use Rattle.machine_state.specs.Outcome.{Touch}
use Rattle.machine_state.specs.Outcome.Touch.{Changed}
use Rattle.fetch_economy.specs.Economy.{EconomyValue, at_start, covering, economy_at, economy_after, uncovered, uncovered_at, is_for, frames_needed, records_needed, need_fits}
use Rattle.fetch_economy.specs.Worked.{items_with, space, fetch, to_page, round, rounds, rewrites, RewritesAreCheap}
use Rattle.fetch_economy.specs.Counts.{slot_reads}
use Rattle.fetch_economy.specs.Ages.{AgesAreTold, SameAges}
use Rattle.fetch_economy.proofs.Economic.{fetch_economy}
use Rattle.object_store.specs.Store.{Items}
use Rattle.fetch_economy.proofs.Noted.{any-listed, each-noted, len-noted_all, lists-noted_all, noted_all-there, with_notes}

-- ---- the walk of this space

-- what it reads, wherever in page 0 it goes: three headers, three slots, and the header of the page
abbrev reads : List Noted
reads =
    noted_in (Header Gpt 0) (block_of 0 32) ∷ noted_in (Slot 0 0) (block_of 0 20) ∷ noted_in (Header Gpt 1) (block_of 0 20)
    ∷ noted_in (Slot 1 0) (block_of 0 16) ∷ noted_in (Header Gpt 2) (block_of 0 16) ∷ noted_in (Slot 2 0) (block_of 0 12)
    ∷ noted_in (Header Page 0) (block_of 0 12) ∷ []

-- what follows the first fetch of a round
abbrev later : Capability → List Touch
later c = fetch c 4 ∷ fetch c 8 ∷ fetch c 12 ∷ Changed (Slot 3 0) ∷ fetch (to_page 0) 16 ∷ fetch (to_page 0) 20 ∷ []

-- the fetch at an address reaches, and reads this
record Fetches (c : Capability) (pc : ℕ) : Type 0 where
  reached : is_reached (access (items_with c) space pc Fetch) ≡ true
  trail : trail (items_with c) space pc Fetch ≡ reads
  page : pc / 4096 ≡ 0

fetches : (c : Capability) → Fetches c 0 × Fetches c 4 × Fetches c 8 × Fetches c 12 × Fetches c 16 × Fetches c 20
unfolding trail_from walk
fetches c = (
  record { reached = refl; trail = refl; page = refl },
  record { reached = refl; trail = refl; page = refl },
  record { reached = refl; trail = refl; page = refl },
  record { reached = refl; trail = refl; page = refl },
  record { reached = refl; trail = refl; page = refl },
  record { reached = refl; trail = refl; page = refl },
)

abbrev noted : FinSet note_order
noted = noted_all empty space reads

seven : len noted ≡ 7
seven = len-noted_all space empty [] (λ q. contains-empty note_order q) reads ∙ ap (λ (n : ℕ). n + 7) (len-empty note_order)

-- ---- the run

-- the page's pair is covered, what one walk reads is noted, and the space and its first region have a frame
record IsSettled (e : EconomyValue) : Type 0 where
  covered : e.covered space 0 ≡ true
  noted_is : e.noted ≡ noted
  frames : e.frames ≡ root_key space ∷ region_key space 0 ∷ []

-- a touch after which it is still so, and which need not be walked
abbrev Spared : Touch → Type 0
Spared t = (e : EconomyValue) → IsSettled e → IsSettled (economy_at e t) × (uncovered_at e t ≡ 0)

covering_is : (e : EconomyValue) (c : Capability) (pc : ℕ) → Fetches c pc → economy_at e (fetch c pc) ≡ covering e space space 0 reads
covering_is e c pc f =
    ap (λ (b : Bool). if b then covering e space (counted (items_with c) space) (pc / 4096) (trail (items_with c) space pc Fetch) else e) f.reached
    ∙ (λ i. covering e space space (f.page i) (f.trail i))

settled-covering : (e : EconomyValue) → e.noted ≡ noted → e.frames ≡ root_key space ∷ region_key space 0 ∷ [] → IsSettled (covering e space space 0 reads)
settled-covering e noted_is frames = record {
  covered = refl;
  noted_is = ap (λ (s : FinSet note_order). noted_all s space reads) noted_is ∙ noted_all-there space noted reads (each-noted space empty reads);
  frames = ap (λ (keys : List Key). with_key (with_key keys (root_key space)) (region_key space 0)) frames;
}

-- each fetch is
spared-fetch : (c : Capability) (pc : ℕ) → Fetches c pc → Spared (fetch c pc)
spared-fetch c pc f e is = (
  subst IsSettled (sym (covering_is e c pc f)) (settled-covering e is.noted_is is.frames),
  ap (λ (b : Bool). if b && e.covered space (pc / 4096) then 0 else 1) f.reached
      ∙ ap (λ (page : ℕ). if e.covered space page then 0 else 1) f.page
      ∙ ap (λ (b : Bool). if b then 0 else 1) is.covered,
)

-- and so is the change: no walk of this space read the slot
spared-change : Spared (Changed (Slot 3 0))
spared-change e is = (
  record { covered = rw (is.covered, none) refl; noted_is = is.noted_is; frames = is.frames },
  refl,
)
  where
    none : list_any (is_for space 0 (Slot 3 0)) (items e.noted) ≡ false
    none =
        ap (λ (s : FinSet note_order). list_any (is_for space 0 (Slot 3 0)) (items s)) is.noted_is
        ∙ any-listed (is_for space 0 (Slot 3 0)) (with_notes space [] reads) noted (lists-noted_all space empty [] (λ q. contains-empty note_order q) reads)

-- so are all touches of which each is
spared-all : (e : EconomyValue) (ts : List Touch) → Each Spared ts → IsSettled e → IsSettled (economy_after e ts) × (uncovered e ts ≡ 0)
spared-all e [] each is = (is, refl)
spared-all e (t ∷ ts) each is =
    let here = each.0 e is in
    let rest = spared-all (economy_at e t) ts each.1 here.0 in
    (rest.0, omega (arith, here.1, rest.1))

each-append : (xs ys : List Touch) → Each Spared xs → Each Spared ys → Each Spared (xs ++ ys)
each-append [] ys some more = more
each-append (x ∷ xs) ys some more = (some.0, each-append xs ys some.1 more)

-- what follows the first fetch of a round
spared-later : (c : Capability) → Each Spared (later c)
spared-later c =
    let f = fetches c in
    let g = fetches (to_page 0) in
    (spared-fetch c 4 f.1, (spared-fetch c 8 f.2, (spared-fetch c 12 f.3, (spared-change, (spared-fetch (to_page 0) 16 g.4, (spared-fetch (to_page 0) 20 g.5, tt))))))

spared-rounds : (n : ℕ) → Each Spared (rounds n)
spared-rounds zero = tt
spared-rounds (suc n) = each-append (round (to_page 0)) (rounds n) (spared-fetch (to_page 0) 0 (fetches (to_page 0)).0, spared-later (to_page 0)) (spared-rounds n)

-- the first fetch covers the page
first : IsSettled (economy_at at_start (fetch null 0))
first = subst IsSettled (sym (covering_is at_start null 0 (fetches null).0))
    (record { covered = refl; noted_is = refl; frames = refl })

-- ---- the law of fetch economy, at this run

-- no age changes
told-round : (c : Capability) (rest : List Touch) (end : Items) → AgesAreTold (items_with (to_page 0)) rest end → AgesAreTold (items_with c) (round c ++ rest) end
told-round c rest end told =
    (same c c, (same c c, (same c c, (same c c, (items_with (to_page 0), λ kind n. inr refl, (same (to_page 0) (to_page 0), (same (to_page 0) (to_page 0), told)))))))
  where
    same : (d e : Capability) → SameAges (items_with d) (items_with e)
    same d e kind n = refl

told-rounds : (n : ℕ) → AgesAreTold (items_with (to_page 0)) (rounds n) (items_with (to_page 0))
told-rounds zero = λ kind n. refl
told-rounds (suc n) = told-round (to_page 0) (rounds n) (items_with (to_page 0)) (told-rounds n)

-- and no operation reads a slot
unread-rounds : (n : ℕ) → slot_reads (rounds n) ≡ 0
unread-rounds zero = refl
unread-rounds (suc n) = unread-rounds n

pub rewrites_are_cheap : RewritesAreCheap
rewrites_are_cheap n =
    let all = spared-all (economy_at at_start (fetch null 0)) (later null ++ rounds n) (each-append (later null) (rounds n) (spared-later null) (spared-rounds n)) first in
    let once : uncovered_at at_start (fetch null 0) ≡ 1 = ap (λ (b : Bool). if b && false then 0 else 1) (fetches null).0.reached in
    let frames : frames_needed (rewrites n) ≡ 2 = ap (λ (keys : List Key). length keys) all.0.frames in
    let records : records_needed (rewrites n) ≡ 7 = ap len all.0.noted_is ∙ seven in
    let walked : uncovered at_start (rewrites n) ≡ 1 = omega (arith, once, all.1) in
    let need : need_fits (rewrites n) ≡ true = (λ i. nat_le (frames i) 256 && nat_le (records i) 16384) in
    let economic = fetch_economy (items_with null) (items_with (to_page 0)) (rewrites n) (told-round null (rounds n) (items_with (to_page 0)) (told-rounds n)) need in
    record { frames = frames; records = records; walked = walked; few = omega (arith, economic.few, walked, unread-rounds n) }
