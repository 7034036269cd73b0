-- The worked value of changes that take pairs of one space, or of one page, alone.
use Rattle.std.proofs.Common.{◌≡◌, ℕ, ◌+◌, ◌/◌, Bool, true, not, ◌&&◌, if◌then◌else◌, List, [], ◌∷◌, refl, ap, ◌∙◌, arith}
use Rattle.std.specs.List.{list_any}
use Rattle.std.specs.FinSet.{FinSet, contains-empty, empty, items, len, len-empty}
use Rattle.cap_format.specs.Capability.{Capability}
use Rattle.cap_format.specs.declared.item.Item.{Item}
use Rattle.cap_format.specs.declared.item.Item.TheVariants.{Header, Slot}
use Rattle.cap_format.specs.declared.kind.CapKind.TheVariants.{Gpt, Page}
use Rattle.guard_math.specs.Block.{block_of}
use Rattle.walk_meaning.specs.declared.noted.Noted.{Noted}
use Rattle.walk_meaning.specs.Walk.{access, walk}
use Rattle.walk_meaning.specs.Trail.{noted_in, trail, trail_from}
use Rattle.map_cache.specs.Kept.{Note, note_order, noted_all, counted, is_reached}
use Rattle.walk_meaning.specs.declared.kind.Kind.TheVariants.{Load}
use Rattle.machine_state.specs.Outcome.{Touch}
use Rattle.machine_state.specs.Outcome.Touch.{Changed}
use Rattle.fetch_economy.specs.Economy.{EconomyValue, at_start, covering, economy_after, economy_at, frames_needed, is_for, uncovered, uncovered_at, uncovering}
use Rattle.fetch_economy.specs.Worked.{load, loads, selective, to_gpt, two_spaces, ChangesAreSelective}
use Rattle.fetch_economy.proofs.Noted.{any-listed, len-noted_all, Lists, lists-noted_all, noted_all-there, with_notes}

-- the two spaces
abbrev first : Capability
first = to_gpt 0 16

abbrev second : Capability
second = to_gpt 1 16

-- what the three walks read
abbrev to_page_0 : List Noted
to_page_0 = noted_in (Header Gpt 0) (block_of 0 32) ∷ noted_in (Slot 0 0) (block_of 0 12) ∷ noted_in (Header Page 0) (block_of 0 12) ∷ []

abbrev to_page_1 : List Noted
to_page_1 = noted_in (Header Gpt 0) (block_of 0 32) ∷ noted_in (Slot 0 1) (block_of 4096 12) ∷ noted_in (Header Page 1) (block_of 4096 12) ∷ []

abbrev from_second : List Noted
from_second = noted_in (Header Gpt 1) (block_of 0 32) ∷ noted_in (Slot 1 0) (block_of 0 12) ∷ noted_in (Header Page 0) (block_of 0 12) ∷ []

-- what they note, as a set and as a list
abbrev all_noted : FinSet note_order → FinSet note_order
all_noted s = noted_all (noted_all (noted_all s first to_page_0) first to_page_1) second from_second

abbrev noted : FinSet note_order
noted = all_noted empty

abbrev notes : List Note
notes = with_notes second (with_notes first (with_notes first [] to_page_0) to_page_1) from_second

none : Lists [] (empty {R = note_order})
none q = contains-empty note_order q

once : Lists (with_notes first [] to_page_0) (noted_all empty first to_page_0)
once = lists-noted_all first empty [] none to_page_0

twice : Lists (with_notes first (with_notes first [] to_page_0) to_page_1) (noted_all (noted_all empty first to_page_0) first to_page_1)
twice = lists-noted_all first (noted_all empty first to_page_0) (with_notes first [] to_page_0) once to_page_1

all : Lists notes noted
all = lists-noted_all second (noted_all (noted_all empty first to_page_0) first to_page_1) (with_notes first (with_notes first [] to_page_0) to_page_1) twice from_second

-- whether a change of an item takes a pair out
taken : (space : Capability) (page : ℕ) (item : Item) → list_any (is_for space page item) (items noted) ≡ list_any (is_for space page item) notes
taken space page item = any-listed (is_for space page item) notes noted all

-- a load reaches this page of its space, and reads these
record Loads (n address page : ℕ) (reads : List Noted) : Type 0 where
  reaches : is_reached (access two_spaces (to_gpt n 16) address Load) ≡ true
  reads_are : trail two_spaces (to_gpt n 16) address Load ≡ reads
  page_is : address / 4096 ≡ page

load_0 : Loads 0 0 0 to_page_0
unfolding walk trail_from
load_0 = record { reaches = refl; reads_are = refl; page_is = refl }

load_1 : Loads 0 4096 1 to_page_1
unfolding walk trail_from
load_1 = record { reaches = refl; reads_are = refl; page_is = refl }

load_2 : Loads 1 0 0 from_second
unfolding walk trail_from
load_2 = record { reaches = refl; reads_are = refl; page_is = refl }

-- what a load covers
abbrev with_load : EconomyValue → ℕ → ℕ → List Noted → EconomyValue
with_load e n page reads = covering e (to_gpt n 16) (counted two_spaces (to_gpt n 16)) page reads

with_load_is : (e : EconomyValue) (n address page : ℕ) (reads : List Noted) → Loads n address page reads → economy_at e (load n address) ≡ with_load e n page reads
with_load_is e n address page reads l =
    ap (λ (b : Bool). if b then covering e (to_gpt n 16) (counted two_spaces (to_gpt n 16)) (address / 4096) (trail two_spaces (to_gpt n 16) address Load) else e) l.reaches
    ∙ (λ i. with_load e n (l.page_is i) (l.reads_are i))

abbrev with_loads : EconomyValue → EconomyValue
with_loads e = with_load (with_load (with_load e 0 0 to_page_0) 0 1 to_page_1) 1 0 from_second

-- it is walked where its pair is not covered
uncovered-load : (e : EconomyValue) (n address page : ℕ) (reads : List Noted) (ts : List Touch) → Loads n address page reads
    → uncovered e (load n address ∷ ts) ≡ (if e.covered (to_gpt n 16) page then 0 else 1) + uncovered (with_load e n page reads) ts
uncovered-load e n address page reads ts l = λ i. here i + uncovered (with_load_is e n address page reads l i) ts
  where
    here : uncovered_at e (load n address) ≡ (if e.covered (to_gpt n 16) page then 0 else 1)
    here =
        ap (λ (b : Bool). if b && e.covered (to_gpt n 16) (address / 4096) then 0 else 1) l.reaches
        ∙ ap (λ (p : ℕ). if e.covered (to_gpt n 16) p then 0 else 1) l.page_is

-- three loads, by which of the three pairs are covered before
uncovered-loads : (e : EconomyValue) (ts : List Touch) → uncovered e (load 0 0 ∷ load 0 4096 ∷ load 1 0 ∷ ts)
    ≡ (if e.covered first 0 then 0 else 1) + ((if e.covered first 1 then 0 else 1) + ((if e.covered second 0 then 0 else 1) + uncovered (with_loads e) ts))
uncovered-loads e ts =
    uncovered-load e 0 0 0 to_page_0 (load 0 4096 ∷ load 1 0 ∷ ts) load_0
    ∙ ap (λ (n : ℕ). (if e.covered first 0 then 0 else 1) + n)
    (uncovered-load (with_load e 0 0 to_page_0) 0 4096 1 to_page_1 (load 1 0 ∷ ts) load_1
    ∙ ap (λ (n : ℕ). (if e.covered first 1 then 0 else 1) + n)
    (uncovered-load (with_load (with_load e 0 0 to_page_0) 0 1 to_page_1) 1 0 0 from_second ts load_2))

-- before the second round: the three pairs but for those that the changes took out
abbrev before : EconomyValue
before = uncovering (uncovering (with_loads at_start) (Slot 0 1)) (Slot 1 0)

covered-before : (space : Capability) (page : ℕ) → before.covered space page
    ≡ (((with_loads at_start).covered space page && not (list_any (is_for space page (Slot 0 1)) notes)) && not (list_any (is_for space page (Slot 1 0)) notes))
covered-before space page i = ((with_loads at_start).covered space page && not (taken space page (Slot 0 1) i)) && not (taken space page (Slot 1 0) i)

five : uncovered at_start selective ≡ 5
five =
    let one : uncovered at_start selective ≡ 1 + (1 + (1 + (0 + (0 + uncovered before loads)))) =
    uncovered-loads at_start (Changed (Slot 0 1) ∷ Changed (Slot 1 0) ∷ loads) in
    let two : uncovered before loads ≡ 2 =
    uncovered-loads before []
    ∙ (λ i. (if covered-before first 0 i then 0 else 1) + ((if covered-before first 1 i then 0 else 1) + ((if covered-before second 0 i then 0 else 1) + 0))) in
    omega (arith, one, two)

-- the second round notes nothing more
again : all_noted noted ≡ noted
again =
    ap (λ (s : FinSet note_order). noted_all (noted_all s first to_page_1) second from_second) (noted_all-there first noted to_page_0 (all _, (all _, (all _, tt))))
    ∙ ap (λ (s : FinSet note_order). noted_all s second from_second) (noted_all-there first noted to_page_1 (all _, (all _, (all _, tt))))
    ∙ noted_all-there second noted from_second (all _, (all _, (all _, tt)))

noted_is : (economy_after at_start selective).noted ≡ all_noted noted
unfolding walk trail_from
noted_is = refl

frames_are : frames_needed selective ≡ 4
unfolding walk trail_from
frames_are = refl

eight : len noted ≡ 8
eight =
    len-noted_all second (noted_all (noted_all empty first to_page_0) first to_page_1) (with_notes first (with_notes first [] to_page_0) to_page_1) twice from_second
    ∙ ap (λ (n : ℕ). n + 3) (len-noted_all first (noted_all empty first to_page_0) (with_notes first [] to_page_0) once to_page_1
    ∙ ap (λ (n : ℕ). n + 2) (len-noted_all first empty [] none to_page_0 ∙ ap (λ (n : ℕ). n + 3) (len-empty note_order)))

pub changes_are_selective : ChangesAreSelective
changes_are_selective = record {
  walked = five;
  frames = frames_are;
  records = ap len noted_is ∙ ap len again ∙ eight;
}
