-- What a pass over capabilities makes of the tables. (Own.)
use Rattle.std.specs.Prelude.{◌≡◌, ℕ, ◌<◌, Bool, true, false, ◌||◌, if◌then◌else◌, List, length, replicate, slice_index_or, slice_set}
use Rattle.std.specs.List.{list_any}
use Rattle.cap_format.specs.declared.kind.CapKind.{CapKind}
use Rattle.cap_format.specs.declared.kind.CapKind.TheVariants.{Page, Gpt, Window, Process, Range}
use Rattle.cap_format.specs.Capability.{Capability}
use Rattle.object_store.specs.declared.sizes.Sizes.{Sizes}
use Rattle.object_store.specs.Store.{Store, cappage_at}
use Rattle.object_store.specs.Places.{cap_in, places_in}
use Rattle.quiet_runs.specs.declared.reached_by.ReachedBy.{ReachedBy}
use Rattle.quiet_runs.specs.declared.reached_by.ReachedBy.TheVariants.{Nobody, Alone, Several}
use Rattle.quiet_runs.specs.Reaching.{joined, joined_below, caps_of, names, held_by, reached_within}
use Rattle.quiet_runs.specs.Finding.{is_below, is_far_reaching, some_held}
use Rattle.quiet_finding.specs.Comers.{ComersValue, comers, to_gpt, to_page, names_process}

-- the tables of a machine of these sizes in which nobody comes to anything, and nothing is held
abbrev pub nothing_reached : Sizes → ComersValue
nothing_reached sizes = comers (replicate sizes.gpts Nobody) (replicate sizes.pages Nobody) (replicate sizes.processes false) false

-- ---- one capability

-- a table with others who come to an object as well
abbrev pub joined_at : List ReachedBy → ℕ → ReachedBy → List ReachedBy
joined_at table n by = slice_set table n (joined (slice_index_or table n Nobody) by)

-- the tables after a capability of this kind to this object, which these hold
abbrev pub after_kind : CapKind → ℕ → ReachedBy → ComersValue → ComersValue
after_kind Page n by r = comers r.gpts (joined_at r.pages n by) r.named r.far
after_kind Gpt n by r = comers (joined_at r.gpts n by) r.pages r.named r.far
after_kind Process n by r = comers r.gpts r.pages (slice_set r.named n true) r.far
after_kind Range n by r = comers r.gpts r.pages r.named true
after_kind Window n by r = comers r.gpts r.pages r.named true
after_kind _ n by r = r

-- the tables after a capability
abbrev pub after_cap : Capability → ReachedBy → ComersValue → ComersValue
after_cap c by r = after_kind c.kind c.object by r

-- ---- several

-- what is joined to the entry of an object, by its kind and number
abbrev pub Joins : Type 0
Joins = CapKind → ℕ → ReachedBy

-- whether one of the capabilities passes a test
abbrev pub Finds : Type 0
Finds = (Capability → Bool) → Bool

-- The tables after capabilities: these come to objects by them, and these tests are passed.
pub record IsAfter (joins : Joins) (finds : Finds) (old new : ComersValue) : Type 0 where
  pub gpt_count : length new.gpts ≡ length old.gpts
  pub page_count : length new.pages ≡ length old.pages
  pub process_count : length new.named ≡ length old.named
  pub gpts : (n : ℕ) → n < length old.gpts → to_gpt new n ≡ joined (to_gpt old n) (joins Gpt n)
  pub pages : (n : ℕ) → n < length old.pages → to_page new n ≡ joined (to_page old n) (joins Page n)
  pub named : (p : ℕ) → p < length old.named → names_process new p ≡ (names_process old p || finds (λ c. names c Process p))
  pub far : new.far ≡ (old.far || finds (λ c. is_far_reaching c.kind))

-- who comes to an object by one capability, which these hold
abbrev pub by_cap : ReachedBy → Capability → CapKind → ℕ → ReachedBy
by_cap by c kind n = if names c kind n then by else Nobody

-- by those in the first places of an object
abbrev pub by_places : Store → ReachedBy → CapKind → ℕ → ℕ → Joins
by_places s by holder m count kind n = joined_below (λ i. by_cap by (cap_in s holder m i) kind n) count

-- a test of those
abbrev pub in_places : Store → CapKind → ℕ → ℕ → Finds
in_places s holder m count test = is_below (λ i. test (cap_in s holder m i)) count

-- who holds what object `m` of a kind holds: a process, or whoever comes to a GPT by the tables, or nobody knows who
abbrev pub holder_of : ComersValue → CapKind → ℕ → ReachedBy
holder_of last Process m = Alone m
holder_of last Gpt m = to_gpt last m
holder_of last _ m = Several

-- who comes to an object by those in the first objects of a kind
abbrev pub by_objects : Store → ComersValue → CapKind → ℕ → Joins
by_objects s last holder count kind n = joined_below (λ m. by_places s (holder_of last holder m) holder m (places_in holder) kind n) count

-- a test of those
abbrev pub in_objects : Store → CapKind → ℕ → Finds
in_objects s holder count test = is_below (λ m. in_places s holder m (places_in holder) test) count

-- ---- rounds

-- a test of what processes and capability pages hold
abbrev pub held_outside : Store → Finds
held_outside s test =
    is_below (λ p. list_any test (caps_of s p)) (length s.contents.processes)
    || is_below (λ c. list_any test (cappage_at s c)) (length s.contents.cappages)

-- The tables say who holds a capability to an object, and of the tests those that a process or a capability page passes.
pub record IsOfHolders (s : Store) (r : ComersValue) : Type 0 where
  pub gpt_count : length r.gpts ≡ length s.items.gpts
  pub page_count : length r.pages ≡ length s.contents.pages
  pub process_count : length r.named ≡ length s.contents.processes
  pub gpts : (n : ℕ) → n < length s.items.gpts → to_gpt r n ≡ held_by s Gpt n
  pub pages : (n : ℕ) → n < length s.contents.pages → to_page r n ≡ held_by s Page n
  pub named : (p : ℕ) → p < length s.contents.processes → names_process r p ≡ held_outside s (λ c. names c Process p)
  pub far : r.far ≡ held_outside s (λ c. is_far_reaching c.kind)

-- The tables say who comes to an object through at most so many GPTs, and what is held.
pub record IsWithin (s : Store) (most : ℕ) (r : ComersValue) : Type 0 where
  pub gpt_count : length r.gpts ≡ length s.items.gpts
  pub page_count : length r.pages ≡ length s.contents.pages
  pub process_count : length r.named ≡ length s.contents.processes
  pub gpts : (n : ℕ) → n < length s.items.gpts → to_gpt r n ≡ reached_within most s Gpt n
  pub pages : (n : ℕ) → n < length s.contents.pages → to_page r n ≡ reached_within most s Page n
  pub named : (p : ℕ) → p < length s.contents.processes → names_process r p ≡ some_held (λ c. names c Process p) s
  pub far : r.far ≡ some_held (λ c. is_far_reaching c.kind) s
