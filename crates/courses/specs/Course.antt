-- What a command comes to: the records that it writes, what is written behind those, how the program ends and how many
-- slots are fetched (this project's own).
use Rattle.std.specs.Prelude.{ℕ, ◌+◌, List, [], Option}
use Rattle.object_store.specs.Store.{Items}
use Rattle.kernel_core.specs.Outcome.{Touch}
use Rattle.map_cache.specs.declared.mapping.Mapping.{Mapping}
use Rattle.map_cache.specs.Kept.{nothing}
use Rattle.fetch_economy.specs.Counts.{fetched_by}
use Rattle.courses.specs.Ending.{Output, Outputs, Fetches, before}
use Rattle.courses.specs.Entries.{AreEntriesBehind, no_items}
use Rattle.courses.specs.declared.exit.Exit.{Exit}

-- what lines come to: the records that are written, and what the translator is asked for them; then what is written last,
-- how the program ends, and the slots that are fetched for that, the accesses made and the GPTs printed; and the items at
-- the end, with the entries that the mapping cache has then
pub record Course : Type 0 where
  pub records : List ℕ
  pub touches : List Touch
  pub last : Output
  pub last_fetches : ℕ
  pub last_accesses : ℕ
  pub printed : ℕ
  pub end : Items
  pub entries : List Mapping

-- nothing comes but this
abbrev pub ends_in : Output → Course
ends_in last = record {
  records = [];
  touches = [];
  last = last;
  last_fetches = 0;
  last_accesses = 0;
  printed = 0;
  end = no_items;
  entries = [];
}

-- the entries are right, and whole where the need fits
abbrev pub HasEntries : Course → Type 0
HasEntries course = AreEntriesBehind course.end course.touches course.entries

-- the records, what is written last, and how the program ends
abbrev pub course_output : Course → Output
course_output course = before course.records course.last

-- all slots that are fetched, where touches fetch so many
abbrev pub course_fetches : (List Touch → ℕ) → Course → ℕ
course_fetches count course = count course.touches + course.last_fetches

-- how many slots touches fetch over the program's translator: a mapping cache that keeps nothing at first
abbrev pub cached : List Touch → ℕ
cached touches = fetched_by nothing touches

-- what a call wrote, how many slots it fetched and how it ended is what lines come to
pub record ComesTo (taken taken' : Option (List ℕ)) (fetches fetches' : ℕ) (exit : Exit) (count : List Touch → ℕ) (course : Course) : Type 0 where
  pub output : Outputs taken taken' exit (course_output course)
  pub fetched : Fetches fetches fetches' exit (course_fetches count course)
