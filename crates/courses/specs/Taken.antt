-- What a call promises that takes an input, by what this comes to (this project's own).
use Rattle.std.specs.Prelude.{◌≡◌, ◌≢◌, ℕ, true, List, [], Option, IfSome}
use Rattle.std.specs.Io.KnownBytes.{IsAtEnd}
use Rattle.coy_io.specs.Lines.{Part, parts_of, whole_lines}
use Rattle.coy_io.specs.Reader.{Reader, ahead}
use Rattle.kernel_core.specs.Outcome.{Touch}
use Rattle.schedule_replay.specs.Scheduled.{OnParts}
use Rattle.courses.specs.Course.{Course, ComesTo}
use Rattle.courses.specs.Ending.{HasCauses}
use Rattle.courses.specs.Exit.{is_finished}
use Rattle.courses.specs.Listed.{Behind, lines_course}
use Rattle.courses.specs.Sure.{StandsOn, StandsSure}
use Rattle.courses.specs.declared.exit.Exit.{Exit}
use Rattle.courses.specs.declared.exit.Exit.TheVariants.{Usage, ReadFault, OutOfMemory}

-- by the bytes that a source holds and how often it failed, and the bytes that a sink took and how often it failed
module _ {S K : Type 0} (held : S → Option (List ℕ)) (source_faults : S → ℕ)
    (taken : K → Option (List ℕ)) (sink_faults : K → ℕ) where
  -- What a call did that takes an input, of which all bytes come to `whole`, and those to `front` behind which reading failed.
  -- How many slots touches fetch is `count`.
  pub record TakesInput (old new : S) (out out' : K) (fetches fetches' : ℕ) (exit : Exit) (count : List Touch → ℕ)
      (whole front : List ℕ → Course) : Type 0 where
    -- what it wrote, how many slots it fetched and how it ended is what the known bytes come to
    pub comes : IfSome (held old) (λ bytes. ComesTo (taken out) (taken out') fetches fetches' exit count (whole bytes))
    -- where all was done, the source was read to its end
    pub end : is_finished exit ≡ true → IsAtEnd (held new)
    -- where reading failed, the records were written and the slots fetched that the bytes make sure which were read
    pub sure : exit ≡ ReadFault → StandsSure (held old) (held new) (taken out) (taken out') fetches fetches' count front
    -- it does not tell how the program is used
    pub usage : exit ≢ Usage
    -- a fault of reading or of writing is that object's
    pub causes : HasCauses (source_faults old) (source_faults new) (sink_faults out) (sink_faults out') exit
    -- where memory was wanting, nothing was written
    pub unwritten : exit ≡ OutOfMemory → taken out' ≡ taken out
    -- and no slot fetched
    pub unspent : exit ≡ OutOfMemory → fetches' ≡ fetches

  -- the same where the input is a listing and the lines behind it, by what a command does with these
  abbrev pub TakesListing : S → S → K → K → ℕ → ℕ → Exit → (List Touch → ℕ) → Behind → Type 0
  TakesListing old new out out' fetches fetches' exit count behind =
      TakesInput old new out out' fetches fetches' exit count
      (λ bytes. lines_course behind (parts_of bytes)) (λ bytes. lines_course behind (whole_lines [] bytes))

  -- what a call did that takes the lines behind a listing, from where a reader stands to where it stands then, by what lines
  -- come to
  pub record TakesLines (reader reader' : Reader) (old new : S) (out out' : K) (fetches fetches' : ℕ) (exit : Exit)
      (count : List Touch → ℕ) (course : List Part → Course) : Type 0 where
    -- what it wrote, how many slots it fetched and how it ended is what the known lines come to
    pub comes : OnParts (ahead reader (held old)) (λ parts.
        ComesTo (taken out) (taken out') fetches fetches' exit count (course parts))
    -- where all was done, the source was read to its end
    pub end : is_finished exit ≡ true → IsAtEnd (held new)
    -- where reading failed, the records were written and the slots fetched that the whole lines come to which were read
    pub sure : exit ≡ ReadFault →
        StandsOn reader reader' (held old) (held new) (taken out) (taken out') fetches fetches' count course
    -- it does not tell how the program is used
    pub usage : exit ≢ Usage
    -- a fault of reading or of writing is that object's
    pub causes : HasCauses (source_faults old) (source_faults new) (sink_faults out) (sink_faults out') exit
    -- where memory was wanting, nothing was written
    pub unwritten : exit ≡ OutOfMemory → taken out' ≡ taken out
    -- and no slot fetched
    pub unspent : exit ≡ OutOfMemory → fetches' ≡ fetches
