-- Where memory may be wanting (this project's own).
use Rattle.std.specs.Prelude.{◌≡◌, ◌≤◌, ◌⊎◌, ℕ, true, false, List, [], ◌∷◌, ◌++◌, length, Option, IfSome}
use Rattle.std.specs.Io.KnownBytes.{Consumes, IsAtEnd}
use Rattle.coy_io.specs.Limits.{window_limit}
use Rattle.coy_io.specs.Lines.{Part, Line, parts_of, whole_lines}
use Rattle.coy_io.specs.Reader.{Reader, ahead}
use Rattle.coy_text.specs.Words.{words_of}
use Rattle.kernel_core.specs.State.{State}
use Rattle.listing_read.specs.Listing.{Good, listing_of}
use Rattle.listing_read.specs.Statement.{ListingValue}
use Rattle.listing_read.specs.declared.object_fault.QuestionFault.TheVariants.{NoEnd}
use Rattle.listing_read.specs.declared.place.Place.TheVariants.{Header}
use Rattle.question_lines.specs.QuestionLine.{is_of_policy, takes_memory}
use Rattle.schedule_replay.specs.Scheduled.{OnParts}
use Rattle.courses.specs.Wanting.{StandsAtListing}
use Rattle.explore_program.specs.declared.asked.Asked.{Asked}
use Rattle.explore_program.specs.Posed.{IsPosed, posed, posed_by}
use Rattle.explore_program.specs.Stated.{RefusedAt, StopsAtLine, first_asked, stated}

-- A source stands at its question: before a line, of which no more was taken than a reader has room for with all that came behind
-- it, stand the whole lines of a listing and of a question that lacks its end, and have no fault but that. In the known bytes the
-- line is the next of the question; it says a choice or asks something, by its first word, and is none of the policy's.
pub record StandsAtQuestion (held held' : Option (List ℕ)) : Type 0 where
  pub bytes : List ℕ
  pub line : List ℕ
  pub behind : List ℕ
  pub read : Consumes held held' (bytes ++ (line ++ behind))
  pub near : length (line ++ behind) ≤ window_limit
  pub listing : ListingValue
  pub last : ℕ
  pub given : List Part
  pub listed : listing_of Header 1 (whole_lines [] bytes) ≡ Good listing last given
  pub number : ℕ
  pub unended : stated (first_asked listing.sizes) last given ≡ RefusedAt number NoEnd
  pub plain : is_of_policy (words_of line) ≡ false
  pub takes : takes_memory (words_of line) ≡ true
  pub next : IfSome held (λ all. (more : List Part) × (listing_of Header 1 (parts_of all) ≡ Good listing last (given ++ Line line ∷ more)))

-- where memory may be wanting behind a listing: for a line of the question, or for the search, before which all lines were read,
-- and they ask something
abbrev pub WantsBehind : Asked → State → ℕ → Reader → Reader → Option (List ℕ) → Option (List ℕ) → Type 0
WantsBehind first s harts old new held held' =
    StopsAtLine first old new held held'
    ⊎ (IsAtEnd held' × OnParts (ahead old held) (λ parts. IsPosed (posed_by s harts (stated first old.number parts))))

-- where it may be wanting at all: where the source stands at its listing, or at its question, or in the search, before which the
-- whole input was read, and it asks something
abbrev pub Wants : Option (List ℕ) → Option (List ℕ) → Type 0
Wants held held' =
    StandsAtListing held held' ⊎ (StandsAtQuestion held held' ⊎ (IsAtEnd held' × IfSome held (λ bytes. IsPosed (posed bytes))))
