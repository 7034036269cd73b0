-- What `confine` comes to (this project's own).
use Rattle.std.specs.Prelude.{◌≡◌, ◌↔◌, ℕ, List, [], ◌++◌, codes, decimal, Option, Some, None}
use Rattle.cap_format.specs.declared.kind.CapKind.{CapKind}
use Rattle.cap_format.specs.declared.kind.CapKind.TheVariants.{Gpt}
use Rattle.cap_format.specs.Capability.{Capability}
use Rattle.cap_words.specs.Text.{cap_text}
use Rattle.object_store.specs.Store.{size_of}
use Rattle.kernel_core.specs.State.{State}
use Rattle.cap_words.specs.Kind.{kind_word}
use Rattle.image_builder.specs.Boot.{booted}
use Rattle.schedules.specs.Queues.{QueuesValue, sleepers_of}
use Rattle.confinement.specs.Cut.{Sides, Holds}
use Rattle.confinement.specs.Acts.{system_of}
use Rattle.confine_check.specs.declared.verdict.Breach.{Breach}
use Rattle.confine_check.specs.declared.verdict.Verdict.TheVariants as verdicts
use Rattle.confine_check.specs.Found.{meant_of, reads_to, verdict_in}
use Rattle.confine_check.specs.Sides.{all_right, cut_of, left_count, right_count}
use Rattle.courses.specs.Course.{Course, ends_in}
use Rattle.courses.specs.Ending.{Output, told_end}
use Rattle.courses.specs.Listed.{Behind}
use Rattle.courses.specs.declared.exit.Exit.TheVariants.{Done, CutRefused, TooLong}
use Rattle.confine_command.specs.Stated.{Stated, StatesSides, RefusedAt, PastEnd, stated}

-- how many objects are on each side of a cut that holds
unfoldable pub confined_text : Sides → List ℕ
confined_text sides = codes "confined left=" ++ decimal (left_count sides) ++ codes " right=" ++ decimal (right_count sides) ++ codes "\n"

-- which object has a capability that breaks a cut, in which place, and what it is
unfoldable pub breach_text : CapKind → ℕ → ℕ → Capability → List ℕ
breach_text kind n place cap =
    codes "breach " ++ kind_word kind ++ codes " " ++ decimal n ++ codes " " ++ decimal place ++ codes " " ++ cap_text cap ++ codes "\n"

-- what is told of a cut: the first capability that breaks it, or that it holds where none does
abbrev pub cut_text : Sides → Option Breach → List ℕ
cut_text sides None = confined_text sides
cut_text sides (Some found) = breach_text found.kind found.number found.place found.cap

-- what is told of a state and a cut; nobody sleeps at a machine's start, so a capability alone can break it
abbrev pub told : State → Sides → Output
told s sides = record { text = cut_text sides (meant_of (cut_of sides) s.store); exit = Done }

-- nobody sleeps on any process
abbrev pub NobodySleeps : QueuesValue → Type 0
NobodySleeps q = (on : ℕ) → sleepers_of q on ≡ []

-- nothing is found of a state and a cut exactly where the cut holds
abbrev pub FindsExactly : State → Sides → Type 0
FindsExactly s sides = (verdict_in (cut_of sides) s ≡ verdicts.Yes) ↔ Holds (cut_of sides) (system_of s)

-- how many slots are read for it
abbrev pub reads : State → Sides → ℕ
reads s sides = reads_to (verdict_in (cut_of sides) s) (size_of s.store.items Gpt)

-- what the command comes to at a state, by what the lines state; a GPT counts as one that is printed, since at most all of
-- its slots are read
abbrev pub checked : State → Stated → Course
checked s (StatesSides sides) = record (ends_in (told s sides)) { last_fetches = reads s sides; printed = size_of s.store.items Gpt }
checked s (RefusedAt line fault) = ends_in (told_end (CutRefused line fault))
checked s PastEnd = ends_in (told_end TooLong)

-- what it comes to with a listing, the number of its line `end` and the lines behind that: nothing runs
abbrev pub confine_course : Behind
confine_course listing last rest = checked (booted listing) (stated (all_right listing.sizes) last rest)
