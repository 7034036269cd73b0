-- How many slots a call read that had no memory to go on.
use Rattle.std.proofs.Common.{◌≡◌, ◌≢◌, ◌⊎◌, ◌+◌, ◌*◌, [], ◌∷◌, ℕ, List, Option, Some, None, IfSome, inl, inr, refl, sym, ap, length, map, arith}
use Rattle.coy_io.specs.Lines.{Part, parts_of}
use Rattle.coy_io.specs.Reader.{Reader, ahead, new_reader}
use Rattle.image_builder.specs.Boot.{booted}
use Rattle.kernel_core.specs.State.{State}
use Rattle.listing_read.specs.Listing.{IsListed, listing_of}
use Rattle.listing_read.specs.Statement.{ListingValue}
use Rattle.listing_read.specs.declared.place.Place.TheVariants.{Header}
use Rattle.separation_policy.specs.Making.{first_policy}
use Rattle.separation_policy.specs.Policy.{PolicyValue}
use Rattle.separation_check.specs.Crossings.{forbidden_in, meant_crossing}
use Rattle.separation_check.specs.declared.crossing.Crossing.{Crossing}
use Rattle.policy_lines.specs.Needed.{BarredAre, LinesAre, NeededValue}
use Rattle.policy_lines.specs.Passages.{ReadsWhole}
use Rattle.policy_lines.specs.Permission.{channels_of}
use Rattle.policy_lines.proofs.Passing.{reads-more}
use Rattle.schedule_replay.specs.Scheduled.{OnParts}
use Rattle.courses.specs.declared.exit.Exit.TheVariants.{OutOfMemory}
use Rattle.separation_program.specs.Slots.{LacksFor, LacksJudging, LacksListed, LacksStated, WantsFor, gpts_of, passed_before, walked}
use Rattle.separation_program.specs.Stated.{stated}
use Rattle.separation_program.specs.Text.{told_needed}
use Rattle.separation_program.specs.declared.words.Aim.{Aim}
use Rattle.separation_program.specs.declared.words.Aim.TheVariants.{Holds}
use Rattle.separation_program.proofs.Slots.{listed-behind}

-- all slots were gone through so many times
pub reads-all : (slots times start end : ℕ) → end ≡ start + slots * times → ReadsWhole slots times start end
reads-all slots times start end read = record { times = times; few = omega arith; read = read }

-- nothing crosses: all slots were gone through once, and then so many times more
pub lacks-held : (policy : PolicyValue) (s : State) (found : List Crossing) → map meant_crossing found ≡ forbidden_in policy s → found ≡ [] → (f g h : ℕ) → g ≡ f + 16 * gpts_of s
    → ReadsWhole (16 * gpts_of s) (length (channels_of policy)) g h → LacksJudging Holds policy s f h
lacks-held policy s [] means none f g h first more = reads-more _ _ _ f g h (ap (passed_before policy) (sym means)) first more
lacks-held policy s (first ∷ rest) means none f g h once more = cc

-- what lines are needed is told with no memory
pub needed-memory : (policy : PolicyValue) (needed : NeededValue) → (told_needed policy needed).exit ≢ OutOfMemory
needed-memory policy (LinesAre lines) same = cc
needed-memory policy (BarredAre found) same = cc

-- where memory was wanting, and by how many slots were read, tells how many were
pub lacks-for : (aim : Aim) (held held' : Option (List ℕ)) (f h : ℕ) → WantsFor aim held held' f h → IfSome held (λ bytes. LacksFor aim bytes f h)
lacks-for aim None held' f h wants = tt
lacks-for aim (Some bytes) held' f h (inl w) = inl w.1
lacks-for aim (Some bytes) held' f h (inr w) = inr w.1

-- what was read of the lines behind a listing, was read of the input
pub lacks-behind : (aim : Aim) (listing : ListingValue) (last : ℕ) (s : State) (harts : ℕ) (policy : PolicyValue) → s ≡ booted listing → harts ≡ listing.sizes.harts → policy ≡ first_policy listing.sizes
    → (held mid : Option (List ℕ)) (first middle : Reader) → middle.number ≡ last → first ≡ new_reader
    → IsListed Header (first.number + 1) (ahead first held) listing middle.number (ahead middle mid) → (f h : ℕ)
    → OnParts (ahead middle mid) (λ parts. LacksStated walked aim s harts (stated policy last parts) f h)
    → IfSome held (λ bytes. LacksListed walked aim (listing_of Header 1 (parts_of bytes)) f h)
lacks-behind aim listing last s harts policy state sizes start held mid first middle number starts listed f h is =
    listed-behind (λ s harts all. LacksStated walked aim s harts all f h) (λ listed. LacksListed walked aim listed f h) (λ listing last rest lacks. lacks)
    listing last s harts policy state sizes start held mid first middle number starts listed is
