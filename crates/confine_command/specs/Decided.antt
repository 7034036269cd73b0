-- What is written of a cut is so of the machine that the listing boots (this project's own).
use Rattle.std.specs.Prelude.{◌≡◌, ◌⊎◌, ℕ, List}
use Rattle.coy_io.specs.Lines.{parts_of}
use Rattle.cap_format.specs.declared.kind.CapKind.{CapKind}
use Rattle.cap_format.specs.Capability.{Capability}
use Rattle.kernel_core.specs.State.{State}
use Rattle.listing_read.specs.Listing.{Listed, Good, Refused, Past, listing_of}
use Rattle.listing_read.specs.declared.place.Place.TheVariants.{Header}
use Rattle.image_builder.specs.Boot.{booted}
use Rattle.confinement.specs.Cut.{Sides, Holds}
use Rattle.confinement.specs.Acts.{system_of}
use Rattle.confinement.specs.Separation.{Separated}
use Rattle.confine_check.specs.declared.verdict.Breach.{Breach}
use Rattle.confine_check.specs.Found.{IsFirstBreach}
use Rattle.confine_check.specs.Sides.{all_right, cut_of}
use Rattle.confine_command.specs.Confine.{breach_text, confined_text}
use Rattle.confine_command.specs.Stated.{Stated, StatesSides, RefusedAt, PastEnd, stated}

-- What is written of a state and a cut is one of two lines. Where it is the one of a cut that holds, the cut holds, and its
-- sides are kept apart whatever events follow. Where it is one of a breach, the cut doesn't hold; and the capability that is
-- written is the first that breaks it.
pub record Decides (s : State) (sides : Sides) (text : List ℕ) : Type 0 where
  pub line : (text ≡ confined_text sides)
      ⊎ ((found : Breach) × (text ≡ breach_text found.kind found.number found.place found.cap) × IsFirstBreach (cut_of sides) s.store found)
  pub confined : text ≡ confined_text sides → Holds (cut_of sides) (system_of s) × Separated (cut_of sides) s
  pub breach : (kind : CapKind) (n place : ℕ) (cap : Capability) → text ≡ breach_text kind n place cap → ¬ (Holds (cut_of sides) (system_of s))

-- the same by what the lines behind a listing state, which is a cut
abbrev pub DecidesStated : State → Stated → List ℕ → Type 0
DecidesStated s (StatesSides sides) text = Decides s sides text
DecidesStated s (RefusedAt line fault) text = ⊥
DecidesStated s PastEnd text = ⊥

-- and by what the lines of an input make, which is a listing, with these lines behind it; the state is that at the start of
-- its machine
abbrev pub DecidesListed : Listed → List ℕ → Type 0
DecidesListed (Good listing last rest) text = DecidesStated (booted listing) (stated (all_right listing.sizes) last rest) text
DecidesListed (Refused line fault) text = ⊥
DecidesListed Past text = ⊥

-- a text is so of the cut that an input states
abbrev pub IsDecided : List ℕ → List ℕ → Type 0
IsDecided bytes text = DecidesListed (listing_of Header 1 (parts_of bytes)) text
