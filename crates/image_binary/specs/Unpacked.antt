-- What reading an image from a source says of the source's bytes, where these are known.
use Rattle.std.specs.Prelude.{◌≡◌, ◌<◌, ◌≤◌, ◌+◌, ℕ, ⊤, List, [], ◌++◌, length, Option, None, Some, Result, Ok, Err}
use Rattle.std.specs.Io.KnownBytes.{Consumes}
use Rattle.coy_io.specs.Limits.{input_limit}
use Rattle.object_store.specs.declared.sizes.Sizes.{Sizes}
use Rattle.listing_read.specs.Statement.{ListingValue}
use Rattle.listing_read.specs.declared.statement.Statement.{Statement}
use Rattle.image_binary.specs.declared.fault.ImageFault.{ImageFault}
use Rattle.image_binary.specs.declared.fault.ImageFault.TheVariants.{Refused, ReadFault, TooLong, OutOfMemory}
use Rattle.image_binary.specs.Fields.{Read}
use Rattle.image_binary.specs.Image.{listing_of, statements_of, unpacked, IsOpen}
use Rattle.image_binary.specs.Laws.{AreBytes}

-- each answer by the bytes that the source had, and those that it has left: a listing and a refusal are what the bytes
-- give, and where the source failed, the bytes taken from it have no fault, but that they are not all. Want of memory says
-- nothing of them.
abbrev pub IsAnswer : Result ListingValue ImageFault → List ℕ → List ℕ → Type 0
IsAnswer (Ok listing) bytes left = (unpacked bytes ≡ Ok listing) × (left ≡ [])
IsAnswer (Err (Refused offset fault)) bytes left = unpacked bytes ≡ Err (Refused offset fault)
IsAnswer (Err TooLong) bytes left = unpacked bytes ≡ Err TooLong
IsAnswer (Err ReadFault) bytes left = (taken : List ℕ) × (bytes ≡ taken ++ left) × IsOpen (listing_of taken)
IsAnswer (Err OutOfMemory) bytes left = ⊤

-- the same of known bytes
abbrev pub Answers : Result ListingValue ImageFault → Option (List ℕ) → Option (List ℕ) → Type 0
Answers result None left = ⊤
Answers result (Some bytes) None = ⊥
Answers result (Some bytes) (Some left) = IsAnswer result bytes left

-- the source lost bytes from its front, at most one more than are read
pub record Takes (old new : Option (List ℕ)) : Type 0 where
  pub taken : List ℕ
  pub bytes : AreBytes taken
  pub consumed : Consumes old new taken
  pub few : length taken ≤ input_limit + 1

-- what other statements give behind these
abbrev pub with_front : Sizes → List Statement → Read (List Statement) → Read ListingValue
with_front sizes front (Ok x) = Ok (record { sizes = sizes; statements = front ++ x.0 }, x.1)
with_front sizes front (Err stop) = Err stop

-- A source stands at a statement of its image: the bytes taken of it are a head, some statements, and others behind the last of
-- those; so what they give with any more is these statements, and what the others give with them as those that are left.
pub record StandsAtStatement (old new : Option (List ℕ)) : Type 0 where
  pub taken : List ℕ
  pub consumed : Consumes old new taken
  pub sizes : Sizes
  pub read : List Statement
  pub some : 0 < length read
  pub left : ℕ
  pub behind : List ℕ
  pub gives : (more : List ℕ) → listing_of (taken ++ more) ≡ with_front sizes read (statements_of sizes left (behind ++ more))

-- both
pub record Unpacks (result : Result ListingValue ImageFault) (old new : Option (List ℕ)) : Type 0 where
  pub answers : Answers result old new
  pub takes : Takes old new

-- the answer is this listing, unless memory was wanting or the source failed
abbrev pub Finds : Result ListingValue ImageFault → ListingValue → Type 0
Finds (Ok found) listing = found ≡ listing
Finds (Err OutOfMemory) listing = ⊤
Finds (Err ReadFault) listing = ⊤
Finds (Err (Refused offset fault)) listing = ⊥
Finds (Err TooLong) listing = ⊥
