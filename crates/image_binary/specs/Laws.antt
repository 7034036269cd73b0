-- The laws of images: that of a listing is read as that listing, and no other bytes are. Their premises are what every
-- listing keeps, and the ranges of its values' types.
use Rattle.std.specs.Prelude.{◌≡◌, ◌≤◌, ◌<◌, ℕ, List, length, Ok}
use Rattle.std.specs.List.{All}
use Rattle.coy_io.specs.Limits.{input_limit}
use Rattle.listing_read.specs.Statement.{IsTyped, IsListing, ListingValue}
use Rattle.image_binary.specs.Image.{image_of, unpacked}

-- numbers of eight bits
abbrev pub AreBytes : List ℕ → Type 0
AreBytes bytes = All (λ byte. byte < 256) bytes

-- what a listing is, and the values of its statements in the ranges of their types
pub record IsPacked (l : ListingValue) : Type 0 where
  pub listing : IsListing l
  pub typed : All IsTyped l.statements

-- an image is read as its listing, where it has no more bytes than an input may have
abbrev pub ImagesAreRead : Type 0
ImagesAreRead =
    (listing : ListingValue) → IsPacked listing → length (image_of listing) ≤ input_limit → unpacked (image_of listing) ≡ Ok listing

-- bytes that are read as a listing are its image
abbrev pub OnlyImagesAreRead : Type 0
OnlyImagesAreRead =
    (bytes : List ℕ) (listing : ListingValue) → AreBytes bytes → unpacked bytes ≡ Ok listing → bytes ≡ image_of listing

-- no two listings have one image
abbrev pub ImagesDiffer : Type 0
ImagesDiffer = (l m : ListingValue) → IsPacked l → IsPacked m → image_of l ≡ image_of m → l ≡ m
