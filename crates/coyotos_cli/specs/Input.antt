-- The input of a command, as it is taken: its lines, and what its bytes give as an image (this project's own).
use Rattle.std.specs.Prelude.{ℕ, List, [], Result}
use Rattle.coy_io.specs.Lines.{Part, parts_of, whole_lines}
use Rattle.image_binary.specs.Image.{unpacked}
use Rattle.image_binary.specs.declared.fault.ImageFault.{ImageFault}
use Rattle.image_commands.specs.Unpacked.{read_of}
use Rattle.listing_read.specs.Statement.{ListingValue}

-- what is taken of bytes
pub record Input : Type 0 where
  pub lines : List Part
  pub image : Result ListingValue ImageFault

-- what is taken of all bytes of the input
abbrev pub whole_input : List ℕ → Input
whole_input bytes = record { lines = parts_of bytes; image = unpacked bytes }

-- what is taken of bytes that were read, with more to come: their whole lines, and an image as if it ended behind them
abbrev pub read_input : List ℕ → Input
read_input bytes = record { lines = whole_lines [] bytes; image = read_of bytes }
