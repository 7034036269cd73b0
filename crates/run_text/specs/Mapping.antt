-- The line of a mapping: where a page of a space lies, and what may be done there.
use Rattle.std.specs.Prelude.{ℕ, Bool, if◌then◌else◌, List, [], ◌++◌, codes, decimal}
use Rattle.coy_text.specs.Numeral.{hex_text}
use Rattle.cap_format.specs.Capability.{Capability}
use Rattle.cap_words.specs.Text.{cap_text}
use Rattle.coy_io.specs.Lines.{line_feed}

-- what may be done: reading always
abbrev pub rights_text : Bool → Bool → List ℕ
rights_text write execute = codes "r" ++ (if write then codes "w" else []) ++ (if execute then codes "x" else [])

-- the line of a page of a space at an address, by its number and what may be done
abbrev pub mapping_text : Capability → ℕ → ℕ → Bool → Bool → List ℕ
mapping_text space va page write execute =
    codes "map " ++ cap_text space ++ codes " " ++ hex_text 8 va ++ codes " page " ++ decimal page ++ codes " " ++
    rights_text write execute ++ line_feed
