-- The two lines that open a listing.
use Rattle.std.specs.Prelude.{ℕ, ◌==◌, ◌&&◌, nat_le, List, length, bytes_eq, codes, Option, Some, None, if◌then◌else◌}
use Rattle.object_store.specs.declared.sizes.Sizes.{Sizes}
use Rattle.listing_read.specs.declared.terms.Version.{Version}
use Rattle.listing_read.specs.declared.terms.Version.TheVariants.{One, Two}
use Rattle.coy_text.specs.Words.{field}
use Rattle.coy_text.specs.Reading.{◌>>=◌, given}
use Rattle.cap_words.specs.Spelling.{dec_to}

-- the version that a number names
abbrev pub version_named : List ℕ → Option Version
version_named word =
    if bytes_eq word (codes "1") then Some One else (if bytes_eq word (codes "2") then Some Two else None)

-- `coyotos 1` or `coyotos 2`
unfoldable pub version_of : List (List ℕ) → Option Version
version_of words = do
  _ ← given ((length words == 2) && bytes_eq (field words 0) (codes "coyotos"))
  version_named (field words 1)

-- `machine HARTS PAGES CAPPAGES GPTS PROCESSES ENDPOINTS`, each within its limit
unfoldable pub machine_of : List (List ℕ) → Option Sizes
machine_of words = do
  _ ← given ((length words == 7) && bytes_eq (field words 0) (codes "machine"))
  harts ← dec_to 8 (field words 1)
  _ ← given (nat_le 1 harts)
  pages ← dec_to 4096 (field words 2)
  cappages ← dec_to 256 (field words 3)
  gpts ← dec_to 1024 (field words 4)
  processes ← dec_to 256 (field words 5)
  endpoints ← dec_to 1024 (field words 6)
  Some (record { harts = harts; pages = pages; cappages = cappages; gpts = gpts; processes = processes; endpoints = endpoints })
