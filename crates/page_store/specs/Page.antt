-- Pages: lists of 4,096 bytes.
use Rattle.std.specs.Prelude.{◌≡◌, ℕ, ◌+◌, List, ◌++◌, length, take, drop, replicate}

-- what each page keeps: it has 4,096 bytes (Coyotos)
abbrev pub IsPage : List ℕ → Type 0
IsPage page = length page ≡ 4096

-- the `count` bytes of a page from offset `at` on
abbrev pub bytes_at : List ℕ → ℕ → ℕ → List ℕ
bytes_at page at count = take count (drop at page)

-- the page with these bytes from offset `at` on, and all else the same
abbrev pub with_bytes : List ℕ → ℕ → List ℕ → List ℕ
with_bytes page at bytes = take at page ++ bytes ++ drop (at + length bytes) page

-- the empty page: zeros (Coyotos)
unfoldable pub empty_page : List ℕ
empty_page = replicate 4096 0
