-- A request, by its words: w1 is its number.
use Rattle.std.specs.Prelude.{ℕ, slice_index}
use Rattle.cap_format.specs.declared.request.Request.{Request}
use Rattle.cap_format.specs.Capability.{Capability}

-- the request's number
abbrev pub w1 : Request → ℕ
w1 r = slice_index r.words 0

-- the three words that a row names its arguments by
abbrev pub w2 : Request → ℕ
w2 r = slice_index r.words 1

-- the third word
abbrev pub w3 : Request → ℕ
w3 r = slice_index r.words 2

-- the fourth word
abbrev pub w4 : Request → ℕ
w4 r = slice_index r.words 3

-- the request with the function applied to the capability that is sent
abbrev pub request_map : (Capability → Capability) → Request → Request
request_map f r = record { words = r.words; sent = f r.sent }
