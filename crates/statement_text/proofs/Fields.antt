-- The fields of a printed line are read as what they were printed for.
use Rattle.std.proofs.Common.{ℕ, suc, ◌≡◌, ◌+◌, ◌*◌, ◌/◌, ◌%◌, ◌^◌, ◌<◌, ◌≤◌, true, List, [], ◌∷◌, ◌++◌, decimal, refl, arith, length, slice_index, length-append}
use Rattle.std.specs.Prelude.{Ok, Some, codes}
use Rattle.std.proofs.lemmas.Bool.{le-leb, lt-ltb, eq-eqb}
use Rattle.coy_text.specs.Bytes.{bytes_text}
use Rattle.coy_text.specs.Numeral.{hex_text}
use Rattle.coy_text.proofs.NumeralLaws.{dec_of-decimal, hex_of-hex_text, hex_digit-byte, length-hex_text}
use Rattle.cap_format.specs.declared.kind.CapKind.{CapKind}
use Rattle.cap_format.specs.declared.kind.CapKind.TheVariants.{Page, CapPage, Gpt, Endpoint, Process}
use Rattle.cap_format.specs.Kind.{is_object}
use Rattle.cap_words.specs.Kind.{kind_word}
use Rattle.object_store.specs.Ranges.{IsWithinLimits}
use Rattle.object_store.specs.declared.sizes.Sizes.{Sizes}
use Rattle.object_store.specs.Sizes.{size_in}
use Rattle.listing_read.specs.Fields.{hex_number_of, number_of_object, object_of, first_page_of, between_of}
use Rattle.listing_read.specs.Terms.{has_names}
use Rattle.listing_read.specs.declared.terms.Terms.{Terms}
use Rattle.listing_read.specs.StatementLines.{kind_of, hex_bytes_of}
use Rattle.coy_text.specs.Reading.{◌>>=◌}
use Rattle.listing_read.specs.Bytes.{byte_of, bytes_of}
use Rattle.statement_text.proofs.Called.{called-decimal}
use Rattle.statement_text.proofs.Printed.{IsPiece, piece, joined, piece-hex_text, IsPrinted}
use Rattle.statement_text.proofs.Lines.{keyword, printed-decimal}

-- no machine has more than 4,096 objects of a kind
pub size_small : (sizes : Sizes) (kind : CapKind) → IsWithinLimits sizes → size_in sizes kind ≤ 4096
size_small sizes Page limits = limits.pages
size_small sizes CapPage limits = omega (arith, limits.cappages)
size_small sizes Gpt limits = omega (arith, limits.gpts)
size_small sizes Process limits = omega (arith, limits.processes)
size_small sizes Endpoint limits = omega (arith, limits.endpoints)
size_small sizes _ limits = omega arith

-- the number of an object
pub number_of_object-decimal : (terms : Terms) (kind : CapKind) (n : ℕ) → n < 2 ^ 32 → number_of_object terms kind (decimal n) ≡ Ok n
unfolding number_of_object
number_of_object-decimal terms kind n fits = rw (called-decimal (has_names terms.version) n fits, dec_of-decimal n fits) refl

-- of one that the machine has
pub object_of-decimal : (terms : Terms) (kind : CapKind) (n : ℕ) → IsWithinLimits terms.sizes → n < size_in terms.sizes kind → object_of terms kind (decimal n) ≡ Ok n
unfolding object_of
object_of-decimal terms kind n limits below =
    rw (number_of_object-decimal terms kind n (omega (arith, size_small terms.sizes kind limits)), lt-ltb n (size_in terms.sizes kind) below) refl

-- the first of some pages
pub first_page_of-decimal : (terms : Terms) (count n : ℕ) → IsWithinLimits terms.sizes → n + count ≤ terms.sizes.pages → first_page_of terms count (decimal n) ≡ Ok n
unfolding first_page_of
first_page_of-decimal terms count n limits below =
    rw (number_of_object-decimal terms Page n (omega (arith, limits.pages)), le-leb (n + count) terms.sizes.pages below) refl

-- it is a printed word
pub printed-number : (sizes : Sizes) (kind : CapKind) (n : ℕ) → IsWithinLimits sizes → n < size_in sizes kind → IsPrinted 64 (decimal n)
printed-number sizes kind n limits below = printed-decimal n (omega (arith, size_small sizes kind limits))

-- a number in a range
pub between_of-decimal : (least most n : ℕ) → most < 2 ^ 32 → least ≤ n → n ≤ most → between_of least most (decimal n) ≡ Ok n
unfolding between_of
between_of-decimal least most n fits low high =
    rw (dec_of-decimal n (omega arith), le-leb least n low, le-leb n most high) refl

-- a value of eight digits
pub hex_number_of-hex_text : (n : ℕ) → n < 2 ^ 32 → hex_number_of (hex_text 8 n) ≡ Ok n
hex_number_of-hex_text n fits = rw (hex_of-hex_text 8 n (omega arith) (omega arith) (omega arith)) refl

-- a kind of objects
pub kind_named : (kind : CapKind) → is_object kind ≡ true → IsPrinted 64 (kind_word kind) × (kind_of (kind_word kind) ≡ Ok kind)
unfolding kind_of
kind_named Page is = (keyword (codes "page") refl, refl)
kind_named CapPage is = (keyword (codes "cappage") refl, refl)
kind_named Gpt is = (keyword (codes "gpt") refl, refl)
kind_named Endpoint is = (keyword (codes "endpoint") refl, refl)
kind_named Process is = (keyword (codes "process") refl, refl)
kind_named _ is = absurd (cc)

-- each byte is below 256
abbrev pub AreBytes : List ℕ → Type 0
AreBytes bytes = (i : ℕ) → slice_index bytes i < 256

-- the pair of a byte, in front of others
bytes_of-pair : (byte : ℕ) (digits : List ℕ) → byte < 256 → bytes_of (hex_text 2 byte ++ digits) ≡ (bytes_of digits >>= (λ bytes. Some (byte ∷ bytes)))
unfolding bytes_of byte_of hex_text
bytes_of-pair byte digits below =
    let whole : byte / 16 % 16 * 16 + byte % 16 ≡ byte = omega arith in
    rw (hex_digit-byte (byte / 16 % 16) (omega arith), hex_digit-byte (byte % 16) (omega arith), whole) refl

-- all pairs
bytes_of-bytes_text : (bytes : List ℕ) → AreBytes bytes → bytes_of (bytes_text bytes) ≡ Some bytes
unfolding bytes_of
bytes_of-bytes_text [] each = refl
bytes_of-bytes_text (byte ∷ bytes) each =
    rw (bytes_of-pair byte (bytes_text bytes) (each 0), bytes_of-bytes_text bytes (λ i. each (suc i))) refl

-- two digits for each byte
pub piece-bytes_text : (bytes : List ℕ) → IsPiece (2 * length bytes) (bytes_text bytes)
piece-bytes_text [] = piece [] refl
piece-bytes_text (byte ∷ bytes) =
    let all = joined (piece-hex_text 2 byte) (piece-bytes_text bytes) in
    record { short = omega (arith, all.short); glyphs = all.glyphs }

pub length-bytes_text : (bytes : List ℕ) → length (bytes_text bytes) ≡ 2 * length bytes
length-bytes_text [] = refl
length-bytes_text (byte ∷ bytes) =
    omega (arith, length-append (hex_text 2 byte) (bytes_text bytes), length-hex_text 2 byte, length-bytes_text bytes)

-- 1 to 64 bytes
pub hex_bytes_of-bytes_text : (bytes : List ℕ) → 1 ≤ length bytes → length bytes ≤ 64 → AreBytes bytes → hex_bytes_of (bytes_text bytes) ≡ Ok bytes
unfolding hex_bytes_of
hex_bytes_of-bytes_text bytes some few each =
    let digits = length-bytes_text bytes in
    let even : 2 * length bytes % 2 ≡ 0 = omega arith in
    rw (digits, le-leb 2 (2 * length bytes) (omega arith), le-leb (2 * length bytes) 128 (omega arith), eq-eqb (2 * length bytes % 2) 0 even, bytes_of-bytes_text bytes each) refl
