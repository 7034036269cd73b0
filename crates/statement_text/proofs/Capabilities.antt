-- The word of a capability is a printed word, and is read as that capability.
use Rattle.std.proofs.Common.{ℕ, ◌≡◌, ◌-◌, ◌%◌, ◌^◌, ◌<◌, ◌≤◌, ◌==◌, ◌&&◌, ◌||◌, not, Bool, true, false, List, [], ◌∷◌, ◌++◌, length, decimal, refl, sym, ◌∙◌, ap, inl, inr, append_assoc, arith}
use Rattle.std.specs.Prelude.{nat_lt, nat_le, Option, Some, None, Ok, codes, unwrap_or}
use Rattle.std.specs.List.{list_all}
use Rattle.std.proofs.lemmas.Bool.{leb-true, and_parts, not-true, le-leb, lt-ltb, ne_eqb, eq-eqb, eqb-true, cases_lt, agree_below_at}
use Rattle.std.proofs.lemmas.List.{append-nil}
use Rattle.coy_text.specs.Numeral.{hex_text}
use Rattle.coy_text.proofs.NumeralLaws.{dec_of-decimal, hex_of-hex_text}
use Rattle.coy_text.specs.Words.{cut_at, lacks}
use Rattle.coy_text.proofs.WordLaws.{lacks-decimal, lacks-hex_text, cut_at-append}
use Rattle.cap_format.specs.declared.kind.CapKind.{CapKind}
use Rattle.cap_format.specs.declared.kind.CapKind.TheVariants.{Page, CapPage, Gpt, Window, LocalWindow, Endpoint, Entry, Process, Schedule}
use Rattle.cap_format.specs.Guard.{GuardValue, IsGuard, no_guard}
use Rattle.cap_format.specs.Kind.{is_counted, is_window, object_kind}
use Rattle.cap_format.specs.Capability.{Capability, capability, bare, IsCapability}
use Rattle.cap_format.proofs.Ranges.{matches_small, IsCapability-bare}
use Rattle.listing_read.specs.declared.terms.Terms.{Terms}
use Rattle.listing_read.specs.Terms.{has_names}
use Rattle.cap_words.specs.declared.spelling.Spelled.{Spelled}
use Rattle.cap_words.specs.Spelling.{restr_of, match_of, guarded_of, named, object_at, memory_of, window_of, spelled_of, headed, schedule_of, entry_of, local_of, dec_to, plain_kind_of}
use Rattle.object_store.specs.Sizes.{size_in}
use Rattle.listing_read.specs.CapWord.{cap_of}
use Rattle.cap_words.specs.Text.{letters, restr_text, guard_text, cap_word, cap_text}
use Rattle.statement_text.proofs.Called.{called-decimal}
use Rattle.statement_text.proofs.Printed.{is_glyph, IsPiece, IsPrinted, piece, joined, printed, piece-decimal, piece-hex_text}

-- a text that lacks a mark is not cut at it
cut_at-lacks : (mark : ℕ) (text : List ℕ) → lacks mark text ≡ true → cut_at mark text ≡ None
unfolding cut_at
cut_at-lacks mark [] free = refl
cut_at-lacks mark (byte ∷ bytes) free =
    let parts = and_parts (not (byte == mark)) (lacks mark bytes) free in
    rw (not-true (byte == mark) parts.0, cut_at-lacks mark bytes parts.1) refl

-- an option that holds a number above 0, as its default is 0
some_of : (found : Option ℕ) (n : ℕ) → 0 < n → unwrap_or found 0 ≡ n → found ≡ Some n
some_of None n above same = absurd (omega arith)
some_of (Some x) n above same = ap Some same

-- the letters of restrictions, where there are any
pub restr_of-letters : (restr : ℕ) → 0 < restr → restr < 32 → restr_of (letters restr) ≡ Some restr
unfolding restr_of
restr_of-letters restr above below =
    some_of (restr_of (letters restr)) restr above
    (eqb-true (unwrap_or (restr_of (letters restr)) 0) restr
    (agree_below_at (λ r. unwrap_or (restr_of (letters r)) 0 == r) (λ _. true) 32 restr refl below))

-- what stands behind the `/`
match_of-text : (l2g matches restr : ℕ) → matches < 2 ^ 20 → restr < 32 → match_of l2g (hex_text 5 matches ++ restr_text restr) (cut_at 43 (hex_text 5 matches ++ restr_text restr)) ≡ Some (record { l2g = l2g; matches = matches; restr = restr })
match_of-text l2g matches restr fits below =
    elim (cases_lt 0 restr) [
      | inl some ↦
          rw (
            ne_eqb restr 0 (λ none. omega arith),
            cut_at-append 43 (hex_text 5 matches) (letters restr) (lacks-hex_text 43 5 matches (inl (omega arith))),
            hex_of-hex_text 5 matches (omega arith) (omega arith) (omega arith),
            restr_of-letters restr some below,
          )
          refl
      | inr none ↦
          let zero_is : restr ≡ 0 = omega arith in
          rw (
            zero_is,
            append-nil (hex_text 5 matches),
            cut_at-lacks 43 (hex_text 5 matches) (lacks-hex_text 43 5 matches (inl (omega arith))),
            hex_of-hex_text 5 matches (omega arith) (omega arith) (omega arith),
          )
          refl
    ]

-- a guard and the restrictions behind it
abbrev guard_word : GuardValue → ℕ → List ℕ
guard_word guard restr = decimal guard.l2g ++ (47 ∷ (hex_text 5 guard.matches ++ restr_text restr))

-- it stands behind an `@`
guard_text-parts : (guard : GuardValue) (restr : ℕ) → guard_text guard restr ≡ 64 ∷ guard_word guard restr
unfolding guard_text
guard_text-parts guard restr =
    ap (λ text. 64 ∷ text)
    (append_assoc (decimal guard.l2g ++ codes "/") (hex_text 5 guard.matches) (restr_text restr)
    ∙ append_assoc (decimal guard.l2g) (codes "/") (hex_text 5 guard.matches ++ restr_text restr))

-- a guard is read with its restrictions
guarded_of-text : (guard : GuardValue) (restr : ℕ) → IsGuard guard → restr < 32 → guarded_of (guard_word guard restr) ≡ Some (record { l2g = guard.l2g; matches = guard.matches; restr = restr })
unfolding guarded_of
guarded_of-text guard restr is below =
    rw (
      cut_at-append 47 (decimal guard.l2g) (hex_text 5 guard.matches ++ restr_text restr) (lacks-decimal 47 guard.l2g (omega (arith, is.high)) (inl (omega arith))),
      dec_of-decimal guard.l2g (omega (arith, is.high)),
    )
    (match_of-text guard.l2g guard.matches restr (matches_small guard is) below)

-- the capability of these fields, as it is spelled
abbrev pub spelled : CapKind → ℕ → GuardValue → ℕ → ℕ → ℕ → Spelled
spelled kind restr guard object payload slot =
    record { kind = kind; restr = restr; l2g = guard.l2g; matches = guard.matches; object = object; name = None; payload = payload; slot = slot }

-- the same, where what the kind has not is 0
same : (kind : CapKind) (guard : GuardValue) {r restr o object p payload s slot : ℕ} (g : GuardValue) → r ≡ restr → g ≡ guard → o ≡ object → p ≡ payload → s ≡ slot → Some (spelled kind r g o p s) ≡ Some (spelled kind restr guard object payload slot)
same kind guard g e1 e2 e3 e4 e5 = rw (e1, e2, e3, e4, e5) refl

-- `N`, whether there may be names or not
object_at-decimal : (names : Bool) (kind : CapKind) (object : ℕ) → object < 2 ^ 32 → object_at names kind (decimal object) ≡ Some (named kind object)
unfolding object_at
object_at-decimal names kind object fits = rw (called-decimal names object fits, dec_of-decimal object fits) refl

-- the same as it is spelled
object_at-text : (names : Bool) (kind : CapKind) (restr : ℕ) (guard : GuardValue) (object payload slot : ℕ) → object < 2 ^ 32 → restr < 1 → no_guard ≡ guard → payload < 1 → slot < 1 → object_at names kind (decimal object) ≡ Some (spelled kind restr guard object payload slot)
object_at-text names kind restr guard object payload slot fits r g p s =
    object_at-decimal names kind object fits ∙ same kind guard no_guard (omega arith) g refl (omega arith) (omega arith)

-- `P`
schedule_of-text : (restr : ℕ) (guard : GuardValue) (object payload slot : ℕ) → object < 8 → restr < 1 → no_guard ≡ guard → payload < 1 → slot < 1 → schedule_of (decimal object) ≡ Some (spelled Schedule restr guard object payload slot)
unfolding schedule_of dec_to
schedule_of-text restr guard object payload slot low r g p s =
    rw (dec_of-decimal object (omega arith), le-leb object 7 (omega arith))
    (same Schedule guard no_guard (omega arith) g refl (omega arith) (omega arith))

-- `N:PAYLOAD`
entry_of-text : (names : Bool) (restr : ℕ) (guard : GuardValue) (object payload slot : ℕ) → object < 1024 → restr < 1 → no_guard ≡ guard → payload < 2 ^ 32 → slot < 1 → entry_of names (decimal object ++ codes ":" ++ hex_text 8 payload) ≡ Some (spelled Entry restr guard object payload slot)
unfolding entry_of
entry_of-text names restr guard object payload slot low r g fits s =
    rw (
      append_assoc (decimal object) (codes ":") (hex_text 8 payload),
      cut_at-append 58 (decimal object) (hex_text 8 payload) (lacks-decimal 58 object (omega arith) (inr (omega arith))),
      object_at-decimal names Entry object (omega arith),
      hex_of-hex_text 8 payload (omega arith) (omega arith) (omega arith),
    )
    (same Entry guard no_guard (omega arith) g refl refl (omega arith))

-- `N@L/M`
memory_of-text : (names : Bool) (kind : CapKind) (restr : ℕ) (guard : GuardValue) (object payload slot : ℕ) → object < 2 ^ 32 → IsGuard guard → restr < 32 → payload < 1 → slot < 1 → memory_of names kind (decimal object ++ guard_text guard restr) ≡ Some (spelled kind restr guard object payload slot)
unfolding memory_of
memory_of-text names kind restr guard object payload slot fits is below p s =
    rw (
      guard_text-parts guard restr,
      cut_at-append 64 (decimal object) (guard_word guard restr) (lacks-decimal 64 object (omega arith) (inr (omega arith))),
      object_at-decimal names kind object fits,
      guarded_of-text guard restr is below,
    )
    (same kind guard guard refl refl refl (omega arith) (omega arith))

-- `OFFSET@L/M`
window_of-text : (kind : CapKind) (restr : ℕ) (guard : GuardValue) (object payload slot : ℕ) → object < 2 ^ 32 → IsGuard guard → restr < 32 → payload < 1 → window_of kind slot (hex_text 8 object ++ guard_text guard restr) ≡ Some (spelled kind restr guard object payload slot)
unfolding window_of
window_of-text kind restr guard object payload slot fits is below p =
    rw (
      guard_text-parts guard restr,
      cut_at-append 64 (hex_text 8 object) (guard_word guard restr) (lacks-hex_text 64 8 object (inr (inl (omega arith, omega arith)))),
      hex_of-hex_text 8 object (omega arith) (omega arith) (omega arith),
      guarded_of-text guard restr is below,
    )
    (same kind guard guard refl refl refl (omega arith) refl)

-- `S:OFFSET@L/M`
local_of-text : (restr : ℕ) (guard : GuardValue) (object payload slot : ℕ) → object < 2 ^ 32 → IsGuard guard → restr < 32 → payload < 1 → slot < 16 → local_of (decimal slot ++ codes ":" ++ hex_text 8 object ++ guard_text guard restr) ≡ Some (spelled LocalWindow restr guard object payload slot)
unfolding local_of dec_to
local_of-text restr guard object payload slot fits is below p low =
    rw (
      append_assoc (decimal slot ++ codes ":") (hex_text 8 object) (guard_text guard restr),
      append_assoc (decimal slot) (codes ":") (hex_text 8 object ++ guard_text guard restr),
      cut_at-append 58 (decimal slot) (hex_text 8 object ++ guard_text guard restr) (lacks-decimal 58 slot (omega arith) (inr (omega arith))),
      dec_of-decimal slot (omega arith),
      le-leb slot 15 (omega arith),
    )
    (window_of-text LocalWindow restr guard object payload slot fits is below p)

-- a capability's word spells what it was printed for; the kinds that come last have no field
spelled_of-cap_word : (names : Bool) (kind : CapKind) (restr : ℕ) (guard : GuardValue) (object payload slot : ℕ) → IsCapability (capability kind restr 0 guard object payload slot) → spelled_of names (cap_word kind object payload slot guard restr) ≡ Some (spelled kind restr guard object payload slot)
unfolding spelled_of cut_at headed plain_kind_of cap_word
spelled_of-cap_word names Schedule r g o p s is = schedule_of-text r g o p s is.object is.restr (sym (is.unguarded refl)) is.payload is.slot
spelled_of-cap_word names Endpoint r g o p s is = object_at-text names Endpoint r g o p s (omega (arith, is.object)) is.restr (sym (is.unguarded refl)) is.payload is.slot
spelled_of-cap_word names Process r g o p s is = object_at-text names Process r g o p s (omega (arith, is.object)) is.restr (sym (is.unguarded refl)) is.payload is.slot
spelled_of-cap_word names Entry r g o p s is = entry_of-text names r g o p s is.object is.restr (sym (is.unguarded refl)) is.payload is.slot
spelled_of-cap_word names Page r g o p s is = memory_of-text names Page r g o p s (omega (arith, is.object)) is.guard is.restr is.payload is.slot
spelled_of-cap_word names CapPage r g o p s is = memory_of-text names CapPage r g o p s (omega (arith, is.object)) is.guard is.restr is.payload is.slot
spelled_of-cap_word names Gpt r g o p s is = memory_of-text names Gpt r g o p s (omega (arith, is.object)) is.guard is.restr is.payload is.slot
spelled_of-cap_word names Window r g o p s is = window_of-text Window r g o p 0 is.object is.guard is.restr is.payload ∙ same Window g g refl refl refl refl (omega (arith, is.slot))
spelled_of-cap_word names LocalWindow r g o p s is = local_of-text r g o p s is.object is.guard is.restr is.payload is.slot
spelled_of-cap_word names kind r g o p s is = same kind g no_guard (omega (arith, is.restr)) (sym (is.unguarded refl)) (omega (arith, is.object)) (omega (arith, is.payload)) (omega (arith, is.slot))

-- a fact that a test asks of some kinds alone
if_so : (b : Bool) (t : Bool) → (b ≡ true → t ≡ true) → (not b || t) ≡ true
if_so true t then = then refl
if_so false t then = refl

-- a capability's word gives that capability, without its count
pub cap_of-cap_text : (terms : Terms) (c : Capability) → IsCapability c → (is_counted c.kind ≡ true → c.object < size_in terms.sizes (object_kind c.kind)) → cap_of terms (cap_text c) ≡ Ok (bare c)
unfolding cap_of
cap_of-cap_text terms c is there =
    rw (
      spelled_of-cap_word (has_names terms.version) c.kind c.restr c.guard c.object c.payload c.slot (IsCapability-bare c is),
      if_so (is_counted c.kind) (nat_lt c.object (size_in terms.sizes (object_kind c.kind))) (λ counted. lt-ltb c.object (size_in terms.sizes (object_kind c.kind)) (there counted)),
      le-leb 12 c.guard.l2g is.guard.low,
      le-leb c.guard.l2g 32 is.guard.high,
      lt-ltb c.guard.matches (2 ^ (32 - c.guard.l2g)) is.guard.fits,
      if_so (is_window c.kind) (c.object % 2 ^ c.guard.l2g == 0) (λ window. eq-eqb (c.object % 2 ^ c.guard.l2g) 0 (is.aligned window)),
    )
    refl

-- restrictions are at most a plus and five letters
piece-restr_text : (restr : ℕ) → restr < 32 → IsPiece 6 (restr_text restr)
piece-restr_text restr below =
    let parts = and_parts (nat_le (length (restr_text restr)) 6) (list_all is_glyph (restr_text restr))
    (agree_below_at (λ r. nat_le (length (restr_text r)) 6 && list_all is_glyph (restr_text r)) (λ _. true) 32 restr refl below) in
    record { short = leb-true (length (restr_text restr)) 6 parts.0; glyphs = parts.1 }

-- their letters are at most five
pub piece-letters : (restr : ℕ) → restr < 32 → IsPiece 5 (letters restr)
piece-letters restr below =
    let parts = and_parts (nat_le (length (letters restr)) 5) (list_all is_glyph (letters restr))
    (agree_below_at (λ r. nat_le (length (letters r)) 5 && list_all is_glyph (letters r)) (λ _. true) 32 restr refl below) in
    record { short = leb-true (length (letters restr)) 5 parts.0; glyphs = parts.1 }

-- and where there are restrictions, at least one
pub some-letters : (restr : ℕ) → 0 < restr → restr < 32 → 1 ≤ length (letters restr)
some-letters restr above below =
    leb-true 1 (length (letters restr))
    (or_second (restr == 0) (nat_le 1 (length (letters restr))) (ne_eqb restr 0 (λ none. omega arith)) (agree_below_at (λ r. (r == 0) || nat_le 1 (length (letters r))) (λ _. true) 32 restr refl below))
  where
    or_second : (a b : Bool) → a ≡ false → (a || b) ≡ true → b ≡ true
    or_second true b off either = absurd (cc)
    or_second false b off either = either

-- a guard is at most 23 bytes with them
piece-guard_text : (guard : GuardValue) (restr : ℕ) → IsGuard guard → restr < 32 → IsPiece 23 (guard_text guard restr)
unfolding guard_text
piece-guard_text guard restr is below =
    joined (joined (joined (joined (piece (codes "@") refl) (piece-decimal guard.l2g (omega (arith, is.high)))) (piece (codes "/") refl)) (piece-hex_text 5 guard.matches)) (piece-restr_text restr below)

-- a capability's word is a printed word; the kinds that come last have no field
printed-cap_word : (kind : CapKind) (restr count : ℕ) (guard : GuardValue) (object payload slot : ℕ) → IsCapability (capability kind restr count guard object payload slot) → IsPrinted 64 (cap_word kind object payload slot guard restr)
unfolding cap_word
printed-cap_word Schedule r c g o p s is = printed (joined (piece (codes "schedule:") refl) (piece-decimal o (omega (arith, is.object)))) (omega arith) (omega arith)
printed-cap_word Endpoint r c g o p s is = printed (joined (piece (codes "endpoint:") refl) (piece-decimal o (omega (arith, is.object)))) (omega arith) (omega arith)
printed-cap_word Process r c g o p s is = printed (joined (piece (codes "process:") refl) (piece-decimal o (omega (arith, is.object)))) (omega arith) (omega arith)
printed-cap_word Entry r c g o p s is =
    printed (joined (joined (joined (piece (codes "entry:") refl) (piece-decimal o (omega (arith, is.object)))) (piece (codes ":") refl)) (piece-hex_text 8 p)) (omega arith) (omega arith)
printed-cap_word Page r c g o p s is = printed (joined (joined (piece (codes "page:") refl) (piece-decimal o (omega (arith, is.object)))) (piece-guard_text g r is.guard is.restr)) (omega arith) (omega arith)
printed-cap_word CapPage r c g o p s is = printed (joined (joined (piece (codes "cappage:") refl) (piece-decimal o (omega (arith, is.object)))) (piece-guard_text g r is.guard is.restr)) (omega arith) (omega arith)
printed-cap_word Gpt r c g o p s is = printed (joined (joined (piece (codes "gpt:") refl) (piece-decimal o (omega (arith, is.object)))) (piece-guard_text g r is.guard is.restr)) (omega arith) (omega arith)
printed-cap_word Window r c g o p s is = printed (joined (joined (piece (codes "window:") refl) (piece-hex_text 8 o)) (piece-guard_text g r is.guard is.restr)) (omega arith) (omega arith)
printed-cap_word LocalWindow r c g o p s is =
    printed (joined (joined (joined (joined (piece (codes "local:") refl) (piece-decimal s (omega (arith, is.slot)))) (piece (codes ":") refl)) (piece-hex_text 8 o)) (piece-guard_text g r is.guard is.restr)) (omega arith) (omega arith)
printed-cap_word kind r c g o p s is = printed (piece (cap_word kind o p s g r) refl) (omega arith) (omega arith)

-- so is that of a capability
pub printed-cap_text : (c : Capability) → IsCapability c → IsPrinted 64 (cap_text c)
printed-cap_text c is = printed-cap_word c.kind c.restr c.count c.guard c.object c.payload c.slot is
