-- The line of each statement is read as that statement.
use Rattle.std.proofs.Common.{ℕ, ◌≡◌, ◌+◌, ◌-◌, ◌<◌, ◌≤◌, ◌&&◌, Bool, true, false, if◌then◌else◌, List, [], ◌∷◌, length, decimal, refl, arith, sym, ap, ◌∙◌, slice_index, inl, inr}
use Rattle.std.specs.Prelude.{nat_le, Ok, codes, bytes_eq}
use Rattle.std.specs.List.{All}
use Rattle.std.proofs.lemmas.Bool.{ne_eqb, le-leb, cases_lt}
use Rattle.coy_text.specs.Bytes.{bytes_text}
use Rattle.coy_text.specs.Numeral.{hex_text}
use Rattle.coy_text.proofs.NumeralLaws.{hex_of-hex_text}
use Rattle.cap_format.specs.declared.kind.CapKind.{CapKind}
use Rattle.cap_format.specs.declared.kind.CapKind.TheVariants as kinds
use Rattle.cap_format.specs.Capability.{Capability, IsCapability, bare, with_count}
use Rattle.object_store.proofs.Lists.{All-at}
use Rattle.rv32_decode.specs.declared.insn.Insn.{Insn}
use Rattle.rv32_asm.specs.Text.{words_from}
use Rattle.object_store.specs.Ranges.{IsWithinLimits}
use Rattle.object_store.specs.Sizes.{size_in}
use Rattle.cap_words.specs.Kind.{kind_word}
use Rattle.cap_words.specs.Text.{letters, cap_text}
use Rattle.listing_read.specs.CapWord.{cap_of, IsStated}
use Rattle.listing_read.specs.Fields.{either_of, hex_to, aligned_to}
use Rattle.listing_read.specs.declared.terms.Terms.{Terms}
use Rattle.listing_read.specs.declared.statement.Statement.TheVariants as says
use Rattle.listing_read.specs.StatementLines.{statement_of, later_statement_of, count_line, page_line, code_line, flags_of, gpt_line, cap_line, slot_line, endpoint_line, process_line, reg_line, capreg_line, letters_of, region_line}
use Rattle.object_lines.specs.Words.{flag_words, match_word}
use Rattle.statement_text.specs.Words.{letter_words, run_word}
use Rattle.statement_text.specs.Laws.{StatementsAreRead}
use Rattle.statement_text.proofs.Printed.{IsPrinted, ArePrinted, printed}
use Rattle.statement_text.proofs.Capabilities.{cap_of-cap_text, printed-cap_text, restr_of-letters, piece-letters, some-letters}
use Rattle.statement_text.proofs.Fields.{object_of-decimal, printed-number, first_page_of-decimal, between_of-decimal, hex_number_of-hex_text, kind_named, piece-bytes_text, length-bytes_text, hex_bytes_of-bytes_text}
use Rattle.statement_text.proofs.Lines.{keyword, printed-decimal, printed-hex_text, line_reads}
use Rattle.statement_text.proofs.Instructions.{insn_few, insn_of-words_from, some_words}

-- one of two keywords
printed_either : (b : Bool) {first second : List ℕ} → IsPrinted 64 first → IsPrinted 64 second → IsPrinted 64 (if b then first else second)
printed_either true first second = first
printed_either false first second = second

-- the field that they are read in tells them apart
either_of-either : (b : Bool) (first second : List ℕ) → bytes_eq first first ≡ true → bytes_eq second first ≡ false → bytes_eq second second ≡ true → either_of first second (if b then first else second) ≡ Ok b
unfolding either_of
either_of-either true first second one other two = rw one refl
either_of-either false first second one other two = rw (other, two) refl

-- a capability that is stated is without a count
bare_is : (c : Capability) → c.count ≡ 0 → bare c ≡ c
bare_is c zero_is = ap (with_count c) (sym zero_is)

cap_is : (terms : Terms) (c : Capability) → IsCapability c → IsStated terms.sizes c → cap_of terms (cap_text c) ≡ Ok c
cap_is terms c is stated = cap_of-cap_text terms c is stated.there ∙ ap Ok (bare_is c stated.uncounted)

-- the number of an object, its slot or register, and a capability
numbered : (terms : Terms) (kind : CapKind) (n i : ℕ) (c : Capability) → IsWithinLimits terms.sizes → n < size_in terms.sizes kind → i < 256 → IsCapability c → ArePrinted 64 (decimal n ∷ decimal i ∷ cap_text c ∷ [])
numbered terms kind n i c limits below slot in_range =
    (printed-number terms.sizes kind n limits below, (printed-decimal i (omega arith), (printed-cap_text c in_range, tt)))

-- the words of two flags are few and printed, and are read as those flags
record AreFlags (ha bg : Bool) (words : List (List ℕ)) : Type 0 where
  pub printed_are : ArePrinted 64 words
  pub few : length words ≤ 2
  pub read : (first second third : List ℕ) → flags_of (first ∷ second ∷ third ∷ words) ≡ Ok (ha, bg)
  pub fit : (first second third : List ℕ) → (nat_le 3 (length (first ∷ second ∷ third ∷ words)) && nat_le (length (first ∷ second ∷ third ∷ words)) 5) ≡ true

flags_are : (ha bg : Bool) → AreFlags ha bg (flag_words ha bg)
unfolding flags_of
flags_are true true = record { printed_are = (keyword (codes "ha") refl, (keyword (codes "bg") refl, tt)); few = omega arith; read = λ first second third. refl; fit = λ first second third. refl }
flags_are true false = record { printed_are = (keyword (codes "ha") refl, tt); few = omega arith; read = λ first second third. refl; fit = λ first second third. refl }
flags_are false true = record { printed_are = (keyword (codes "bg") refl, tt); few = omega arith; read = λ first second third. refl; fit = λ first second third. refl }
flags_are false false = record { printed_are = tt; few = omega arith; read = λ first second third. refl; fit = λ first second third. refl }

-- the letters of a region are at most one word, which is read as them
record AreLetters (restr : ℕ) (words : List (List ℕ)) : Type 0 where
  pub printed_are : ArePrinted 64 words
  pub few : length words ≤ 1
  pub read : (a b c d e : List ℕ) → letters_of (a ∷ b ∷ c ∷ d ∷ e ∷ words) ≡ Ok restr
  pub fit : (a b c d e : List ℕ) → (nat_le 5 (length (a ∷ b ∷ c ∷ d ∷ e ∷ words)) && nat_le (length (a ∷ b ∷ c ∷ d ∷ e ∷ words)) 6) ≡ true

some_letters : (restr : ℕ) → 0 < restr → restr < 32 → AreLetters restr (letters restr ∷ [])
unfolding letters_of
some_letters restr above below = record {
  printed_are = (printed (piece-letters restr below) (omega arith) (some-letters restr above below), tt);
  few = omega arith;
  read = λ a b c d e. rw (restr_of-letters restr above below) refl;
  fit = λ a b c d e. refl;
}

letters_are : (restr : ℕ) → restr < 32 → AreLetters restr (letter_words restr)
unfolding letters_of
letters_are restr below = elim (cases_lt 0 restr) [
  | inl some ↦ rw (ne_eqb restr 0 (λ none. omega arith)) (some_letters restr some below)
  | inr none ↦
      let zero_is : restr ≡ 0 = omega arith in
      rw zero_is (record { printed_are = tt; few = omega arith; read = λ a b c d e. refl; fit = λ a b c d e. refl })
]

-- bytes in their range
bytes_below : (bytes : List ℕ) → All (λ byte. byte < 256) bytes → (i : ℕ) → slice_index bytes i < 256
bytes_below bytes all i = All-at (λ byte. byte < 256) bytes 0 (omega arith) all i

-- a word that is shorter than it might be
wider : {word : List ℕ} → IsPrinted 64 word → IsPrinted 128 word
wider is = record { some = is.some; short = omega (arith, is.short); glyphs = is.glyphs }

-- the words of a `code` line are enough
code_fits : (insn : Insn) (a b c : List ℕ) → nat_le 4 (length (a ∷ b ∷ c ∷ words_from insn)) ≡ true
code_fits insn a b c = le-leb 4 (length (a ∷ b ∷ c ∷ words_from insn)) (omega (arith, some_words insn))

-- each statement
pub statement_reads : StatementsAreRead
unfolding statement_of later_statement_of count_line page_line code_line cap_line gpt_line slot_line endpoint_line process_line reg_line capreg_line region_line hex_to aligned_to
statement_reads terms (says.Page n at bytes) limits is typed sayable =
    line_reads 128 (codes "page") (decimal n ∷ hex_text 3 at ∷ bytes_text bytes ∷ []) refl (omega arith) (omega arith)
    (wider (printed-number terms.sizes kinds.Page n limits is.0), (wider (printed-hex_text 3 at (omega arith) (omega arith)), (printed (piece-bytes_text bytes) (omega (arith, typed.1)) (omega (arith, length-bytes_text bytes, is.2)), tt)))
    (rw (
      object_of-decimal terms kinds.Page n limits is.0,
      hex_of-hex_text 3 at (omega arith) (omega arith) (omega (arith, is.1, is.2)),
      le-leb at 4095 (omega (arith, is.1, is.2)),
      hex_bytes_of-bytes_text bytes is.2 typed.1 (bytes_below bytes typed.0),
      le-leb (at + length bytes) 4096 is.1,
    )
    refl)
statement_reads terms (says.Code n at insn) limits is typed sayable =
    let words = insn_few insn is.2 in
    line_reads 64 (codes "code") (decimal n ∷ hex_text 3 at ∷ words_from insn) refl (omega arith) (omega (arith, words.few))
    (printed-number terms.sizes kinds.Page n limits is.0, (printed-hex_text 3 at (omega arith) (omega arith), words.printed_are))
    (rw (
      code_fits insn (codes "code") (decimal n) (hex_text 3 at),
      object_of-decimal terms kinds.Page n limits is.0,
      hex_of-hex_text 3 at (omega arith) (omega arith) (omega (arith, is.1)),
      le-leb at 4092 (omega (arith, is.1)),
      is.3,
      insn_of-words_from insn is.2,
    )
    refl)
statement_reads terms (says.CapSlot n i c) limits is typed sayable =
    line_reads 64 (codes "cap") (decimal n ∷ decimal i ∷ cap_text c ∷ []) refl (omega arith) (omega arith)
    (numbered terms kinds.CapPage n i c limits is.0 typed.1 typed.0)
    (rw (
      object_of-decimal terms kinds.CapPage n limits is.0,
      between_of-decimal 0 255 i (omega arith) (omega arith) (omega (arith, typed.1)),
      cap_is terms c typed.0 is.1,
    )
    refl)
statement_reads terms (says.Gpt n header) limits is typed sayable =
    let flags = flags_are header.ha header.bg in
    line_reads 64 (codes "gpt") (decimal n ∷ decimal header.l2v ∷ flag_words header.ha header.bg) refl (omega arith) (omega (arith, flags.few))
    (printed-number terms.sizes kinds.Gpt n limits is, (printed-decimal header.l2v (omega (arith, typed.high)), flags.printed_are))
    (rw (
      flags.fit (codes "gpt") (decimal n) (decimal header.l2v),
      object_of-decimal terms kinds.Gpt n limits is,
      between_of-decimal 12 31 header.l2v (omega arith) typed.low typed.high,
      flags.read (codes "gpt") (decimal n) (decimal header.l2v),
    )
    refl)
statement_reads terms (says.GptSlot n i c) limits is typed sayable =
    line_reads 64 (codes "slot") (decimal n ∷ decimal i ∷ cap_text c ∷ []) refl (omega arith) (omega arith)
    (numbered terms kinds.Gpt n i c limits is.0 (omega (arith, is.1)) typed)
    (rw (
      object_of-decimal terms kinds.Gpt n limits is.0,
      between_of-decimal 0 15 i (omega arith) (omega arith) (omega (arith, is.1)),
      cap_is terms c typed is.2,
    )
    refl)
statement_reads terms (says.Endpoint n recipient id payload matching) limits is typed sayable =
    line_reads 64 (codes "endpoint") (decimal n ∷ cap_text recipient ∷ hex_text 8 id ∷ hex_text 8 payload ∷ match_word matching ∷ []) refl (omega arith) (omega arith)
    (printed-number terms.sizes kinds.Endpoint n limits is.0, (printed-cap_text recipient typed.0, (printed-hex_text 8 id (omega arith) (omega arith), (printed-hex_text 8 payload (omega arith) (omega arith), (printed_either matching (keyword (codes "match") refl) (keyword (codes "plain") refl), tt)))))
    (rw (
      object_of-decimal terms kinds.Endpoint n limits is.0,
      cap_is terms recipient typed.0 is.2,
      is.1,
      hex_number_of-hex_text id typed.1,
      hex_number_of-hex_text payload typed.2,
      either_of-either matching (codes "match") (codes "plain") refl refl refl,
    )
    refl)
statement_reads terms (says.Process n pc space schedule handler runs) limits is typed sayable =
    line_reads 64 (codes "process") (decimal n ∷ hex_text 8 pc ∷ cap_text space ∷ cap_text schedule ∷ cap_text handler ∷ run_word runs ∷ []) refl (omega arith) (omega arith)
    (printed-number terms.sizes kinds.Process n limits is.0, (printed-hex_text 8 pc (omega arith) (omega arith), (printed-cap_text space typed.1, (printed-cap_text schedule typed.2, (printed-cap_text handler typed.3, (printed_either runs (keyword (codes "run") refl) (keyword (codes "stop") refl), tt))))))
    (rw (
      object_of-decimal terms kinds.Process n limits is.0,
      hex_of-hex_text 8 pc (omega arith) (omega arith) (omega (arith, typed.0)),
      le-leb pc 4294967295 (omega (arith, typed.0)),
      is.1,
      cap_is terms space typed.1 is.2,
      cap_is terms schedule typed.2 is.3,
      cap_is terms handler typed.3 is.4,
      either_of-either runs (codes "run") (codes "stop") refl refl refl,
    )
    refl)
statement_reads terms (says.Reg n i value) limits is typed sayable =
    line_reads 64 (codes "reg") (decimal n ∷ decimal i ∷ hex_text 8 value ∷ []) refl (omega arith) (omega arith)
    (printed-number terms.sizes kinds.Process n limits is.0, (printed-decimal i (omega (arith, is.1)), (printed-hex_text 8 value (omega arith) (omega arith), tt)))
    (rw (
      object_of-decimal terms kinds.Process n limits is.0,
      between_of-decimal 1 31 i (omega arith) is.2 (omega (arith, is.1)),
      hex_number_of-hex_text value typed,
    )
    refl)
statement_reads terms (says.CapReg n i c) limits is typed sayable =
    line_reads 64 (codes "capreg") (decimal n ∷ decimal i ∷ cap_text c ∷ []) refl (omega arith) (omega arith)
    (numbered terms kinds.Process n i c limits is.0 (omega (arith, is.1)) typed)
    (rw (
      object_of-decimal terms kinds.Process n limits is.0,
      between_of-decimal 1 31 i (omega arith) is.2 (omega (arith, is.1)),
      cap_is terms c typed is.3,
    )
    refl)
statement_reads terms (says.Count kind n count) limits is typed sayable =
    line_reads 64 (codes "count") (kind_word kind ∷ decimal n ∷ decimal count ∷ []) refl (omega arith) (omega arith)
    ((kind_named kind is.2).0, (printed-number terms.sizes kind n limits is.0, (printed-decimal count (omega (arith, is.1)), tt)))
    (rw (
      (kind_named kind is.2).1,
      object_of-decimal terms kind n limits is.0,
      between_of-decimal 0 1048575 count (omega arith) (omega arith) is.1,
    )
    refl)
statement_reads terms (says.Region gpt slot count page restr) limits is typed sayable =
    let words = letters_are restr.0 is.4 in
    line_reads 64 (codes "region") (decimal gpt ∷ decimal slot ∷ decimal count ∷ decimal page ∷ letter_words restr.0) refl (omega arith) (omega (arith, words.few))
    (printed-number terms.sizes kinds.Gpt gpt limits is.0, (printed-decimal slot (omega (arith, is.1)), (printed-decimal count (omega (arith, is.1)), (printed-decimal page (omega (arith, is.2, is.3, limits.pages)), words.printed_are))))
    (rw (
      sayable,
      words.fit (codes "region") (decimal gpt) (decimal slot) (decimal count) (decimal page),
      object_of-decimal terms kinds.Gpt gpt limits is.0,
      between_of-decimal 0 15 slot (omega arith) (omega arith) (omega (arith, is.1, is.2)),
      between_of-decimal 1 (16 - slot) count (omega arith) is.2 (omega (arith, is.1)),
      first_page_of-decimal terms count page limits is.3,
      words.read (codes "region") (decimal gpt) (decimal slot) (decimal count) (decimal page),
    )
    refl)
