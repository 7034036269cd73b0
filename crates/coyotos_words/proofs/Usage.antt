-- Each command is asked for by its words, and named by the usage line.
use Rattle.std.proofs.Common.{ℕ, ◌≡◌, ◌^◌, ◌<◌, ◌==◌, not, List, [], ◌∷◌, true, false, Some, refl, inl, arith}
use Rattle.std.specs.Prelude.{decimal}
use Rattle.std.proofs.lemmas.Bool.{and_parts, not-true, le-leb}
use Rattle.walk_meaning.specs.declared.kind.Kind.{Kind}
use Rattle.walk_meaning.specs.declared.kind.Kind.TheVariants.{Fetch, Load, Store, CapLoad, CapStore}
use Rattle.coy_text.specs.Numeral.{hex_text}
use Rattle.coy_text.specs.Words.{lacks, words_on}
use Rattle.coy_text.proofs.NumeralLaws.{dec_of-decimal, hex_of-hex_text}
use Rattle.coy_text.proofs.WordLaws.{lacks-decimal, lacks-hex_text}
use Rattle.coyotos_words.specs.Command.{command_of, is_dashed, kind_named, process_named}
use Rattle.coyotos_words.specs.Usage.{EachIsAskedFor, EachIsNamed, access_word, words_for}
use Rattle.coyotos_words.specs.declared.command.RunCommand.TheVariants.{Run, Trace, Tables, Walk}
use Rattle.coyotos_words.specs.declared.command.Command.TheVariants.{Help, Check, Schedule, Make, Pack, Unpack, Migrate, Confine, Share, Back}

-- a word without a dash doesn't begin with one
lacks-plain : (word : List ℕ) → lacks 45 word ≡ true → is_dashed word ≡ false
lacks-plain [] free = refl
lacks-plain (byte ∷ bytes) free = not-true (byte == 45) (and_parts (not (byte == 45)) (lacks 45 bytes) free).0

decimal-plain : (n : ℕ) → n < 2 ^ 32 → is_dashed (decimal n) ≡ false
decimal-plain n fits = lacks-plain (decimal n) (lacks-decimal 45 n (omega arith) (inl (omega arith)))

hex_text-plain : (n : ℕ) → is_dashed (hex_text 8 n) ≡ false
hex_text-plain n = lacks-plain (hex_text 8 n) (lacks-hex_text 45 8 n (inl (omega arith)))

-- a process is read from its number's text
process_named-decimal : (n : ℕ) → n < 2 ^ 8 → process_named (decimal n) ≡ Some n
process_named-decimal n few = rw (dec_of-decimal n (omega arith), le-leb n 255 (omega arith)) refl

-- and a kind of accesses from its word
kind_named-word : (kind : Kind) → (kind_named (access_word kind) ≡ Some kind) × (is_dashed (access_word kind) ≡ false)
kind_named-word Fetch = (refl, refl)
kind_named-word Load = (refl, refl)
kind_named-word Store = (refl, refl)
kind_named-word CapLoad = (refl, refl)
kind_named-word CapStore = (refl, refl)

walk-asked : (process : ℕ) (kind : Kind) (address : ℕ) → process < 2 ^ 8 → address < 2 ^ 32
    → command_of (words_for (Schedule (Walk process kind address))) ≡ Some (Schedule (Walk process kind address))
walk-asked process kind address few fits =
    let word = kind_named-word kind in
    rw (
      decimal-plain process (omega arith),
      word.1,
      hex_text-plain address,
      process_named-decimal process few,
      word.0,
      hex_of-hex_text 8 address (omega arith) (omega arith) (omega arith),
    )
    refl

pub each-asked : EachIsAskedFor
each-asked Help within = refl
each-asked Check within = refl
each-asked (Schedule Run) within = refl
each-asked (Schedule Trace) within = refl
each-asked (Schedule Tables) within = refl
each-asked (Schedule (Walk process kind address)) within = walk-asked process kind address within.0 within.1
each-asked (Make number false) fits = rw (decimal-plain number fits, dec_of-decimal number fits) refl
each-asked (Make number true) fits = rw (decimal-plain number fits, dec_of-decimal number fits) refl
each-asked Pack within = refl
each-asked Unpack within = refl
each-asked Migrate within = refl
each-asked Confine within = refl
each-asked Share within = refl
each-asked (Back number) fits = rw (decimal-plain number fits, dec_of-decimal number fits) refl

pub each-named : EachIsNamed
unfolding words_on
each-named Help other = absurd (other refl)
each-named Check other = refl
each-named (Schedule Run) other = refl
each-named (Schedule Trace) other = refl
each-named (Schedule Tables) other = refl
each-named (Schedule (Walk process kind address)) other = refl
each-named (Make number false) other = refl
each-named (Make number true) other = refl
each-named Pack other = refl
each-named Unpack other = refl
each-named Migrate other = refl
each-named Confine other = refl
each-named Share other = refl
each-named (Back number) other = refl
