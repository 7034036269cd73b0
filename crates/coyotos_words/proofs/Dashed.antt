-- Words of which one begins with `-`, as the code looks for them.
use Rattle.std.proofs.Common.{ℕ, ◌≡◌, ◌∙◌, List, map, Bool, true, false, Some, None, refl, sym}
use Rattle.std.specs.List.{list_any}
use Rattle.clap.proofs.WalkLemmas.{list_any-map}
use Rattle.coyotos_words.specs.Command.{is_dashed, is_help, form_of, command_of}
use Rattle.coyotos_words.specs.declared.command.Command.TheVariants.{Help}

-- the words themselves, and the bytes of each
pub dashed_bytes : {X : Type 0} (bytes : X → List ℕ) (words : List X) (b : Bool) → list_any (λ word. is_dashed (bytes word)) words ≡ b
    → list_any is_dashed (map bytes words) ≡ b
dashed_bytes bytes words b e = sym (list_any-map is_dashed bytes words) ∙ e

pub bytes_dashed : {X : Type 0} (bytes : X → List ℕ) (words : List X) (b : Bool) → list_any is_dashed (map bytes words) ≡ b
    → list_any (λ word. is_dashed (bytes word)) words ≡ b
bytes_dashed bytes words b e = list_any-map is_dashed bytes words ∙ e

-- `--help` by itself is answered first
pub help_first : (words : List (List ℕ)) → is_help words ≡ true → Some Help ≡ command_of words
help_first words help = rw help refl

-- then words of which one begins with `-`
pub refused_first : {X : Type 0} (bytes : X → List ℕ) (words : List X) → is_help (map bytes words) ≡ false
    → list_any (λ word. is_dashed (bytes word)) words ≡ true → None ≡ command_of (map bytes words)
refused_first bytes words help dashed = rw (help, dashed_bytes bytes words true dashed) refl

-- and all others go by their form
pub left_to_forms : {X : Type 0} (bytes : X → List ℕ) (words : List X) → is_help (map bytes words) ≡ false
    → list_any (λ word. is_dashed (bytes word)) words ≡ false → command_of (map bytes words) ≡ form_of (map bytes words)
left_to_forms bytes words help plain = rw (help, dashed_bytes bytes words false plain) refl
