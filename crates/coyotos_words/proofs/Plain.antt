-- What `clap` makes of a word that begins with no `-` and names no form: it goes to the next place.
use Rattle.std.proofs.Common.{ℕ, ◌≡◌, ◌∙◌, List, [], ◌∷◌, Bool, false, None, refl, ap, ap₂, if◌then◌else◌}
use Rattle.std.specs.Option.{option_map_or}
use Rattle.std.specs.Prelude.{option_and_then}
use Rattle.std.specs.Str.{bytes_eq}
use Rattle.clap.specs.Lexer.{strip_byte, long_of_rest, long_of, short_of_rest, short_of}
use Rattle.clap.specs.Walk.{Held, Names, Rule, Step, Text, Walk, idle, value, trailing, after_step, arg_by_index, long_or_other, short_or_plain, subcommand_met, subcommand_or_other, to_positional, walked, word_met, walk, walk_from, nothing_held, settled, finished}
use Rattle.clap.specs.Simple.{Shape}
use Rattle.clap.specs.Kinds.{Kinds, or_else}
use Rattle.clap.specs.Faults.{bundle_fault, check_fault, defaults_fault, flag_word_fault, level_fault, settle_fault, other_fault, step_fault, walk_fault, word_fault}
use Rattle.coyotos_words.specs.Command.{is_dashed}

-- a walk that waits for nothing
abbrev pub stands : Held → ℕ → Walk
stands held position = record { held = held; waiting = idle; position = position; is_trailing = false; stopped = None }

strip_plain : (word : Text) → is_dashed word ≡ false → strip_byte 45 word ≡ None
strip_plain [] plain = refl
strip_plain (byte ∷ word) plain = rw plain refl

long_plain : (word : Text) → is_dashed word ≡ false → long_of word ≡ None
long_plain word plain = ap (λ o. option_and_then long_of_rest (option_and_then (strip_byte 45) o)) (strip_plain word plain)

short_plain : (word : Text) → is_dashed word ≡ false → short_of word ≡ None
short_plain word plain = ap (λ o. option_and_then short_of_rest o) (strip_plain word plain)

-- it is no `--`
marks_plain : (word : Text) → is_dashed word ≡ false → bytes_eq word (45 ∷ 45 ∷ []) ≡ false
marks_plain [] plain = refl
marks_plain (byte ∷ word) plain = rw plain refl

-- the word is a value
pub met_plain : (rules : List Rule) (names : Names) (held : Held) (position : ℕ) (word : Text) → is_dashed word ≡ false → subcommand_met names idle word ≡ None
    → word_met rules names false idle position word held ≡ (held, value)
met_plain rules names held position word plain none =
    ap (λ o. subcommand_or_other rules o idle position word held) none
    ∙ ap (λ b. if b then (held, trailing position) else long_or_other rules idle word (long_of word) held) (marks_plain word plain)
    ∙ ap (λ o. long_or_other rules idle word o held) (long_plain word plain)
    ∙ ap (λ o. short_or_plain rules idle word o held) (short_plain word plain)

-- it goes to the place that is next
pub walked_plain : (rules : List Rule) (names : Names) (held : Held) (position : ℕ) (word : Text) → is_dashed word ≡ false → subcommand_met names idle word ≡ None
    → walked rules names (stands held position) word ≡ to_positional rules (arg_by_index rules position) word (stands held position) held
unfolding walked
walked_plain rules names held position word plain none =
    ap (λ (m : Held × Step). after_step rules word (stands held position) m.0 m.1) (met_plain rules names held position word plain none)

-- the word itself is no fault
passes_plain : (s : Shape) (names : Names) (held : Held) (word : Text) → is_dashed word ≡ false → subcommand_met names idle word ≡ None
    → word_fault s names false idle word held ≡ []
passes_plain s names held word plain none =
    ap (λ o. other_fault s o word held) none
    ∙ ap (λ b. if b then [] else flag_word_fault s.rules s.args_override_self (long_of word) word held) (marks_plain word plain)
    ∙ ap (λ o. flag_word_fault s.rules s.args_override_self o word held) (long_plain word plain)
    ∙ ap (λ o. option_map_or (λ flags. bundle_fault s.rules s.args_override_self flags held) o []) (short_plain word plain)

-- what fails is its place, or a word behind it
pub fault_plain : (s : Shape) (names : Names) (held : Held) (position : ℕ) (word : Text) (rest : List Text) → is_dashed word ≡ false → subcommand_met names idle word ≡ None
    → walk_fault s names (stands held position) (word ∷ rest)
    ≡ or_else (step_fault s position held value)
    (walk_fault s names (to_positional s.rules (arg_by_index s.rules position) word (stands held position) held) rest)
unfolding walk_fault
fault_plain s names held position word rest plain none =
    ap₂ or_else
    (ap₂ (λ (f : Kinds) (m : Held × Step). or_else f (step_fault s position m.0 m.1)) (passes_plain s names held word plain none) (met_plain s.rules names held position word plain none))
    (ap (λ w. walk_fault s names w rest) (walked_plain s.rules names held position word plain none))

-- what fails at a level: a word, the form that is entered, or what is held at the end
pub level_is : (s : Shape) (names : Names) (words : List Text) (has : Bool) (below : Kinds) (end : Walk) (fault : Kinds)
    → walk s.rules names nothing_held words ≡ end → walk_fault s names (walk_from nothing_held) words ≡ fault
    → level_fault s names nothing_held words has below
    ≡ or_else fault (or_else below (or_else (settle_fault s.rules s.args_override_self end.held)
    (or_else (defaults_fault (settled s.rules end.held).rows s.rules) (check_fault s (finished s.rules end.held) has))))
level_is s names words has below end fault walks faults =
    ap₂ (λ (w : Walk) (f : Kinds). or_else f (or_else below (or_else (settle_fault s.rules s.args_override_self w.held)
    (or_else (defaults_fault (settled s.rules w.held).rows s.rules) (check_fault s (finished s.rules w.held) has)))))
    walks faults
