-- Words of which none begins with `-`: `clap` takes exactly those of a form, and what is read from its places is what the
-- form asks for.
use Rattle.std.proofs.Common.{suc, ◌≡◌, ◌⊎◌, inl, inr, ◌∙◌, List, [], ◌∷◌, map, length, Bool, true, false, Some, None, refl, sym, ap, subst, arith}
use Rattle.std.specs.Prelude.{codes}
use Rattle.std.specs.List.{list_any}
use Rattle.std.specs.Str.{bytes_eq}
use Rattle.std.proofs.lemmas.Bool.{or_parts}
use Rattle.std.proofs.lemmas.Slice.Eq.{bytes_eq-Decides}
use Rattle.clap.specs.Walk.{Text}
use Rattle.clap.specs.Simple.{Shape, new_shape, subcommand_of}
use Rattle.clap.specs.Kinds.{IsAmong, Kinds}
use Rattle.clap.specs.Faults.{defaults_fault, fault_of, walk_fault}
use Rattle.clap.specs.declared.error.kind.ErrorKind.{ErrorKind}
use Rattle.clap.specs.declared.error.kind.ErrorKind.TheVariants.{InvalidSubcommand, MissingRequiredArgument, MissingSubcommand, UnknownArgument}
use Rattle.coyotos_words.specs.Command.{is_dashed, bare_commands, bare_named, bare_of, form_of}
use Rattle.coyotos_words.specs.Forms.{forms, walk_form, make_form, back_form}
use Rattle.coyotos_words.specs.Matches.{asked}
use Rattle.coyotos_words.specs.declared.command.Command.{Command}
use Rattle.coyotos_words.proofs.Chosen.{form_named, chosen_fault, chosen_rows, unknown_fault}
use Rattle.coyotos_words.proofs.Leaves.{ready, fails, bare_fault, bare_more, no_process, no_kind, no_address, access_fault, access_rows, access_more, no_number, number_fault, number_rows, summary_fault, summary_rows, summary_more, no_count, count_fault, count_rows, count_more}

-- what `clap` makes of the words is what their form asks for
data Agrees (words : List Text) : Type 0 where
  takes : fault_of forms words ≡ [] → asked (subcommand_of forms words) ≡ form_of words → Agrees words
  refuses : (kind : ErrorKind) (kinds : Kinds) → fault_of forms words ≡ kind ∷ kinds → form_of words ≡ None → Agrees words

-- the program's forms as `clap` builds them
abbrev bare_forms : List (Text × Command) → List Shape
bare_forms table = map (λ e. ready (new_shape e.0)) table

abbrev subs : List Shape
subs = ready walk_form ∷ ready make_form ∷ ready back_form ∷ bare_forms bare_commands

same_eq : (word name : Text) → word ≡ name → bytes_eq word name ≡ true
same_eq word name same = (bytes_eq-Decides word name).1 same

-- two texts that differ, whichever is compared with the other
abbrev Differ : Text → Text → Type 0
Differ word name = (bytes_eq word name ≡ false) × (bytes_eq name word ≡ false)

is_or_not : (word name : Text) → (word ≡ name) ⊎ Differ word name
is_or_not word name = go (bytes_eq word name) (bytes_eq name word) refl refl
  where
    go : (a b : Bool) → bytes_eq word name ≡ a → bytes_eq name word ≡ b → (word ≡ name) ⊎ Differ word name
    go true b e f = inl ((bytes_eq-Decides word name).0 e)
    go false true e f = inl (sym ((bytes_eq-Decides name word).0 f))
    go false false e f = inr (e, f)

-- the table's word that this is, if it is one
data Named (table : List (Text × Command)) (word : Text) : Type 0 where
  here : (command : Command) → form_named (bare_forms table) word ≡ Some (ready (new_shape word)) → bare_named table word ≡ Some command → Named table word
  nowhere : form_named (bare_forms table) word ≡ None → bare_named table word ≡ None → Named table word

named_first : (entry : Text × Command) (table : List (Text × Command)) (word : Text) → word ≡ entry.0 → Named (entry ∷ table) word
named_first entry table word same =
    here entry.1 (rw (same_eq entry.0 word (sym same)) (ap (λ name. Some (ready (new_shape name))) (sym same))) (rw (same_eq word entry.0 same) refl)

named_behind : (entry : Text × Command) (table : List (Text × Command)) (word : Text) → bytes_eq word entry.0 ≡ false → bytes_eq entry.0 word ≡ false
    → Named table word → Named (entry ∷ table) word
named_behind entry table word e f (here command form named) = here command (rw f form) (rw e named)
named_behind entry table word e f (nowhere form named) = nowhere (rw f form) (rw e named)

named_in : (table : List (Text × Command)) (word : Text) → Named table word
named_in [] word = nowhere refl refl
named_in (entry ∷ table) word = elim (is_or_not word entry.0) [
  | inl same ↦ named_first entry table word same
  | inr differs ↦ named_behind entry table word differs.0 differs.1 (named_in table word)
]

-- ---- `walk`

walk_fault_is : (rest : List Text) (kinds : Kinds) → fails walk_form rest ≡ kinds → fault_of forms (codes "walk" ∷ rest) ≡ kinds
walk_fault_is rest kinds fails = chosen_fault subs (codes "walk") (ready walk_form) refl refl rest ∙ fails

walk_reads : (rest : List Text) → list_any is_dashed rest ≡ false → Agrees (codes "walk" ∷ rest)
walk_reads [] plain = refuses MissingRequiredArgument [] (walk_fault_is _ _ no_process) refl
walk_reads (p ∷ []) plain =
    let at_p = or_parts _ _ plain in
    refuses MissingRequiredArgument [] (walk_fault_is _ _ (no_kind p at_p.0)) refl
walk_reads (p ∷ k ∷ []) plain =
    let at_p = or_parts _ _ plain in
    let at_k = or_parts _ _ at_p.1 in
    refuses MissingRequiredArgument [] (walk_fault_is _ _ (no_address p k at_p.0 at_k.0)) refl
walk_reads (p ∷ k ∷ a ∷ []) plain =
    let at_p = or_parts _ _ plain in
    let at_k = or_parts _ _ at_p.1 in
    let at_a = or_parts _ _ at_k.1 in
    takes (walk_fault_is _ _ (access_fault p k a at_p.0 at_k.0 at_a.0))
    (ap asked (chosen_rows subs (codes "walk") (ready walk_form) refl refl (p ∷ k ∷ a ∷ [])) ∙ access_rows p k a at_p.0 at_k.0 at_a.0)
walk_reads (p ∷ k ∷ a ∷ word ∷ rest) plain =
    let at_p = or_parts _ _ plain in
    let at_k = or_parts _ _ at_p.1 in
    let at_a = or_parts _ _ at_k.1 in
    let at_word = or_parts _ _ at_a.1 in
    refuses UnknownArgument [] (walk_fault_is _ _ (access_more p k a word rest at_p.0 at_k.0 at_a.0 at_word.0)) refl

-- ---- `make`

make_fault_is : (rest : List Text) (kinds : Kinds) → fails make_form rest ≡ kinds → fault_of forms (codes "make" ∷ rest) ≡ kinds
make_fault_is rest kinds fails = chosen_fault subs (codes "make") (ready make_form) refl refl rest ∙ fails

make_reads : (rest : List Text) → list_any is_dashed rest ≡ false → Agrees (codes "make" ∷ rest)
make_reads [] plain = refuses MissingRequiredArgument [] (make_fault_is _ _ no_number) refl
make_reads (n ∷ []) plain =
    let at_n = or_parts _ _ plain in
    takes (make_fault_is _ _ (number_fault n at_n.0))
    (ap asked (chosen_rows subs (codes "make") (ready make_form) refl refl (n ∷ [])) ∙ number_rows n at_n.0)
make_reads (n ∷ s ∷ []) plain =
    let at_n = or_parts _ _ plain in
    let at_s = or_parts _ _ at_n.1 in
    takes (make_fault_is _ _ (summary_fault n s at_n.0 at_s.0))
    (ap asked (chosen_rows subs (codes "make") (ready make_form) refl refl (n ∷ s ∷ [])) ∙ summary_rows n s at_n.0 at_s.0)
make_reads (n ∷ s ∷ word ∷ rest) plain =
    let at_n = or_parts _ _ plain in
    let at_s = or_parts _ _ at_n.1 in
    let at_word = or_parts _ _ at_s.1 in
    refuses UnknownArgument [] (make_fault_is _ _ (summary_more n s word rest at_n.0 at_s.0 at_word.0)) refl

-- ---- `back`

back_fault_is : (rest : List Text) (kinds : Kinds) → fails back_form rest ≡ kinds → fault_of forms (codes "back" ∷ rest) ≡ kinds
back_fault_is rest kinds fails = chosen_fault subs (codes "back") (ready back_form) refl refl rest ∙ fails

back_reads : (rest : List Text) → list_any is_dashed rest ≡ false → Agrees (codes "back" ∷ rest)
back_reads [] plain = refuses MissingRequiredArgument [] (back_fault_is _ _ no_count) refl
back_reads (n ∷ []) plain =
    let at_n = or_parts _ _ plain in
    takes (back_fault_is _ _ (count_fault n at_n.0))
    (ap asked (chosen_rows subs (codes "back") (ready back_form) refl refl (n ∷ [])) ∙ count_rows n at_n.0)
back_reads (n ∷ word ∷ rest) plain =
    let at_n = or_parts _ _ plain in
    let at_word = or_parts _ _ at_n.1 in
    refuses UnknownArgument [] (back_fault_is _ _ (count_more n word rest at_n.0 at_word.0)) refl

-- ---- the forms of one word, and words of no form

-- a word that is neither `walk` nor `make` nor `back`
record IsOther (word : Text) : Type 0 where
  walk : bytes_eq word (codes "walk") ≡ false
  walk_as : bytes_eq (codes "walk") word ≡ false
  make : bytes_eq word (codes "make") ≡ false
  make_as : bytes_eq (codes "make") word ≡ false
  back : bytes_eq word (codes "back") ≡ false
  back_as : bytes_eq (codes "back") word ≡ false

differs : {word : Text} → Differ word (codes "walk") → Differ word (codes "make") → Differ word (codes "back") → IsOther word
differs walk make back = record { walk = walk.0; walk_as = walk.1; make = make.0; make_as = make.1; back = back.0; back_as = back.1 }

bare_reads : (word : Text) (command : Command) (rest : List Text) → IsOther word → form_named (bare_forms bare_commands) word ≡ Some (ready (new_shape word))
    → bare_named bare_commands word ≡ Some command → list_any is_dashed rest ≡ false → Agrees (word ∷ rest)
bare_reads word command [] other form named plain =
    let found : form_named subs word ≡ Some (ready (new_shape word)) = rw (other.walk_as, other.make_as, other.back_as) form in
    takes (chosen_fault subs word (ready (new_shape word)) found refl [] ∙ bare_fault word)
    (ap asked (chosen_rows subs word (ready (new_shape word)) found refl []) ∙ rw (other.walk, other.make, other.back) refl)
bare_reads word command (next ∷ rest) other form named plain =
    let found : form_named subs word ≡ Some (ready (new_shape word)) = rw (other.walk_as, other.make_as, other.back_as) form in
    refuses UnknownArgument [] (chosen_fault subs word (ready (new_shape word)) found refl (next ∷ rest) ∙ bare_more word next rest (or_parts _ _ plain).0)
    (rw (other.walk, other.make, other.back) refl)

bare_none : (word : Text) (rest : List Text) → bare_named bare_commands word ≡ None → bare_of word rest ≡ None
bare_none word [] none = none
bare_none word (next ∷ rest) none = refl

other_reads : (word : Text) (rest : List Text) → is_dashed word ≡ false → list_any is_dashed rest ≡ false → IsOther word → Named bare_commands word → Agrees (word ∷ rest)
other_reads word rest plain_word plain other (here command form named) = bare_reads word command rest other form named plain
other_reads word rest plain_word plain other (nowhere form named) =
    refuses UnknownArgument (InvalidSubcommand ∷ []) (unknown_fault subs word rest plain_word (rw (other.walk_as, other.make_as, other.back_as) form))
    (rw (other.walk, other.make, other.back) (bare_none word rest named))

no_words : fault_of forms [] ≡ MissingSubcommand ∷ []
unfolding walk_fault defaults_fault
no_words = refl

reads : (words : List Text) → list_any is_dashed words ≡ false → Agrees words
reads [] plain = refuses MissingSubcommand [] no_words refl
reads (word ∷ rest) plain =
    let parts = or_parts _ _ plain in
    elim (is_or_not word (codes "walk")) [
      | inl same ↦ subst (λ w. Agrees (w ∷ rest)) (sym same) (walk_reads rest parts.1)
      | inr walk ↦ elim (is_or_not word (codes "make")) [
        | inl same ↦ subst (λ w. Agrees (w ∷ rest)) (sym same) (make_reads rest parts.1)
        | inr make ↦ elim (is_or_not word (codes "back")) [
          | inl same ↦ subst (λ w. Agrees (w ∷ rest)) (sym same) (back_reads rest parts.1)
          | inr back ↦ other_reads word rest parts.0 parts.1 (differs walk make back) (named_in bare_commands word)
        ]
      ]
    ]

-- ---- what is known of an answer

taken_by : (words : List Text) → Agrees words → fault_of forms words ≡ [] → asked (subcommand_of forms words) ≡ form_of words
taken_by words (takes fault same) passes = same
taken_by words (refuses kind kinds fault none) passes = let bad : suc (length kinds) ≡ 0 = ap length (sym fault ∙ passes) in absurd (omega arith)

-- words that `clap` takes ask for what their form does
pub taken_is : (words : List Text) → list_any is_dashed words ≡ false → fault_of forms words ≡ [] → asked (subcommand_of forms words) ≡ form_of words
taken_is words plain passes = taken_by words (reads words plain) passes

refused_by : (words : List Text) (kind : ErrorKind) → Agrees words → IsAmong kind (fault_of forms words) → form_of words ≡ None
refused_by words kind (takes fault same) among = absurd (subst (IsAmong kind) fault among)
refused_by words kind (refuses first kinds fault none) among = none

-- words that it refuses are of no form
pub refused_is : (words : List Text) (kind : ErrorKind) → list_any is_dashed words ≡ false → IsAmong kind (fault_of forms words) → form_of words ≡ None
refused_is words kind plain among = refused_by words kind (reads words plain) among
