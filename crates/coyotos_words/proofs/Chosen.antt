-- What `clap` makes of words of which the first names a form, or names none, whatever the forms are.
use Rattle.std.proofs.Common.{◌≡◌, ◌∙◌, ◌&&◌, List, [], ◌∷◌, map, Bool, true, false, Option, Some, None, refl, sym, ap, ap₂, find, is_some}
use Rattle.std.specs.Option.{option_map, option_map_or}
use Rattle.std.specs.Prelude.{codes, fold, if◌then◌else◌}
use Rattle.std.specs.Str.{bytes_eq}
use Rattle.clap.specs.Walk.{Names, Text, Walk, idle, after_step, answers_to, nothing_held, rows_after, stop_after, subcommand_met, subcommand_or_other, walk, walk_from, walked}
use Rattle.clap.specs.Simple.{App, Shape, built, entered, label_of, names_of, rows_at}
use Rattle.clap.specs.Kinds.{Kinds, or_else}
use Rattle.clap.specs.Faults.{built_fault, defaults_fault, entered_fault, level_fault, other_fault, step_fault, walk_fault, word_fault}
use Rattle.clap.specs.declared.error.kind.ErrorKind.TheVariants.{DisplayHelp, UnknownArgument, InvalidSubcommand}
use Rattle.clap.proofs.WalkLemmas.{walk_stopped}
use Rattle.clap.proofs.FaultLemmas.{stopped_fault}
use Rattle.coyotos_words.specs.Command.{is_dashed}
use Rattle.coyotos_words.specs.Forms.{forms}
use Rattle.coyotos_words.proofs.Plain.{fault_plain, level_is}

-- the program with these forms
abbrev pub program : List Shape → App
program subs = record { top = (built forms).top; subs = subs }

-- the form that a word names
abbrev pub form_named : List Shape → Text → Option Shape
form_named subs word = find (λ s. answers_to word (label_of s)) subs

pub or_else-nil : (a : Kinds) → or_else a [] ≡ a
or_else-nil [] = refl
or_else-nil (k ∷ ks) = refl

and_false : (b : Bool) → (b && false) ≡ false
and_false true = refl
and_false false = refl

named_by : (test : Text × List Text → Bool) (subs : List Shape)
    → option_map (λ (p : Text × List Text). p.0) (find test (map label_of subs)) ≡ option_map (λ (s : Shape). s.name) (find (λ s. test (label_of s)) subs)
named_by test [] = refl
named_by test (s ∷ subs) = go (test (label_of s)) (named_by test subs)
  where
    go : (b : Bool)
        → option_map (λ (p : Text × List Text). p.0) (find test (map label_of subs)) ≡ option_map (λ (s : Shape). s.name) (find (λ s. test (label_of s)) subs)
        → option_map (λ (p : Text × List Text). p.0) (if b then Some (label_of s) else find test (map label_of subs))
        ≡ option_map (λ (s : Shape). s.name) (if b then Some s else find (λ s. test (label_of s)) subs)
    go true e = refl
    go false e = e

-- a first word that names a form is met as that form's name
pub met_named : (subs : List Shape) (word : Text) → subcommand_met (names_of (program subs)) idle word ≡ option_map (λ (s : Shape). s.name) (form_named subs word)
met_named subs word = named_by (answers_to word) subs

module _ (subs : List Shape) (word : Text) (form : Shape) (is : form_named subs word ≡ Some form) (same : form.name ≡ word) where
  abbrev pub names : Names
  names = names_of (program subs)

  met : subcommand_met names idle word ≡ Some word
  met = met_named subs word ∙ ap (option_map (λ (s : Shape). s.name)) is ∙ ap Some same

  abbrev stopped_at : List Text → Walk
  stopped_at rest = record (walk_from nothing_held) { stopped = Some (word, rest) }

  first : walked [] names (walk_from nothing_held) word ≡ stopped_at []
  unfolding walked
  first = ap (λ o. let m = subcommand_or_other [] o idle 1 word nothing_held in after_step [] word (walk_from nothing_held) m.0 m.1) met

  walk_is : (rest : List Text) → walk [] names nothing_held (word ∷ rest) ≡ stopped_at rest
  walk_is rest = ap (λ w. fold (walked [] names) w rest) first ∙ sym (walk_stopped [] names (walk_from nothing_held) word [] rest)

  enters : (rest : List Text) → entered (program subs) (Some (word, rest)) ≡ Some (form.name, rows_after form.rules [] rest)
  enters rest = ap (option_map (λ s. rows_at s rest)) is

  -- the words behind it go to the form's places
  pub chosen_rows : (rest : List Text) → entered (program subs) (stop_after [] names (word ∷ rest)) ≡ Some (form.name, rows_after form.rules [] rest)
  chosen_rows rest = ap (λ (w : Walk). entered (program subs) w.stopped) (walk_is rest) ∙ enters rest

  no_fault : (rest : List Text) → walk_fault (program subs).top names (walk_from nothing_held) (word ∷ rest) ≡ []
  unfolding walk_fault
  no_fault rest =
      let head = (program subs).top in
      let asks : word_fault head names false idle word nothing_held ≡ [] =
      ap (λ o. other_fault head o word nothing_held) met
      ∙ ap (λ b. if b then DisplayHelp ∷ InvalidSubcommand ∷ [] else []) (and_false (bytes_eq word (codes "help"))) in
      ap₂ or_else
      (ap₂ (λ (f : Kinds) (o : Option Text). let m = subcommand_or_other [] o idle 1 word nothing_held in or_else f (step_fault head 1 m.0 m.1)) asks met)
      (ap (λ w. walk_fault head names w rest) first ∙ stopped_fault head names (walk_from nothing_held) (word, []) rest)

  -- and what fails is what fails there
  pub chosen_fault : (rest : List Text) → built_fault (program subs) nothing_held (word ∷ rest) ≡ level_fault form [] nothing_held rest false []
  unfolding defaults_fault
  chosen_fault rest =
      let head = (program subs).top in
      let has : is_some (entered (program subs) (Some (word, rest))) ≡ true = ap is_some (enters rest) in
      let below : entered_fault (program subs) (Some (word, rest)) ≡ level_fault form [] nothing_held rest false [] =
      ap (λ o. option_map_or (λ (s : Shape). level_fault s [] nothing_held rest false []) o []) is in
      ap (λ (w : Walk). level_fault head names nothing_held (word ∷ rest) (is_some (entered (program subs) w.stopped)) (entered_fault (program subs) w.stopped)) (walk_is rest)
      ∙ ap₂ (λ (b : Bool) (f : Kinds). level_fault head names nothing_held (word ∷ rest) b f) has below
      ∙ level_is head names (word ∷ rest) true (level_fault form [] nothing_held rest false []) (stopped_at rest) [] (walk_is rest) (no_fault rest)
      ∙ or_else-nil (level_fault form [] nothing_held rest false [])

-- a first word that names no form is refused
pub unknown_fault : (subs : List Shape) (word : Text) (rest : List Text) → is_dashed word ≡ false → form_named subs word ≡ None
    → built_fault (program subs) nothing_held (word ∷ rest) ≡ UnknownArgument ∷ InvalidSubcommand ∷ []
unknown_fault subs word rest plain none =
    let head = (program subs).top in
    let names = names_of (program subs) in
    let unmet : subcommand_met names idle word ≡ None = met_named subs word ∙ ap (option_map (λ (s : Shape). s.name)) none in
    let stop = (walk head.rules names nothing_held (word ∷ rest)).stopped in
    level_is head names (word ∷ rest) (is_some (entered (program subs) stop)) (entered_fault (program subs) stop) (walk head.rules names nothing_held (word ∷ rest)) _ refl
    (fault_plain head names nothing_held 1 word rest plain unmet)
