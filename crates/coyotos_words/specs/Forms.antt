-- The forms of the words as `clap` has them: one subcommand for each first word, with the places of the words behind it.
use Rattle.std.specs.Prelude.{true, List, [], ◌∷◌, map, fold, codes}
use Rattle.clap.specs.Walk.{Rule, Text}
use Rattle.clap.specs.Simple.{App, Shape, new_rule, new_shape, with_subcommand}
use Rattle.coyotos_words.specs.Command.{bare_commands}

-- a place that has to be filled
abbrev pub wanted : Text → Rule
wanted id = record (new_rule id) { required = true }

-- `walk P KIND ADDR`
abbrev pub walk_form : Shape
walk_form = record (new_shape (codes "walk")) { rules = wanted (codes "process") ∷ wanted (codes "kind") ∷ wanted (codes "address") ∷ [] }

-- `make N` and `make N summary`
abbrev pub make_form : Shape
make_form = record (new_shape (codes "make")) { rules = wanted (codes "number") ∷ new_rule (codes "summary") ∷ [] }

-- `back N`
abbrev pub back_form : Shape
back_form = record (new_shape (codes "back")) { rules = wanted (codes "number") ∷ [] }

-- the program, which wants a form, and answers no word by itself
abbrev pub top : App
top = record {
  top = record (new_shape (codes "coyotos")) {
    no_binary_name = true;
    disable_help_flag = true;
    disable_help_subcommand = true;
    disable_version_flag = true;
    subcommand_required = true;
  };
  subs = [];
}

-- the program with a form of one word more for each of these
abbrev pub with_bare : App → List Text → App
with_bare = fold (λ app word. with_subcommand app (new_shape word))

-- all forms
abbrev pub forms : App
forms = with_bare (with_subcommand (with_subcommand (with_subcommand top walk_form) make_form) back_form) (map (λ e. e.0) bare_commands)
