-- What `clap` makes of the words behind the first, form by form: which place each word takes, and what is refused.
use Rattle.std.proofs.Common.{ℕ, ◌≡◌, ◌∙◌, List, [], ◌∷◌, false, Some, None, refl, ap}
use Rattle.clap.specs.Walk.{Held, Row, Rule, Text, Walk, arg_by_index, finished, nothing_held, rows_after, to_positional, walk, walk_from, walked}
use Rattle.clap.specs.Simple.{Shape, built_leaf, inherited, marked_built, new_shape, with_leaf_noted}
use Rattle.clap.specs.Kinds.{Kinds}
use Rattle.clap.specs.Faults.{defaults_fault, level_fault, walk_fault}
use Rattle.clap.specs.declared.error.kind.ErrorKind.TheVariants.{MissingRequiredArgument, UnknownArgument}
use Rattle.coyotos_words.specs.Command.{is_dashed}
use Rattle.coyotos_words.specs.Forms.{forms, walk_form, make_form, back_form}
use Rattle.coyotos_words.specs.Matches.{access_asked, number_asked, undone_asked, walk_asked, make_asked, back_asked}
use Rattle.coyotos_words.proofs.Plain.{stands, walked_plain, fault_plain, level_is}

-- a form as `clap` builds it below the program
abbrev pub ready : Shape → Shape
ready form = built_leaf (inherited (with_leaf_noted (marked_built forms.top)) form)

-- what fails in a form
abbrev pub fails : Shape → List Text → Kinds
fails form rest = level_fault (ready form) [] nothing_held rest false []

-- what the places of a form hold
abbrev pub rows : Shape → List Text → List Row
rows form rest = rows_after (ready form).rules [] rest

-- ---- a form of one word

pub bare_fault : (name : Text) → fails (new_shape name) [] ≡ []
unfolding walk_fault defaults_fault
bare_fault name = refl

pub bare_more : (name word : Text) (rest : List Text) → is_dashed word ≡ false → fails (new_shape name) (word ∷ rest) ≡ UnknownArgument ∷ []
bare_more name word rest plain =
    let s = ready (new_shape name) in
    level_is s [] (word ∷ rest) false [] (walk s.rules [] nothing_held (word ∷ rest)) _ refl (fault_plain s [] nothing_held 1 word rest plain refl)

-- ---- `walk P KIND ADDR`

abbrev places : List Rule
places = (ready walk_form).rules

-- one word behind those that a walk has passed
abbrev put : Held → ℕ → Text → Walk
put held position word = to_positional places (arg_by_index places position) word (stands held position) held

abbrev with_process : Text → Held
with_process p = (put nothing_held 1 p).held

abbrev with_kind : Text → Text → Held
with_kind p k = (put (with_process p) 2 k).held

abbrev with_address : Text → Text → Text → Held
with_address p k a = (put (with_kind p k) 3 a).held

process_walk : (p : Text) → is_dashed p ≡ false → walk places [] nothing_held (p ∷ []) ≡ stands (with_process p) 2
process_walk p plain = walked_plain places [] nothing_held 1 p plain refl

kind_walk : (p k : Text) → is_dashed p ≡ false → is_dashed k ≡ false → walk places [] nothing_held (p ∷ k ∷ []) ≡ stands (with_kind p k) 3
kind_walk p k plain_p plain_k = ap (λ (w : Walk). walked places [] w k) (process_walk p plain_p) ∙ walked_plain places [] (with_process p) 2 k plain_k refl

address_walk : (p k a : Text) → is_dashed p ≡ false → is_dashed k ≡ false → is_dashed a ≡ false → walk places [] nothing_held (p ∷ k ∷ a ∷ []) ≡ stands (with_address p k a) 4
address_walk p k a plain_p plain_k plain_a =
    ap (λ (w : Walk). walked places [] w a) (kind_walk p k plain_p plain_k) ∙ walked_plain places [] (with_kind p k) 3 a plain_a refl

after_address : (p k a : Text) (rest : List Text) → is_dashed a ≡ false
    → walk_fault (ready walk_form) [] (stands (with_kind p k) 3) (a ∷ rest) ≡ walk_fault (ready walk_form) [] (stands (with_address p k a) 4) rest
after_address p k a rest plain = fault_plain (ready walk_form) [] (with_kind p k) 3 a rest plain refl

after_kind : (p k : Text) (rest : List Text) → is_dashed k ≡ false
    → walk_fault (ready walk_form) [] (stands (with_process p) 2) (k ∷ rest) ≡ walk_fault (ready walk_form) [] (stands (with_kind p k) 3) rest
after_kind p k rest plain = fault_plain (ready walk_form) [] (with_process p) 2 k rest plain refl

after_process : (p : Text) (rest : List Text) → is_dashed p ≡ false
    → walk_fault (ready walk_form) [] (walk_from nothing_held) (p ∷ rest) ≡ walk_fault (ready walk_form) [] (stands (with_process p) 2) rest
after_process p rest plain = fault_plain (ready walk_form) [] nothing_held 1 p rest plain refl

pub no_process : fails walk_form [] ≡ MissingRequiredArgument ∷ []
unfolding walk_fault defaults_fault
no_process = refl

pub no_kind : (p : Text) → is_dashed p ≡ false → fails walk_form (p ∷ []) ≡ MissingRequiredArgument ∷ []
unfolding walk_fault defaults_fault
no_kind p plain = level_is (ready walk_form) [] (p ∷ []) false [] (stands (with_process p) 2) [] (process_walk p plain) (after_process p [] plain)

pub no_address : (p k : Text) → is_dashed p ≡ false → is_dashed k ≡ false → fails walk_form (p ∷ k ∷ []) ≡ MissingRequiredArgument ∷ []
unfolding walk_fault defaults_fault
no_address p k plain_p plain_k =
    level_is (ready walk_form) [] (p ∷ k ∷ []) false [] (stands (with_kind p k) 3) [] (kind_walk p k plain_p plain_k)
    (after_process p (k ∷ []) plain_p ∙ after_kind p k [] plain_k)

pub access_fault : (p k a : Text) → is_dashed p ≡ false → is_dashed k ≡ false → is_dashed a ≡ false → fails walk_form (p ∷ k ∷ a ∷ []) ≡ []
unfolding walk_fault defaults_fault
access_fault p k a plain_p plain_k plain_a =
    level_is (ready walk_form) [] (p ∷ k ∷ a ∷ []) false [] (stands (with_address p k a) 4) [] (address_walk p k a plain_p plain_k plain_a)
    (after_process p (k ∷ a ∷ []) plain_p ∙ after_kind p k (a ∷ []) plain_k ∙ after_address p k a [] plain_a)

pub access_rows : (p k a : Text) → is_dashed p ≡ false → is_dashed k ≡ false → is_dashed a ≡ false
    → walk_asked (rows walk_form (p ∷ k ∷ a ∷ [])) ≡ access_asked (Some p) (Some k) (Some a)
access_rows p k a plain_p plain_k plain_a = ap (λ (w : Walk). walk_asked (finished places w.held)) (address_walk p k a plain_p plain_k plain_a)

pub access_more : (p k a word : Text) (rest : List Text) → is_dashed p ≡ false → is_dashed k ≡ false → is_dashed a ≡ false → is_dashed word ≡ false
    → fails walk_form (p ∷ k ∷ a ∷ word ∷ rest) ≡ UnknownArgument ∷ []
access_more p k a word rest plain_p plain_k plain_a plain =
    let words = p ∷ k ∷ a ∷ word ∷ rest in
    level_is (ready walk_form) [] words false [] (walk places [] nothing_held words) _ refl
    (after_process p (k ∷ a ∷ word ∷ rest) plain_p ∙ after_kind p k (a ∷ word ∷ rest) plain_k ∙ after_address p k a (word ∷ rest) plain_a
    ∙ fault_plain (ready walk_form) [] (with_address p k a) 4 word rest plain refl)

-- ---- `make N` and `make N summary`

abbrev make_places : List Rule
make_places = (ready make_form).rules

abbrev put_made : Held → ℕ → Text → Walk
put_made held position word = to_positional make_places (arg_by_index make_places position) word (stands held position) held

abbrev with_number : Text → Held
with_number n = (put_made nothing_held 1 n).held

abbrev with_summary : Text → Text → Held
with_summary n s = (put_made (with_number n) 2 s).held

number_walk : (n : Text) → is_dashed n ≡ false → walk make_places [] nothing_held (n ∷ []) ≡ stands (with_number n) 2
number_walk n plain = walked_plain make_places [] nothing_held 1 n plain refl

summary_walk : (n s : Text) → is_dashed n ≡ false → is_dashed s ≡ false → walk make_places [] nothing_held (n ∷ s ∷ []) ≡ stands (with_summary n s) 3
summary_walk n s plain_n plain_s = ap (λ (w : Walk). walked make_places [] w s) (number_walk n plain_n) ∙ walked_plain make_places [] (with_number n) 2 s plain_s refl

after_number : (n : Text) (rest : List Text) → is_dashed n ≡ false
    → walk_fault (ready make_form) [] (walk_from nothing_held) (n ∷ rest) ≡ walk_fault (ready make_form) [] (stands (with_number n) 2) rest
after_number n rest plain = fault_plain (ready make_form) [] nothing_held 1 n rest plain refl

after_summary : (n s : Text) (rest : List Text) → is_dashed s ≡ false
    → walk_fault (ready make_form) [] (stands (with_number n) 2) (s ∷ rest) ≡ walk_fault (ready make_form) [] (stands (with_summary n s) 3) rest
after_summary n s rest plain = fault_plain (ready make_form) [] (with_number n) 2 s rest plain refl

pub no_number : fails make_form [] ≡ MissingRequiredArgument ∷ []
unfolding walk_fault defaults_fault
no_number = refl

pub number_fault : (n : Text) → is_dashed n ≡ false → fails make_form (n ∷ []) ≡ []
unfolding walk_fault defaults_fault
number_fault n plain = level_is (ready make_form) [] (n ∷ []) false [] (stands (with_number n) 2) [] (number_walk n plain) (after_number n [] plain)

pub number_rows : (n : Text) → is_dashed n ≡ false → make_asked (rows make_form (n ∷ [])) ≡ number_asked (Some n) None
number_rows n plain = ap (λ (w : Walk). make_asked (finished make_places w.held)) (number_walk n plain)

pub summary_fault : (n s : Text) → is_dashed n ≡ false → is_dashed s ≡ false → fails make_form (n ∷ s ∷ []) ≡ []
unfolding walk_fault defaults_fault
summary_fault n s plain_n plain_s =
    level_is (ready make_form) [] (n ∷ s ∷ []) false [] (stands (with_summary n s) 3) [] (summary_walk n s plain_n plain_s)
    (after_number n (s ∷ []) plain_n ∙ after_summary n s [] plain_s)

pub summary_rows : (n s : Text) → is_dashed n ≡ false → is_dashed s ≡ false → make_asked (rows make_form (n ∷ s ∷ [])) ≡ number_asked (Some n) (Some s)
summary_rows n s plain_n plain_s = ap (λ (w : Walk). make_asked (finished make_places w.held)) (summary_walk n s plain_n plain_s)

pub summary_more : (n s word : Text) (rest : List Text) → is_dashed n ≡ false → is_dashed s ≡ false → is_dashed word ≡ false
    → fails make_form (n ∷ s ∷ word ∷ rest) ≡ UnknownArgument ∷ []
summary_more n s word rest plain_n plain_s plain =
    let words = n ∷ s ∷ word ∷ rest in
    level_is (ready make_form) [] words false [] (walk make_places [] nothing_held words) _ refl
    (after_number n (s ∷ word ∷ rest) plain_n ∙ after_summary n s (word ∷ rest) plain_s
    ∙ fault_plain (ready make_form) [] (with_summary n s) 3 word rest plain refl)

-- ---- `back N`

abbrev back_places : List Rule
back_places = (ready back_form).rules

abbrev with_count : Text → Held
with_count n = (to_positional back_places (arg_by_index back_places 1) n (stands nothing_held 1) nothing_held).held

count_walk : (n : Text) → is_dashed n ≡ false → walk back_places [] nothing_held (n ∷ []) ≡ stands (with_count n) 2
count_walk n plain = walked_plain back_places [] nothing_held 1 n plain refl

after_count : (n : Text) (rest : List Text) → is_dashed n ≡ false
    → walk_fault (ready back_form) [] (walk_from nothing_held) (n ∷ rest) ≡ walk_fault (ready back_form) [] (stands (with_count n) 2) rest
after_count n rest plain = fault_plain (ready back_form) [] nothing_held 1 n rest plain refl

pub no_count : fails back_form [] ≡ MissingRequiredArgument ∷ []
unfolding walk_fault defaults_fault
no_count = refl

pub count_fault : (n : Text) → is_dashed n ≡ false → fails back_form (n ∷ []) ≡ []
unfolding walk_fault defaults_fault
count_fault n plain = level_is (ready back_form) [] (n ∷ []) false [] (stands (with_count n) 2) [] (count_walk n plain) (after_count n [] plain)

pub count_rows : (n : Text) → is_dashed n ≡ false → back_asked (rows back_form (n ∷ [])) ≡ undone_asked (Some n)
count_rows n plain = ap (λ (w : Walk). back_asked (finished back_places w.held)) (count_walk n plain)

pub count_more : (n word : Text) (rest : List Text) → is_dashed n ≡ false → is_dashed word ≡ false
    → fails back_form (n ∷ word ∷ rest) ≡ UnknownArgument ∷ []
count_more n word rest plain_n plain =
    let words = n ∷ word ∷ rest in
    level_is (ready back_form) [] words false [] (walk back_places [] nothing_held words) _ refl
    (after_count n (word ∷ rest) plain_n ∙ fault_plain (ready back_form) [] (with_count n) 2 word rest plain refl)
