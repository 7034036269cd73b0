-- Choices: those of one event, hart by hart, and that none is among them twice.
use Rattle.std.proofs.Common.{◌≡◌, ℕ, zero, suc, ◌+◌, ◌<◌, ◌≤◌, ◌&&◌, ◌||◌, ◌⊎◌, ◌++◌, ◌∷◌, [], Bool, true, false, List, Some, length, slice_get, get_or, refl, sym, ap, ap₂, ◌∙◌, subst, inl, inr, arith, append-nil, append_assoc, length-append}
use Rattle.std.proofs.lemmas.Bool.{cases_lt, eq-eqb, ne_eqb}
use Rattle.std.proofs.Math.Seq.{get_or-append_seam}
use Rattle.std.proofs.lemmas.List.{get_or_append_left}
use Rattle.std.proofs.lemmas.List.Folds.{list_any-append, list_any_at}
use Rattle.std.proofs.lemmas.Option.{get_or_from_slice_get, slice_get-get_or, slice_get_within}
use Rattle.questions.specs.declared.choice.Choice.{Choice}
use Rattle.questions.specs.declared.choice.Choice.TheVariants.{Steps, Run, Tick}
use Rattle.questions.specs.Choice.{EachOnce, all_choices, is_among, same_choice, step_below, tick_below}

pub steps_none : step_below 0 ≡ []
unfolding step_below
steps_none = refl

pub ticks_none : tick_below 0 ≡ []
unfolding tick_below
ticks_none = refl

step_suc : (hart : ℕ) → step_below (suc hart) ≡ step_below hart ++ Steps hart 1 ∷ []
unfolding step_below
step_suc hart = refl

tick_suc : (hart : ℕ) → tick_below (suc hart) ≡ tick_below hart ++ Tick hart ∷ []
unfolding tick_below
tick_suc hart = refl

-- a step of one hart more
pub step_more : (hart : ℕ) → step_below (hart + 1) ≡ step_below hart ++ Steps hart 1 ∷ []
step_more hart = let one : hart + 1 ≡ suc hart = omega arith in ap step_below one ∙ step_suc hart

-- a tick of one hart more
pub tick_more : (hart : ℕ) → tick_below (hart + 1) ≡ tick_below hart ++ Tick hart ∷ []
tick_more hart = let one : hart + 1 ≡ suc hart = omega arith in ap tick_below one ∙ tick_suc hart

-- ---- no choice twice

-- a choice is the same as itself
same_choice-self : (choice : Choice) → same_choice choice choice ≡ true
same_choice-self (Steps hart times) = ap₂ (λ (a b : Bool). a && b) (eq-eqb hart hart refl) (eq-eqb times times refl)
same_choice-self (Run hart) = eq-eqb hart hart refl
same_choice-self (Tick hart) = eq-eqb hart hart refl

once-none : EachOnce []
once-none i j choice first second = absurd (cc (first))

-- with one more that isn't among them
pub once-push : (choices : List Choice) (new : Choice) → EachOnce choices → is_among choices new ≡ false → EachOnce (choices ++ new ∷ [])
once-push choices new once other i j choice first second = by (cases_lt i (length choices)) (cases_lt j (length choices))
  where
    all : List Choice
    all = choices ++ new ∷ []

    -- where it stands among the others, or last
    inside : (k : ℕ) → slice_get all k ≡ Some choice → k < length choices → slice_get choices k ≡ Some choice
    inside k at within =
        slice_get-get_or choices k choice within
        ∙ ap Some (sym (get_or_append_left choices (new ∷ []) choice k within) ∙ get_or_from_slice_get all k choice choice at)

    last : (k : ℕ) → slice_get all k ≡ Some choice → length choices ≤ k → k ≡ length choices
    last k at past = let within = slice_get_within all k choice at in omega (arith, within, past, length-append choices (new ∷ []))

    is_new : (k : ℕ) → slice_get all k ≡ Some choice → length choices ≤ k → choice ≡ new
    is_new k at past =
        sym (get_or_from_slice_get all k choice choice at) ∙ ap (λ n. get_or all n choice) (last k at past)
        ∙ get_or-append_seam choices new [] choice

    apart : (k m : ℕ) → slice_get all k ≡ Some choice → slice_get all m ≡ Some choice → k < length choices → length choices ≤ m → ⊥
    apart k m here there within past =
        let is : get_or choices k choice ≡ new = get_or_from_slice_get choices k choice choice (inside k here within) ∙ is_new m there past in
        let found = list_any_at (same_choice new) choices k choice within (ap (same_choice new) is ∙ same_choice-self new) in
        cc (found, other)

    by : (i < length choices) ⊎ (length choices ≤ i) → (j < length choices) ⊎ (length choices ≤ j) → i ≡ j
    by (inl a) (inl b) = once i j choice (inside i first a) (inside j second b)
    by (inl a) (inr b) = absurd (apart i j first second a b)
    by (inr a) (inl b) = absurd (apart j i second first b a)
    by (inr a) (inr b) = last i first a ∙ sym (last j second b)

-- a step of a hart isn't among those of the harts below it
no_step : (hart n : ℕ) → n ≤ hart → is_among (step_below n) (Steps hart 1) ≡ false
no_step hart zero few = ap (λ (cs : List Choice). is_among cs (Steps hart 1)) steps_none
no_step hart (suc n) few =
    ap (λ (cs : List Choice). is_among cs (Steps hart 1)) (step_suc n)
    ∙ list_any-append (same_choice (Steps hart 1)) (step_below n) (Steps n 1 ∷ [])
    ∙ ap₂ (λ (a b : Bool). a || ((b && true) || false)) (no_step hart n (omega (arith, few))) (ne_eqb hart n (λ same. omega (arith, same, few)))

-- nor is a tick among steps
no_tick_step : (hart n : ℕ) → is_among (step_below n) (Tick hart) ≡ false
no_tick_step hart zero = ap (λ (cs : List Choice). is_among cs (Tick hart)) steps_none
no_tick_step hart (suc n) =
    ap (λ (cs : List Choice). is_among cs (Tick hart)) (step_suc n)
    ∙ list_any-append (same_choice (Tick hart)) (step_below n) (Steps n 1 ∷ [])
    ∙ ap (λ (a : Bool). a || false) (no_tick_step hart n)

-- or among those of the harts below it
no_tick : (hart n : ℕ) → n ≤ hart → is_among (tick_below n) (Tick hart) ≡ false
no_tick hart zero few = ap (λ (cs : List Choice). is_among cs (Tick hart)) ticks_none
no_tick hart (suc n) few =
    ap (λ (cs : List Choice). is_among cs (Tick hart)) (tick_suc n)
    ∙ list_any-append (same_choice (Tick hart)) (tick_below n) (Tick n ∷ [])
    ∙ ap₂ (λ (a b : Bool). a || (b || false)) (no_tick hart n (omega (arith, few))) (ne_eqb hart n (λ same. omega (arith, same, few)))

steps-once : (n : ℕ) → EachOnce (step_below n)
steps-once zero = subst EachOnce (sym steps_none) once-none
steps-once (suc n) = subst EachOnce (sym (step_suc n)) (once-push (step_below n) (Steps n 1) (steps-once n) (no_step n n (omega arith)))

events-once : (harts n : ℕ) → EachOnce (step_below harts ++ tick_below n)
events-once harts zero =
    subst EachOnce (sym (ap (λ (cs : List Choice). step_below harts ++ cs) ticks_none ∙ append-nil (step_below harts))) (steps-once harts)
events-once harts (suc n) =
    subst EachOnce (append_assoc (step_below harts) (tick_below n) (Tick n ∷ []) ∙ ap (λ (cs : List Choice). step_below harts ++ cs) (sym (tick_suc n)))
    (once-push (step_below harts ++ tick_below n) (Tick n) (events-once harts n)
    (list_any-append (same_choice (Tick n)) (step_below harts) (tick_below n)
    ∙ ap₂ (λ (a b : Bool). a || b) (no_tick_step n harts) (no_tick n n (omega arith))))

-- all choices of one event
pub all-once : (harts : ℕ) → EachOnce (all_choices harts)
all-once harts = events-once harts harts
