-- Each list of events of harts that there are is one of choices, where all events are choices.
use Rattle.std.proofs.Common.{◌≡◌, ◌∙◌, ℕ, zero, suc, ◌+◌, ◌<◌, ◌++◌, ◌∷◌, [], List, length, map, get_or, refl, sym, ap, subst, inl, inr, arith, length-append}
use Rattle.std.specs.List.{All}
use Rattle.std.proofs.Math.Seq.{get_or-append_seam}
use Rattle.std.proofs.lemmas.Bool.{cases_lt}
use Rattle.std.proofs.lemmas.List.{get_or-append-add, get_or_append_left}
use Rattle.std.proofs.lemmas.List.Elements.{All-cons, All-head, All-nil, All-tail}
use Rattle.machine_state.specs.declared.event.Event.{Event}
use Rattle.machine_state.specs.declared.event.Event.TheVariants.{Step, Tick}
use Rattle.machine_state.specs.Machine.{hart_in}
use Rattle.machine_state.specs.State.{State}
use Rattle.kernel_core.specs.Event.{event_of}
use Rattle.kernel_core.specs.Run.{run_state}
use Rattle.kernel_core.proofs.Ran.{run_state-cons, run_state-nil}
use Rattle.quiet_runs.specs.Runs.{Watch}
use Rattle.questions.specs.declared.choice.Choice.{Choice}
use Rattle.questions.specs.declared.choice.Choice.TheVariants.{Steps, Tick as TimerTick}
use Rattle.questions.specs.Choice.{AreChoices, after, all_choices, choice_at, choice_events, step_below, tick_below}
use Rattle.questions.specs.Question.{choices_by, choices_of, watch_for}
use Rattle.exploration.specs.Explored.{IsSafe}
use Rattle.exploration.specs.Laws.{EveryEventLaw}

-- ---- choices hart by hart

step_suc : (n : ℕ) → step_below (suc n) ≡ step_below n ++ Steps n 1 ∷ []
unfolding step_below
step_suc n = refl

tick_suc : (n : ℕ) → tick_below (suc n) ≡ tick_below n ++ TimerTick n ∷ []
unfolding tick_below
tick_suc n = refl

length-steps : (n : ℕ) → length (step_below n) ≡ n
unfolding step_below
length-steps zero = refl
length-steps (suc n) = omega (arith, length-append (step_below n) (Steps n 1 ∷ []), length-steps n)

length-ticks : (n : ℕ) → length (tick_below n) ≡ n
unfolding tick_below
length-ticks zero = refl
length-ticks (suc n) = omega (arith, length-append (tick_below n) (TimerTick n ∷ []), length-ticks n)

step-at : (n h : ℕ) (d : Choice) → h < n → get_or (step_below n) h d ≡ Steps h 1
step-at zero h d below = absurd (omega (arith, below))
step-at (suc n) h d below = ap (λ (cs : List Choice). get_or cs h d) (step_suc n) ∙ elim (cases_lt h n) [
  | inl lower ↦ get_or_append_left (step_below n) (Steps n 1 ∷ []) d h (omega (arith, lower, length-steps n)) ∙ step-at n h d lower
  | inr past ↦
      let last : h ≡ n = omega (arith, below, past) in
      ap (λ k. get_or (step_below n ++ Steps n 1 ∷ []) k d) (last ∙ sym (length-steps n)) ∙ get_or-append_seam (step_below n) (Steps n 1) [] d ∙ ap (λ k. Steps k 1) (sym last)
]

tick-at : (n h : ℕ) (d : Choice) → h < n → get_or (tick_below n) h d ≡ TimerTick h
tick-at zero h d below = absurd (omega (arith, below))
tick-at (suc n) h d below = ap (λ (cs : List Choice). get_or cs h d) (tick_suc n) ∙ elim (cases_lt h n) [
  | inl lower ↦ get_or_append_left (tick_below n) (TimerTick n ∷ []) d h (omega (arith, lower, length-ticks n)) ∙ tick-at n h d lower
  | inr past ↦
      let last : h ≡ n = omega (arith, below, past) in
      ap (λ k. get_or (tick_below n ++ TimerTick n ∷ []) k d) (last ∙ sym (length-ticks n)) ∙ get_or-append_seam (tick_below n) (TimerTick n) [] d ∙ ap (λ k. TimerTick k) (sym last)
]

module _ (harts : ℕ) where
  -- the number of the choice that is one event
  number : Event → ℕ
  number (Step hart) = hart
  number (Tick hart) = harts + hart

  abbrev of_event : Watch → State → Event → List Event
  of_event watch s e = choice_events watch s (choice_at (all_choices harts) (number e))

  one-event : (watch : Watch) (s : State) (e : Event) → hart_in e < harts → of_event watch s e ≡ e ∷ []
  unfolding number
  one-event watch s (Step hart) below =
      ap (choice_events watch s)
      (get_or_append_left (step_below harts) (tick_below harts) (TimerTick 0) hart (omega (arith, below, length-steps harts)) ∙ step-at harts hart (TimerTick 0) below)
  one-event watch s (Tick hart) below =
      ap (choice_events watch s)
      (ap (λ n. get_or (step_below harts ++ tick_below harts) (n + hart) (TimerTick 0)) (sym (length-steps harts))
      ∙ get_or-append-add (step_below harts) (tick_below harts) hart (TimerTick 0) ∙ tick-at harts hart (TimerTick 0) below)

  number-below : (e : Event) → hart_in e < harts → number e < length (all_choices harts)
  unfolding number
  number-below (Step hart) below = omega (arith, below, length-append (step_below harts) (tick_below harts), length-steps harts, length-ticks harts)
  number-below (Tick hart) below = omega (arith, below, length-append (step_below harts) (tick_below harts), length-steps harts, length-ticks harts)

  abbrev AllThere : List Event → Type 0
  AllThere es = All (λ e. hart_in e < harts) es

  numbers-after : (watch : Watch) (s : State) (es : List Event) → AllThere es → after watch (all_choices harts) s (map number es) ≡ run_state s es
  unfolding after
  numbers-after watch s [] all = sym (run_state-nil s)
  numbers-after watch s (e ∷ es) all =
      let first = ap (run_state s) (one-event watch s e (All-head (λ e. hart_in e < harts) e es all)) ∙ run_state-cons s e [] ∙ run_state-nil (event_of s e).state in
      ap (λ (t : State). after watch (all_choices harts) t (map number es)) first
      ∙ numbers-after watch (event_of s e).state es (All-tail (λ e. hart_in e < harts) e es all) ∙ sym (run_state-cons s e es)

  numbers-choices : (es : List Event) → AllThere es → AreChoices (all_choices harts) (map number es)
  numbers-choices [] all = All-nil (λ i. i < length (all_choices harts))
  numbers-choices (e ∷ es) all =
      All-cons (λ i. i < length (all_choices harts)) (number e) (map number es) (number-below e (All-head (λ e. hart_in e < harts) e es all))
      (numbers-choices es (All-tail (λ e. hart_in e < harts) e es all))

pub every_event_law : EveryEventLaw
every_event_law question policy s none safe es all =
    let harts = question.sizes.harts in
    let path = map (number harts) es in
    let same : choices_of question ≡ all_choices harts = ap (choices_by harts) none in
    let watch = watch_for question.properties in
    subst (λ (t : State). IsSafe question policy t)
    (ap (λ (cs : List Choice). after watch cs s path) same ∙ numbers-after harts watch s es all)
    (safe path (subst (λ (cs : List Choice). AreChoices cs path) (sym same) (numbers-choices harts es all)))
