-- Quiet steps of a hart, as they are performed one after the other.
use Rattle.std.proofs.Common.{◌≡◌, ◌∙◌, ℕ, zero, suc, ◌+◌, ◌-◌, ◌<◌, ◌&&◌, ◌||◌, Bool, true, false, not, if◌then◌else◌, Option, Some, None, is_some, replicate, refl, sym, ap, subst, arith, true≢false}
use Rattle.schedules.specs.Queues.{hart_of}
use Rattle.machine_state.specs.declared.event.Event.TheVariants.{Step}
use Rattle.machine_state.specs.State.{State}
use Rattle.kernel_core.specs.Event.{event_of}
use Rattle.kernel_core.proofs.Ran.{run_state-cons, run_state-nil}
use Rattle.quiet_runs.specs.Runs.{Watch, after_step}
use Rattle.quiet_runs.specs.Finding.{is_quiet, is_quiet_on, quiet_steps, quiet_within}
use Rattle.quiet_runs.specs.Laws.{HeldLaw, LookAlike}
use Rattle.quiet_finding.specs.Reaching.{IsReaching, ReachingValue}
use Rattle.quiet_finding.specs.declared.walks.KeptWalks.{KeptWalks}
use Rattle.quiet_finding.specs.Walks.{AreKeptOn}
use Rattle.quiet_finding.proofs.Kept.{reaching-kept}
use Rattle.quiet_finding.proofs.Walking.{kept-after}
use Rattle.state_choices.specs.Steps.{after_steps}

module _ (watch : Watch) (hart : ℕ) where
  -- ---- how many follow

  quiet_within-zero : (s : State) → quiet_within 0 watch s hart ≡ 0
  unfolding quiet_within
  quiet_within-zero s = refl

  abbrev counted_if : ℕ → State → Bool → ℕ
  counted_if most s b = if b then suc (quiet_within most watch (after_step s hart) hart) else 0

  quiet_within-suc : (most : ℕ) (s : State) → quiet_within (suc most) watch s hart ≡ counted_if most s (is_quiet watch s hart)
  unfolding quiet_within
  quiet_within-suc most s = refl

  -- one, and those after it
  pub quiet-more : (most : ℕ) (s : State) → is_quiet watch s hart ≡ true → quiet_within (suc most) watch s hart ≡ suc (quiet_within most watch (after_step s hart) hart)
  quiet-more most s is = quiet_within-suc most s ∙ ap (counted_if most s) is

  -- none, where the next isn't quiet
  pub quiet-none : (most : ℕ) (s : State) → is_quiet watch s hart ≡ false → quiet_within most watch s hart ≡ 0
  quiet-none zero s is = quiet_within-zero s
  quiet-none (suc most) s is = quiet_within-suc most s ∙ ap (counted_if most s) is

  none_next : (halted : Bool) (on : Option ℕ) (s : State) → (halted || not (is_some on)) ≡ true → (not halted && is_quiet_on watch s hart on) ≡ false
  none_next true on s is = refl
  none_next false None s is = refl
  none_next false (Some p) s is = absurd (true≢false (sym is))

  -- the next isn't where the machine is halted, or nobody is on the hart
  pub idle-not_quiet : (s : State) → (s.halted || not (is_some (hart_of s.queues hart))) ≡ true → is_quiet watch s hart ≡ false
  unfolding is_quiet
  idle-not_quiet s is = none_next s.halted (hart_of s.queues hart) s is

  -- ---- one after the other

  -- So many quiet steps led from one state to another, and what follows there are the rest of all.
  pub record HasGone (most : ℕ) (s t : State) (steps : ℕ) : Type 0 where
    pub count : quiet_within most watch s hart ≡ steps + quiet_within (most - steps) watch t hart
    pub state : (n : ℕ) → after_steps hart n t ≡ after_steps hart (steps + n) s

  pub gone-none : (most : ℕ) (s : State) → HasGone most s s 0
  gone-none most s =
      let all : most - 0 ≡ most = omega arith in
      let same = ap (λ (n : ℕ). quiet_within n watch s hart) all in
      record { count = omega (arith, same); state = λ n. (let none : n ≡ 0 + n = omega arith in ap (λ (k : ℕ). after_steps hart k s) none) }

  pub gone-more : (most : ℕ) (s t u : State) (steps : ℕ) → HasGone most s t steps → steps < most → is_quiet watch t hart ≡ true → u ≡ (event_of t (Step hart)).state → HasGone most s u (steps + 1)
  gone-more most s t u steps gone below quiet is = record { count = counted; state = led }
    where
      left : ℕ
      left = most - (steps + 1)

      rest : quiet_within (most - steps) watch t hart ≡ suc (quiet_within left watch u hart)
      rest =
          let more : most - steps ≡ suc left = omega (arith, below) in
          ap (λ (n : ℕ). quiet_within n watch t hart) more ∙ quiet-more left t quiet ∙ ap (λ (x : State). suc (quiet_within left watch x hart)) (sym is)

      counted : quiet_within most watch s hart ≡ (steps + 1) + quiet_within left watch u hart
      counted = let before = gone.count in omega (arith, before, rest)

      led : (n : ℕ) → after_steps hart n u ≡ after_steps hart ((steps + 1) + n) s
      led n =
          let one : steps + suc n ≡ (steps + 1) + n = omega arith in
          ap (after_steps hart n) is ∙ sym (run_state-cons t (Step hart) (replicate n (Step hart))) ∙ gone.state (suc n) ∙ ap (λ (k : ℕ). after_steps hart k s) one

  -- the state after them
  pub gone-state : (most : ℕ) (s t : State) (steps : ℕ) → HasGone most s t steps → t ≡ after_steps hart steps s
  gone-state most s t steps gone =
      let all : steps + 0 ≡ steps = omega arith in
      sym (run_state-nil t) ∙ gone.state 0 ∙ ap (λ (k : ℕ). after_steps hart k s) all

  -- they are all, where the next isn't quiet
  pub gone-quiet : (most : ℕ) (s t : State) (steps : ℕ) → HasGone most s t steps → is_quiet watch t hart ≡ false → steps ≡ quiet_within most watch s hart
  gone-quiet most s t steps gone is =
      let none = quiet-none (most - steps) t is in
      let count = gone.count in
      omega (arith, none, count)

  -- or where they are as many as there may be
  pub gone-all : (most : ℕ) (s t : State) (steps : ℕ) → HasGone most s t steps → steps ≡ most → most ≡ quiet_within most watch s hart
  gone-all most s t steps gone is =
      let left : most - steps ≡ 0 = omega (arith, is) in
      let none = ap (λ (n : ℕ). quiet_within n watch t hart) left ∙ quiet_within-zero t in
      let count = gone.count in
      omega (arith, none, count, is)

  -- ---- a run

  -- the first step, and those after it
  pub run-count : (s t : State) (more : ℕ) → t ≡ (event_of s (Step hart)).state → more ≡ quiet_steps watch t hart → more + 1 ≡ suc (quiet_steps watch (after_step s hart) hart)
  run-count s t more is all =
      let one : more + 1 ≡ suc more = omega arith in
      one ∙ ap suc (all ∙ ap (λ (x : State). quiet_steps watch x hart) is)

  pub run-state : (s t u : State) (more : ℕ) → t ≡ (event_of s (Step hart)).state → u ≡ after_steps hart more t → u ≡ after_steps hart (more + 1) s
  run-state s t u more is led =
      let one : suc more ≡ more + 1 = omega arith in
      led ∙ ap (after_steps hart more) is ∙ sym (run_state-cons s (Step hart) (replicate more (Step hart))) ∙ ap (λ (n : ℕ). after_steps hart n s) one

  -- none is quiet, and none was performed
  pub went-none : (s : State) → is_quiet watch s hart ≡ false → 0 ≡ quiet_steps watch s hart
  went-none s is = sym (quiet-none 4096 s is)

  pub none-led : (s : State) → s ≡ after_steps hart 0 s
  none-led s = sym (run_state-nil s)

  -- what one looks at is the same after a quiet step
  looks-alike : HeldLaw → (s t : State) → is_quiet watch s hart ≡ true → t ≡ (event_of s (Step hart)).state → LookAlike s t
  looks-alike law s t quiet is = subst (λ (x : State). LookAlike s x) (sym is) (law watch s hart quiet)

  -- so who comes to what is
  pub stays_after : HeldLaw → (s t : State) (r : ReachingValue) → is_quiet watch s hart ≡ true → t ≡ (event_of s (Step hart)).state → IsReaching s.store r → IsReaching t.store r
  stays_after law s t r quiet is held = reaching-kept s.store t.store r (looks-alike law s t quiet is).hold held

  -- and so are walks
  pub walks_after : HeldLaw → (s t : State) (walks : KeptWalks) → is_quiet watch s hart ≡ true → t ≡ (event_of s (Step hart)).state → AreKeptOn s hart walks → AreKeptOn t hart walks
  walks_after law s t walks quiet is kept = kept-after s t hart walks (looks-alike law s t quiet is) kept
