-- How many slots choices read, step by step.
use Rattle.std.proofs.Common.{◌≡◌, ◌∙◌, ℕ, zero, suc, ◌+◌, ◌-◌, ◌*◌, ◌<◌, ◌≤◌, true, List, ◌∷◌, length, get_or, drop, replicate, refl, ap, arith}
use Rattle.std.proofs.lemmas.List.{at_drop_more}
use Rattle.object_store.specs.declared.sizes.Sizes.{Sizes}
use Rattle.machine_state.specs.declared.event.Event.TheVariants.{Step}
use Rattle.machine_state.specs.State.{State}
use Rattle.kernel_core.specs.Event.{event_of}
use Rattle.kernel_core.proofs.Ran.{run_state-cons}
use Rattle.event_reach.specs.Reads.{a_plain_look}
use Rattle.state_parts.specs.declared.key.Key.{Key}
use Rattle.state_parts.specs.Slots.{event_slots}
use Rattle.state_parts.specs.Space.{TablesValue, Held, state_in}
use Rattle.quiet_runs.specs.Runs.{Watch}
use Rattle.quiet_runs.specs.Finding.{is_quiet, quiet_within}
use Rattle.questions.specs.declared.choice.Choice.{Choice}
use Rattle.questions.specs.Choice.{after_choice, choice_at}
use Rattle.state_choices.specs.Slots.{sum_below, all_slots, steps_slots, looks_slots, made_slots, path_slots}
use Rattle.state_choices.specs.Steps.{after_steps}
use Rattle.state_choices.proofs.Performed.{steps-none}
use Rattle.state_choices.proofs.Quiet.{quiet-more}

-- ---- sums

sum-none : (of : ℕ → ℕ) → sum_below of 0 ≡ 0
unfolding sum_below
sum-none of = refl

sum-more : (of : ℕ → ℕ) (n : ℕ) → sum_below of (suc n) ≡ sum_below of n + of n
unfolding sum_below
sum-more of n = refl

-- ---- steps of a hart

-- the first of so many, and the others from where it leads
steps_slots-front : (hart n : ℕ) (s : State) → steps_slots hart (suc n) s ≡ event_slots s (Step hart) + steps_slots hart n (event_of s (Step hart)).state
steps_slots-front hart zero s =
    let one = sum-more (λ (i : ℕ). event_slots (after_steps hart i s) (Step hart)) 0 in
    let none = sum-none (λ (i : ℕ). event_slots (after_steps hart i s) (Step hart)) in
    let behind = sum-none (λ (i : ℕ). event_slots (after_steps hart i (event_of s (Step hart)).state) (Step hart)) in
    let first = ap (λ (x : State). event_slots x (Step hart)) (steps-none hart s) in
    omega (arith, one, none, behind, first)
steps_slots-front hart (suc n) s =
    let last = sum-more (λ (i : ℕ). event_slots (after_steps hart i s) (Step hart)) (suc n) in
    let before = steps_slots-front hart n s in
    let behind = sum-more (λ (i : ℕ). event_slots (after_steps hart i (event_of s (Step hart)).state) (Step hart)) n in
    let same = ap (λ (x : State). event_slots x (Step hart)) (run_state-cons s (Step hart) (replicate n (Step hart))) in
    omega (arith, last, before, behind, same)

-- the same of those that are left
pub steps_slots-next : (hart times performed : ℕ) (s t : State) → performed < times → t ≡ (event_of s (Step hart)).state
    → steps_slots hart (times - performed) s ≡ event_slots s (Step hart) + steps_slots hart (times - (performed + 1)) t
steps_slots-next hart times performed s t below is =
    let more : times - performed ≡ suc (times - (performed + 1)) = omega (arith, below) in
    let all = ap (λ (n : ℕ). steps_slots hart n s) more in
    let front = steps_slots-front hart (times - (performed + 1)) s in
    let rest = ap (steps_slots hart (times - (performed + 1))) is in
    omega (arith, all, front, rest)

-- of those that are left, one is too many where memory is wanting
pub steps_slots-one : (hart times performed : ℕ) (s : State) → performed < times → event_slots s (Step hart) ≤ steps_slots hart (times - performed) s
steps_slots-one hart times performed s below = let next = steps_slots-next hart times performed s (event_of s (Step hart)).state below refl in omega (arith, next)

-- ---- quiet steps

module _ (watch : Watch) (hart : ℕ) where
  -- one that is quiet, and those behind it
  pub looks_slots-next : (most steps : ℕ) (s t : State) → steps < most → is_quiet watch s hart ≡ true → t ≡ (event_of s (Step hart)).state
      → looks_slots hart (quiet_within (most - steps) watch s hart) s
      ≡ a_plain_look + event_slots s (Step hart) + looks_slots hart (quiet_within (most - (steps + 1)) watch t hart) t
  looks_slots-next most steps s t below quiet is =
      let left : ℕ = most - (steps + 1) in
      let more : most - steps ≡ suc left = omega (arith, below) in
      let next = (event_of s (Step hart)).state in
      let times : quiet_within (most - steps) watch s hart ≡ suc (quiet_within left watch next hart) = ap (λ (n : ℕ). quiet_within n watch s hart) more ∙ quiet-more watch hart left s quiet in
      let all = ap (λ (n : ℕ). looks_slots hart n s) times in
      let front = steps_slots-front hart (quiet_within left watch next hart) s in
      let rest = ap (λ (x : State). looks_slots hart (quiet_within left watch x hart) x) is in
      omega (arith, all, front, rest)

-- ---- choices

-- there are as many GPTs in the state of a key as in all
pub all_slots-held : (t : TablesValue) (key : Key) → Held t key → all_slots (state_in t key) ≡ 16 * t.sizes.gpts
all_slots-held t key held = ap (λ (z : Sizes). 16 * z.gpts) held.kept.sizes

module _ (watch : Watch) (choices : List Choice) where
  path_slots-cons : (s : State) (i : ℕ) (path : List ℕ) → path_slots watch choices s (i ∷ path)
      ≡ made_slots watch s (choice_at choices i) + path_slots watch choices (after_choice watch s (choice_at choices i)) path
  unfolding path_slots
  path_slots-cons s i path = refl

  -- the next of a path, and those behind it
  pub path_slots-next : (s t : State) (path : List ℕ) (place e : ℕ) (c : Choice) → place < length path → c ≡ choice_at choices (get_or path place e) → t ≡ after_choice watch s c
      → path_slots watch choices s (drop place path) ≡ made_slots watch s c + path_slots watch choices t (drop (place + 1) path)
  path_slots-next s t path place e c below is led =
      let rest = drop (place + 1) path in
      let i = get_or path place e in
      let next = at_drop_more (λ (left : List ℕ). path_slots watch choices s left) path place e below ∙ path_slots-cons s i rest in
      let made = ap (made_slots watch s) is in
      let here = ap (λ (x : State). path_slots watch choices x rest) (led ∙ ap (after_choice watch s) is) in
      omega (arith, next, made, here)
