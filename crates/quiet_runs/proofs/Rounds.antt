-- What rounds of runs must come to, rounds of steps must: the steps pass what the runs that they
-- begin pass.
use Rattle.std.proofs.Common.{◌≡◌, ℕ, zero, suc, ◌*◌, ◌<◌, inl, inr, Bool, true, List, [], ◌∷◌, ◌++◌, sym, ◌∙◌, ap, subst, arith}
use Rattle.std.proofs.lemmas.Bool.{or_cases, or_left, or_right}
use Rattle.std.proofs.lemmas.List.Elements.{All-from_recursion, recursion_from_All}
use Rattle.std.specs.List.{concat, AllByRecursion as Each}
use Rattle.fair_rounds.specs.Rounds.{IsRound, after, passes, MustWithin}
use Rattle.machine_state.specs.State.{State}
use Rattle.quiet_runs.specs.Runs.{Watch, RunsAreQuiet, SeesOnly, after_step, after_run}
use Rattle.quiet_runs.specs.Begun.{UnderWay, none_under_way, stepped, on_step, begun_by, begun, begun_from}
use Rattle.quiet_runs.specs.RoundLaws.{AreShort, PassingLaw, MustLaw, AlwaysLaw}
use Rattle.quiet_runs.proofs.Running.{runs-after, steps-after}
use Rattle.quiet_runs.proofs.Beginning.{begun-of, begun-state, IsShort, short-steps, round-choices, rounds-begun}
use Rattle.quiet_runs.proofs.Simulating.{Behind, behind-none, behind-steps, is_behind, next}

module _ (count : ℕ) (watch : Watch) (more : State → ℕ → ℕ) (quiet : RunsAreQuiet watch more) where
  abbrev which : ℕ → Type 0
  which h = h < count

  abbrev Follows : State → UnderWay → Type 0
  Follows s u = Behind count watch more quiet s u

  -- a test sees no difference between a state and that of what is under way
  sees-behind : (test : State → Bool) → SeesOnly watch test → (s : State) (u : UnderWay)
      → Follows s u → test s ≡ test u.state
  sees-behind test sees s u behind =
      let is = is_behind count watch more quiet s u behind in sees s u.state is.same

  module _ (goal : State → Bool) (sees : SeesOnly watch goal) where
    -- ---- passing

    pub passing : (s : State) (u : UnderWay) (harts : List ℕ) → Each which harts → Follows s u
        → passes (after_run more) goal u.state (begun more u harts) ≡ true
        → passes after_step goal s harts ≡ true
    passing s u [] all behind is = sees-behind goal sees s u behind ∙ is
    passing s u (h ∷ harts) all behind is =
        on (u.left h) (λ v follows passed. passing (after_step s h) v harts all.1 follows passed)
        (next count watch more quiet s u h all.0 behind) is
      where
        on : (n : ℕ) →
            ((v : UnderWay) → Follows (after_step s h) v → passes (after_run more) goal v.state
            (begun more v harts) ≡ true → passes after_step goal (after_step s h) harts ≡ true)
            → Follows (after_step s h) (stepped more u h n)
            → passes (after_run more) goal u.state
            (begun_by n h ++ begun more (stepped more u h n) harts) ≡ true
            → passes after_step goal s (h ∷ harts) ≡ true
        on zero rest follows is =
            elim (or_cases (goal u.state)
            (passes (after_run more) goal (after_run more u.state h)
            (begun more (stepped more u h zero) harts)) is) [
              | inl now ↦ or_left (goal s) (passes after_step goal (after_step s h) harts)
                  (sees-behind goal sees s u behind ∙ now)
              | inr later ↦ or_right (goal s) (passes after_step goal (after_step s h) harts)
                  (rest (stepped more u h zero) follows later)
            ]
        on (suc n) rest follows is =
            or_right (goal s) (passes after_step goal (after_step s h) harts)
            (rest (stepped more u h (suc n)) follows is)

    -- ---- must

    module _ (most : ℕ) (short : AreShort most more) where
      -- from a state that is behind
      pub must-behind : (s : State) (u : UnderWay) (rounds : ℕ) → Follows s u
          → IsShort more most short u
          → MustWithin (after_run more) goal count u.state rounds
          → MustWithin after_step goal count s (rounds * suc most)
      must-behind s u n behind few must rounds many are =
          let runs = rounds-begun more most short count n u rounds few many are in
          passing s u (concat rounds)
          (round-choices more most short count rounds
          (recursion_from_All (IsRound count) rounds are)) behind
          (subst (λ (path : List ℕ). passes (after_run more) goal u.state path ≡ true) runs.parts
          (must runs.rounds runs.many runs.are))

      pub must : (s : State) (rounds : ℕ) → MustWithin (after_run more) goal count s rounds
          → MustWithin after_step goal count s (rounds * suc most)
      must s n =
          must-behind s (none_under_way s) n (behind-none count watch more quiet s)
          (λ h. omega arith)

pub passing_law : PassingLaw
passing_law count watch more goal quiet sees s harts all is =
    passing count watch more quiet goal sees s (none_under_way s) harts all
    (behind-none count watch more quiet s) is

pub must_law : MustLaw
must_law count watch more most goal s n quiet short sees within =
    must count watch more quiet goal sees most short s n within

pub always_law : AlwaysLaw
always_law count watch more most goal first s n quiet short sees first_sees always stem all begins =
    let none = none_under_way s in
    let u = after (on_step more) none stem in
    let t = after after_step s stem in
    let harts = recursion_from_All (λ (c : ℕ). c < count) stem all in
    let behind : Behind count watch more quiet t u =
    subst (λ (r : State). Behind count watch more quiet r u) (steps-after s stem)
    (behind-steps count watch more quiet s none stem harts
    (behind-none count watch more quiet s)) in
    let there : u.state ≡ after (after_run more) s (begun_from more s stem) =
    begun-state more none stem ∙ runs-after more s (begun_from more s stem) in
    let choices =
    All-from_recursion (λ (c : ℕ). c < count) (begun_from more s stem)
    (begun-of more (λ (c : ℕ). c < count) none stem harts) in
    let comes =
    always (begun_from more s stem) choices
    (ap first (sym there)
    ∙ (sym (sees-behind count watch more quiet first first_sees t u behind) ∙ begins)) in
    must-behind count watch more quiet goal sees most short t u n behind
    (short-steps more most short none stem (λ h. omega arith))
    (subst (λ (r : State). MustWithin (after_run more) goal count r n) (sym there) comes)
