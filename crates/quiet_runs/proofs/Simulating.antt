-- The simulation: a machine that is stepped stays behind one whose harts are run.
use Rattle.std.proofs.Common.{◌≡◌, ℕ, zero, suc, ◌<◌, ◌⊎◌, inl, inr, Bool, true, false, List, [], ◌∷◌, ◌++◌, replicate, refl, sym, ◌∙◌, ap, subst}
use Rattle.std.specs.List.{AllByRecursion as Each}
use Rattle.fair_rounds.specs.Rounds.{after}
use Rattle.machine_state.specs.State.{State}
use Rattle.quiet_runs.specs.Runs.{after_step, after_steps, after_run, after_runs, Watch, AreQuiet, RunsAreQuiet, SameFor}
use Rattle.quiet_runs.specs.Begun.{UnderWay, none_under_way, with_left, stepped, on_step, begun_from}
use Rattle.quiet_runs.specs.Laws.{AreHarts, IsBehind, SimulationLaw, NeverLaw, CanCome, EverLaw}
use Rattle.quiet_runs.specs.RoundLaws.{TakePlace, BegunLaw}
use Rattle.quiet_runs.proofs.Steps.{after-append, after-none, after-more, by, halted-step, quiet-runs}
use Rattle.quiet_runs.proofs.Lags.{Lag, ahead, NotOf, steps_of, without, harts_in, ahead-steps, AllQuiet, all-behind, ahead-same, ahead-order, ahead-either, ahead-both, ahead-earlier, lag, taken, told-with, AllOf, each-append, each-copies, harts-of, without-of}
use Rattle.quiet_runs.proofs.Running.{run-is}
use Rattle.quiet_runs.proofs.Beginning.{begun-of, begun-few, begun-state}

module _ (count : ℕ) (watch : Watch) (more : State → ℕ → ℕ)
    (quiet_runs : RunsAreQuiet watch more) where
  -- a hart of the machine
  abbrev pub which : ℕ → Type 0
  which h = h < count

  -- a state is behind runs that are under way: quiet steps of harts lead to where the runs do, as
  -- many of each as it has left
  pub record Lagging (s : State) (u : UnderWay) : Type 0 where
    pub lags : List Lag
    pub of : AllOf which lags
    pub quiet : AllQuiet watch s lags
    pub there : ahead s lags ≡ u.state
    pub told : (h : ℕ) → steps_of h lags ≡ u.left h

  -- both are halted, and one sees the same
  pub record Ended (s t : State) : Type 0 where
    pub first : s.halted ≡ true
    pub second : t.halted ≡ true
    pub same : SameFor watch s t

  abbrev pub Behind : State → UnderWay → Type 0
  Behind s u = Ended s u.state ⊎ Lagging s u

  -- each state is, where none is under way
  pub behind-none : (s : State) → Behind s (none_under_way s)
  behind-none s = inr (record { lags = []; of = tt; quiet = tt; there = refl; told = λ h. refl })

  -- ---- a step

  -- where a run after a state that is halted is over at once
  more-none : (t : State) (h m : ℕ) → t.halted ≡ true → AreQuiet watch m t h → by m t h ≡ t
  more-none t h zero halted quiet = refl
  more-none t h (suc m) halted quiet =
      let first = quiet.0 in
      let is = first.by in
      let no : true ≡ false = sym halted ∙ is.runs in
      absurd (cc (no))

  -- so a run of a machine that is halted does nothing
  run-halted : (t : State) (h : ℕ) → t.halted ≡ true → after_run more t h ≡ t
  run-halted t h halted =
      run-is more t h
      ∙ (ap (λ (r : State). by (more r h) r h) (halted-step t h halted)
      ∙ more-none t h (more t h) halted (quiet_runs t h))

  -- a step of a machine that is halted: nothing happens
  next-ended : (s : State) (u : UnderWay) (h n : ℕ) → Ended s u.state
      → Ended (after_step s h) (stepped more u h n).state
  next-ended s u h n ended =
      subst (λ (r : State). Ended r (stepped more u h n).state) (sym (halted-step s h ended.first))
      (subst (Ended s) (sym (still n)) ended)
    where
      still : (n : ℕ) → (stepped more u h n).state ≡ u.state
      still zero = run-halted u.state h ended.second
      still (suc n) = refl

  -- a step of a hart that is ahead: it comes nearer
  next-nearer : (s : State) (u : UnderWay) (h n : ℕ) (rest : List Lag) → which h → AllOf which rest
      → AreQuiet watch (suc n) s h
      → NotOf h rest → AllQuiet watch s rest → ahead (by (suc n) s h) rest ≡ u.state
      → ((g : ℕ) → steps_of g (lag watch h n ∷ rest) ≡ with_left u.left h n g)
      → Behind (after_step s h) (stepped more u h (suc n))
  next-nearer s u h n rest is of quiet apart all there told = inr (record {
    lags = lag watch h n ∷ rest;
    of = (is, of);
    quiet = (quiet.1, apart, all-behind watch s h rest apart all (quiet-runs watch s h quiet.0));
    there = there;
    told = told;
  })

  -- a step of a hart that isn't ahead: it is run
  next-run : (s : State) (u : UnderWay) (h : ℕ) (rest : List Lag) → which h → AllOf which rest
      → NotOf h rest → AllQuiet watch s rest → ahead s rest ≡ u.state
      → ((n g : ℕ) → steps_of g (lag watch h n ∷ rest) ≡ with_left u.left h n g)
      → Behind (after_step s h) (stepped more u h zero)
  next-run s u h rest is of apart all there told = on (after_step s h).halted refl
    where
      t : State
      t = after_step u.state h

      m : ℕ
      m = more t h

      run : after_run more u.state h ≡ by m t h
      run = run-is more u.state h

      on : (b : Bool) → (after_step s h).halted ≡ b
          → Behind (after_step s h) (stepped more u h zero)
      on true halted =
          let seen : SameFor watch (after_step s h) t =
          subst (λ (r : State). SameFor watch (after_step s h) (after_step r h)) there
          (ahead-either watch s h rest apart all) in
          let shape = seen.same in
          let ended : t.halted ≡ true = sym shape.halted ∙ halted in
          let still : after_run more u.state h ≡ t = run ∙ more-none t h m ended (quiet_runs t h) in
          inl (record {
            first = halted;
            second = ap (λ (r : State). r.halted) still ∙ ended;
            same = subst (SameFor watch (after_step s h)) (sym still) seen;
          })
      on false runs =
          let order : t ≡ ahead (after_step s h) rest =
          ap (λ (r : State). after_step r h) (sym there)
          ∙ ahead-order watch s h rest apart all runs in
          let behind = all-behind watch s h rest apart all runs in
          let first =
          ahead-earlier watch m (after_step s h) h rest apart behind
          (subst (λ (r : State). AreQuiet watch m r h) order (quiet_runs t h)) in
          inr (record {
            lags = lag watch h m ∷ rest;
            of = (is, of);
            quiet = (first, apart, behind);
            there = sym
                (run ∙ (ap (λ (r : State). by m r h) order
                ∙ ahead-both watch m (after_step s h) h rest apart behind first));
            told = told m;
          })

  next-lagging : (s : State) (u : UnderWay) (h : ℕ) → which h → Lagging s u
      → Behind (after_step s h) (on_step more u h)
  next-lagging s u h is lagging =
      let take = taken watch h s lagging.lags lagging.quiet in
      let many = lagging.told h in
      on (u.left h) (subst (λ (n : ℕ). AreQuiet watch n s h) many take.quiet)
      (subst (λ (n : ℕ). ahead (by n s h) (without h lagging.lags) ≡ u.state) many
      (sym take.same ∙ lagging.there)) take.apart take.rest
    where
      rest : List Lag
      rest = without h lagging.lags

      told : (n g : ℕ) → steps_of g (lag watch h n ∷ rest) ≡ with_left u.left h n g
      told n = told-with watch h n lagging.lags u.left lagging.told

      on : (n : ℕ) → AreQuiet watch n s h → ahead (by n s h) rest ≡ u.state → NotOf h rest
          → AllQuiet watch s rest → Behind (after_step s h) (stepped more u h n)
      on zero quiet there apart all =
          next-run s u h rest is (without-of which h lagging.lags lagging.of) apart all there told
      on (suc n) quiet there apart all =
          next-nearer s u h n rest is
          (without-of which h lagging.lags lagging.of) quiet apart all there (told n)

  pub next : (s : State) (u : UnderWay) (h : ℕ) → which h → Behind s u
      → Behind (after_step s h) (on_step more u h)
  next s u h is (inl ended) = inl (next-ended s u h (u.left h) ended)
  next s u h is (inr lagging) = next-lagging s u h is lagging

  -- ---- many steps

  pub is_behind : (s : State) (u : UnderWay) → Behind s u → IsBehind count watch s u.state
  is_behind s u (inl ended) = record { same = ended.same; leads = inl ended.first }
  is_behind s u (inr lagging) = record {
    same = subst (SameFor watch s) lagging.there (ahead-same watch s lagging.lags lagging.quiet);
    leads = inr (record {
      harts = harts_in lagging.lags;
      of = harts-of which lagging.lags lagging.of;
      there = ahead-steps s lagging.lags ∙ lagging.there;
    });
  }

  pub behind-steps : (s : State) (u : UnderWay) (harts : List ℕ) → Each which harts → Behind s u
      → Behind (after_steps s harts) (after (on_step more) u harts)
  behind-steps s u [] all behind = subst (λ (r : State). Behind r u) (sym (after-none s)) behind
  behind-steps s u (h ∷ harts) all behind =
      subst (λ (r : State). Behind r (after (on_step more) (on_step more u h) harts))
      (sym (after-more s h harts))
      (behind-steps (after_step s h) (on_step more u h) harts all.1 (next s u h all.0 behind))

  -- the runs that steps begin take their place
  pub begun-simulates : (s : State) (harts : List ℕ) → Each which harts
      → TakePlace count watch more s harts (begun_from more s harts)
  begun-simulates s harts all =
      let none = none_under_way s in
      record {
        of = begun-of more which none harts all;
        few = begun-few more none harts;
        behind = subst (IsBehind count watch (after_steps s harts)) (begun-state more none harts)
            (is_behind (after_steps s harts) (after (on_step more) none harts)
            (behind-steps s none harts all (behind-none s)));
      }

-- the laws
pub begun_law : BegunLaw
begun_law count watch more quiet s harts all = begun-simulates count watch more quiet s harts all

pub simulation_law : SimulationLaw
simulation_law count watch more quiet s harts all =
    let takes = begun_law count watch more quiet s harts all in
    record { runs = begun_from more s harts; of = takes.of; few = takes.few; behind = takes.behind }

-- what holds after no runs holds after no steps
pub never_law : NeverLaw
never_law count watch more test s quiet sees never harts all =
    let simulation = simulation_law count watch more quiet s harts all in
    let behind = simulation.behind in
    sees (after_steps s harts) (after_runs more s simulation.runs) behind.same
    ∙ never simulation.runs simulation.of

-- ---- ever

-- runs are steps
record AsSteps (count : ℕ) (more : State → ℕ → ℕ) (s : State) (runs : List ℕ) : Type 0 where
  harts : List ℕ
  of : AreHarts count harts
  there : after_steps s harts ≡ after_runs more s runs

run-steps : (count : ℕ) (more : State → ℕ → ℕ) (s : State) (runs : List ℕ) → AreHarts count runs
    → AsSteps count more s runs
unfolding after_runs
run-steps count more s [] all = record { harts = []; of = tt; there = after-none s }
run-steps count more s (h ∷ runs) all =
    let rest = run-steps count more (after_run more s h) runs all.1 in
    let copies = replicate (more (after_step s h) h) h in
    record {
      harts = (h ∷ copies) ++ rest.harts;
      of = each-append (λ (hart : ℕ). hart < count) (h ∷ copies) rest.harts (
        all.0,
        each-copies (λ (hart : ℕ). hart < count)
            (more (after_step s h) h) h all.0,
      ) rest.of;
      there = after-append s (h ∷ copies) rest.harts ∙ rest.there;
    }

-- of a machine that is halted they make nothing
halted-steps : (s : State) (harts : List ℕ) → s.halted ≡ true → after_steps s harts ≡ s
halted-steps s [] halted = after-none s
halted-steps s (h ∷ harts) halted =
    after-more s h harts
    ∙ (ap (λ (t : State). after_steps t harts) (halted-step s h halted)
    ∙ halted-steps s harts halted)

-- what can come after runs can come after steps
pub ever_law : EverLaw
ever_law count watch more test s quiet sees ever harts all =
    let simulation = simulation_law count watch more quiet s harts all in
    let behind = simulation.behind in
    let can = ever simulation.runs simulation.of in
    let t = after_runs more s simulation.runs in
    let on = run-steps count more t can.runs can.of in
    let comes : test (after_steps t on.harts) ≡ true = ap test on.there ∙ can.holds in
    from (after_steps s harts) t behind on.harts on.of comes
  where
    from : (r t : State) → IsBehind count watch r t → (hs : List ℕ) → AreHarts count hs
        → test (after_steps t hs) ≡ true → CanCome count test r
    from r t behind hs of comes = elim behind.leads [
      | inl halted ↦
          let same = behind.same in
          let shape = same.same in
          let stays = halted-steps t hs (sym shape.halted ∙ halted) in
          record {
            harts = [];
            of = tt;
            holds = ap test (after-none r) ∙ (sees r t behind.same ∙ (ap test (sym stays) ∙ comes));
          }
      | inr leads ↦ record {
        harts = leads.harts ++ hs;
        of = each-append (λ (hart : ℕ). hart < count) leads.harts hs leads.of of;
        holds = ap test (after-append r leads.harts hs)
            ∙ (ap (λ (u : State). test (after_steps u hs)) leads.there ∙ comes);
      }
    ]
