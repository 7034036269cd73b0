-- How far the processes of several harts are ahead: for each hart a number of steps, all of them quiet from the state on.
use Rattle.std.proofs.Common.{◌≡◌, ◌≢◌, ℕ, zero, suc, ◌==◌, Bool, true, false, if◌then◌else◌, List, [], ◌∷◌, ◌++◌, replicate, refl, sym, ◌∙◌, ap, subst, eqb-true}
use Rattle.std.proofs.lemmas.Bool.{eqb-false, ne_eqb}
use Rattle.std.specs.List.{AllByRecursion as Each}
use Rattle.machine_state.specs.State.{State}
use Rattle.quiet_runs.specs.Runs.{after_step, after_steps, Watch, AreQuiet, SameFor}
use Rattle.quiet_runs.specs.Begun.{with_left}
use Rattle.quiet_runs.proofs.Steps.{after-append, after-none, by, by-steps, same-itself, same-then, many-same, many-halted, many-behind, many-order, many-either, many-both, both-order, all-earlier}

-- so many steps of a hart
pub record Lag : Type 0 where
  pub hart : ℕ
  pub steps : ℕ

-- the state after all of them
abbrev pub ahead : State → List Lag → State
ahead s [] = s
ahead s (l ∷ ls) = ahead (by l.steps s l.hart) ls

-- none of them is of this hart
abbrev pub NotOf : ℕ → List Lag → Type 0
NotOf h [] = Unit {0}
NotOf h (l ∷ ls) = (h ≢ l.hart) × NotOf h ls

-- the steps of a hart among them
abbrev pub steps_of : ℕ → List Lag → ℕ
steps_of h [] = 0
steps_of h (l ∷ ls) = if h == l.hart then l.steps else steps_of h ls

-- all but those
abbrev pub without : ℕ → List Lag → List Lag
without h [] = []
without h (l ∷ ls) = if h == l.hart then ls else l ∷ without h ls

-- as steps of harts
abbrev pub harts_in : List Lag → List ℕ
harts_in [] = []
harts_in (l ∷ ls) = replicate l.steps l.hart ++ harts_in ls

module _ (which : ℕ → Type 0) where
  -- all of them are of such harts
  abbrev pub AllOf : List Lag → Type 0
  AllOf [] = Unit {0}
  AllOf (l ∷ ls) = which l.hart × AllOf ls

  -- what holds of each of two lists holds of both
  pub each-append : (xs ys : List ℕ) → Each which xs → Each which ys → Each which (xs ++ ys)
  each-append [] ys first second = second
  each-append (x ∷ xs) ys first second = (first.0, each-append xs ys first.1 second)

  -- and of copies
  pub each-copies : (n h : ℕ) → which h → Each which (replicate n h)
  each-copies zero h is = tt
  each-copies (suc n) h is = (is, each-copies n h is)

  -- so their steps are
  pub harts-of : (ls : List Lag) → AllOf ls → Each which (harts_in ls)
  harts-of [] all = tt
  harts-of (l ∷ ls) all = each-append (replicate l.steps l.hart) (harts_in ls) (each-copies l.steps l.hart all.0) (harts-of ls all.1)

  -- and those but of one
  pub without-of : (h : ℕ) (ls : List Lag) → AllOf ls → AllOf (without h ls)
  without-of h [] all = tt
  without-of h (l ∷ ls) all = on (h == l.hart) (without-of h ls all.1)
    where
      on : (b : Bool) → AllOf (without h ls) → AllOf (if b then ls else l ∷ without h ls)
      on true rest = all.1
      on false rest = (all.0, rest)

-- they lead there
pub ahead-steps : (s : State) (ls : List Lag) → after_steps s (harts_in ls) ≡ ahead s ls
ahead-steps s [] = after-none s
ahead-steps s (l ∷ ls) =
    after-append s (replicate l.steps l.hart) (harts_in ls)
    ∙ (ap (λ (t : State). after_steps t (harts_in ls)) (by-steps l.steps s l.hart) ∙ ahead-steps (by l.steps s l.hart) ls)

module _ (watch : Watch) where
  -- all of them are quiet from this state on, and no hart has two
  abbrev pub AllQuiet : State → List Lag → Type 0
  AllQuiet s [] = Unit {0}
  AllQuiet s (l ∷ ls) = AreQuiet watch l.steps s l.hart × NotOf l.hart ls × AllQuiet s ls

  -- ---- after steps of another hart

  -- after quiet ones
  all-both : (m : ℕ) (s : State) (g : ℕ) (ls : List Lag) → AreQuiet watch m s g → NotOf g ls → AllQuiet s ls → AllQuiet (by m s g) ls
  all-both m s g [] quiet apart all = tt
  all-both m s g (l ∷ ls) quiet apart all = (many-both watch m l.steps s l.hart g apart.0 all.0 quiet, all.1, all-both m s g ls quiet apart.1 all.2)

  -- after one that doesn't halt the machine
  pub all-behind : (s : State) (g : ℕ) (ls : List Lag) → NotOf g ls → AllQuiet s ls → (after_step s g).halted ≡ false → AllQuiet (after_step s g) ls
  all-behind s g [] apart all runs = tt
  all-behind s g (l ∷ ls) apart all runs = (many-behind watch l.steps s l.hart g apart.0 all.0 runs, all.1, all-behind s g ls apart.1 all.2 runs)

  -- the rest is quiet after the first
  rest-quiet : (s : State) (l : Lag) (ls : List Lag) → AllQuiet s (l ∷ ls) → AllQuiet (by l.steps s l.hart) ls
  rest-quiet s l ls all = all-both l.steps s l.hart ls all.0 all.1 all.2

  -- ---- what is seen

  -- they make no difference
  pub ahead-same : (s : State) (ls : List Lag) → AllQuiet s ls → SameFor watch s (ahead s ls)
  ahead-same s [] all = same-itself watch s
  ahead-same s (l ∷ ls) all =
      same-then watch s (by l.steps s l.hart) (ahead (by l.steps s l.hart) ls) (many-same watch l.steps s l.hart all.0)
      (ahead-same (by l.steps s l.hart) ls (rest-quiet s l ls all))

  -- ---- a step of another hart may come first

  -- the first lag, where the step comes first
  first-runs : (s : State) (g : ℕ) (l : Lag) → g ≢ l.hart → AreQuiet watch l.steps s l.hart → (after_step s g).halted ≡ false → (after_step (by l.steps s l.hart) g).halted ≡ false
  first-runs s g l apart quiet runs =
      ap (λ (t : State). t.halted) (many-order watch l.steps s l.hart g apart quiet runs)
      ∙ (many-halted watch l.steps (after_step s g) l.hart (many-behind watch l.steps s l.hart g apart quiet runs) ∙ runs)

  -- where it doesn't halt the machine, both lead to the same
  pub ahead-order : (s : State) (g : ℕ) (ls : List Lag) → NotOf g ls → AllQuiet s ls → (after_step s g).halted ≡ false → after_step (ahead s ls) g ≡ ahead (after_step s g) ls
  ahead-order s g [] apart all runs = refl
  ahead-order s g (l ∷ ls) apart all runs =
      ahead-order (by l.steps s l.hart) g ls apart.1 (rest-quiet s l ls all) (first-runs s g l apart.0 all.0 runs)
      ∙ ap (λ (t : State). ahead t ls) (many-order watch l.steps s l.hart g apart.0 all.0 runs)

  -- where it halts it, one sees the same
  pub ahead-either : (s : State) (g : ℕ) (ls : List Lag) → NotOf g ls → AllQuiet s ls → SameFor watch (after_step s g) (after_step (ahead s ls) g)
  ahead-either s g [] apart all = same-itself watch (after_step s g)
  ahead-either s g (l ∷ ls) apart all =
      same-then watch (after_step s g) (after_step (by l.steps s l.hart) g) (after_step (ahead (by l.steps s l.hart) ls) g)
      (many-either watch l.steps s l.hart g apart.0 all.0) (ahead-either (by l.steps s l.hart) g ls apart.1 (rest-quiet s l ls all))

  -- quiet steps of another hart may come first
  pub ahead-both : (m : ℕ) (s : State) (g : ℕ) (ls : List Lag) → NotOf g ls → AllQuiet s ls → AreQuiet watch m s g → by m (ahead s ls) g ≡ ahead (by m s g) ls
  ahead-both m s g [] apart all quiet = refl
  ahead-both m s g (l ∷ ls) apart all quiet =
      ahead-both m (by l.steps s l.hart) g ls apart.1 (rest-quiet s l ls all) (many-both watch l.steps m s g l.hart (λ same. apart.0 (sym same)) quiet all.0)
      ∙ ap (λ (t : State). ahead t ls) (both-order watch m l.steps s l.hart g apart.0 all.0 quiet)

  -- what is quiet after all was so before
  pub ahead-earlier : (m : ℕ) (s : State) (g : ℕ) (ls : List Lag) → NotOf g ls → AllQuiet s ls → AreQuiet watch m (ahead s ls) g → AreQuiet watch m s g
  ahead-earlier m s g [] apart all later = later
  ahead-earlier m s g (l ∷ ls) apart all later =
      all-earlier watch l.steps m s l.hart g apart.0 all.0 (ahead-earlier m (by l.steps s l.hart) g ls apart.1 (rest-quiet s l ls all) later)

  -- ---- one hart in front

  -- the lag of a hart
  abbrev pub lag : ℕ → ℕ → Lag
  lag h n = record { hart = h; steps = n }

  -- those of another hart are as many without one's
  steps-without : (g h : ℕ) (ls : List Lag) → g ≢ h → steps_of g (without h ls) ≡ steps_of g ls
  steps-without g h [] apart = refl
  steps-without g h (l ∷ ls) apart = on (h == l.hart) refl (steps-without g h ls apart)
    where
      on : (b : Bool) → (h == l.hart) ≡ b → steps_of g (without h ls) ≡ steps_of g ls → steps_of g (if b then ls else l ∷ without h ls) ≡ steps_of g (l ∷ ls)
      on true e rest = sym (ap (λ (b : Bool). if b then l.steps else steps_of g ls) (ne_eqb g l.hart (λ same. apart (same ∙ sym (eqb-true h l.hart e)))))
      on false e rest = ap (λ (n : ℕ). if g == l.hart then l.steps else n) rest

  -- so only those of that hart change where it is given others
  pub told-with : (h n : ℕ) (ls : List Lag) (left : ℕ → ℕ) → ((g : ℕ) → steps_of g ls ≡ left g) → (g : ℕ) → steps_of g (lag h n ∷ without h ls) ≡ with_left left h n g
  told-with h n ls left told g = on (g == h) refl
    where
      on : (b : Bool) → (g == h) ≡ b → (if b then n else steps_of g (without h ls)) ≡ (if b then n else left g)
      on true e = refl
      on false e = steps-without g h ls (eqb-false g h e) ∙ told g

  -- what is known of the lags where those of one hart are taken out
  pub record Taken (h : ℕ) (s : State) (ls : List Lag) : Type 0 where
    pub quiet : AreQuiet watch (steps_of h ls) s h
    pub apart : NotOf h (without h ls)
    pub rest : AllQuiet s (without h ls)
    pub same : ahead s ls ≡ ahead (by (steps_of h ls) s h) (without h ls)

  not-without : (g h : ℕ) (ls : List Lag) → NotOf g ls → NotOf g (without h ls)
  not-without g h [] apart = tt
  not-without g h (l ∷ ls) apart = on (h == l.hart) (not-without g h ls apart.1)
    where
      on : (b : Bool) → NotOf g (without h ls) → NotOf g (if b then ls else l ∷ without h ls)
      on true rest = apart.1
      on false rest = (apart.0, rest)

  -- they are
  pub taken : (h : ℕ) (s : State) (ls : List Lag) → AllQuiet s ls → Taken h s ls
  taken h s [] all = record { quiet = tt; apart = tt; rest = tt; same = refl }
  taken h s (l ∷ ls) all = on (h == l.hart) refl (taken h (by l.steps s l.hart) ls (rest-quiet s l ls all)) (taken h s ls all.2)
    where
      on : (b : Bool) → (h == l.hart) ≡ b → Taken h (by l.steps s l.hart) ls → Taken h s ls → Taken h s (l ∷ ls)
      on true e later now =
          let here : h ≡ l.hart = eqb-true h l.hart e in
          let steps : steps_of h (l ∷ ls) ≡ l.steps = ap (λ (b : Bool). if b then l.steps else steps_of h ls) e in
          let rest : without h (l ∷ ls) ≡ ls = ap (λ (b : Bool). if b then ls else l ∷ without h ls) e in
          record {
            quiet = subst (λ (n : ℕ). AreQuiet watch n s h) (sym steps) (subst (λ (g : ℕ). AreQuiet watch l.steps s g) (sym here) all.0);
            apart = subst (NotOf h) (sym rest) (subst (λ (g : ℕ). NotOf g ls) (sym here) all.1);
            rest = subst (AllQuiet s) (sym rest) all.2;
            same = ap (λ (g : ℕ). ahead (by l.steps s g) ls) (sym here)
                ∙ (ap (λ (n : ℕ). ahead (by n s h) ls) (sym steps) ∙ ap (λ (rs : List Lag). ahead (by (steps_of h (l ∷ ls)) s h) rs) (sym rest));
          }
      on false e later now =
          let apart : h ≢ l.hart = eqb-false h l.hart e in
          let steps : steps_of h (l ∷ ls) ≡ steps_of h ls = ap (λ (b : Bool). if b then l.steps else steps_of h ls) e in
          let rest : without h (l ∷ ls) ≡ l ∷ without h ls = ap (λ (b : Bool). if b then ls else l ∷ without h ls) e in
          record {
            quiet = subst (λ (n : ℕ). AreQuiet watch n s h) (sym steps) now.quiet;
            apart = subst (NotOf h) (sym rest) (apart, now.apart);
            rest = subst (AllQuiet s) (sym rest) (all.0, not-without l.hart h ls all.1, now.rest);
            same = later.same
                ∙ (ap (λ (t : State). ahead t (without h ls)) (both-order watch (steps_of h ls) l.steps s l.hart h apart all.0 now.quiet)
                ∙ (ap (λ (n : ℕ). ahead (by n s h) (l ∷ without h ls)) (sym steps) ∙ ap (λ (rs : List Lag). ahead (by (steps_of h (l ∷ ls)) s h) rs) (sym rest)));
          }
