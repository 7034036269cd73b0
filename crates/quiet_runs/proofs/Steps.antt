-- Steps of one hart that are quiet, and a step of another.
use Rattle.std.proofs.Common.{◌≡◌, ◌≢◌, ℕ, zero, suc, Bool, true, false, if◌then◌else◌, List, [], ◌∷◌, ◌++◌, replicate, refl, sym, ◌∙◌, ap, subst}
use Rattle.cap_format.specs.declared.kind.CapKind.TheVariants.{Page, Process}
use Rattle.machine_state.specs.declared.event.Event.TheVariants.{Step}
use Rattle.machine_state.specs.State.{State}
use Rattle.machine_state.specs.Outcome.{done}
use Rattle.kernel_core.specs.Event.{event_by}
use Rattle.confinement.specs.declared.cut_side.CutSide.TheVariants.{Left, Right}
use Rattle.confinement.specs.Cut.{Cut, side_of}
use Rattle.independence.specs.Rewrite.{DifferOnLeft}
use Rattle.independence.specs.Quiet.{IsQuietBy}
use Rattle.independence.specs.Laws.{Independent}
use Rattle.independence.proofs.Shape.{shape-same, shape-then}
use Rattle.independence.proofs.Quieting.{quiet_law}
use Rattle.independence.proofs.Commuting.{independence_law, others_of_harts, quiet-before}
use Rattle.quiet_runs.specs.Runs.{after_step, after_steps, Watch, IsQuietFor, AreQuiet, SameFor}

-- ---- steps

-- steps after steps
pub after-append : (s : State) (gs hs : List ℕ) → after_steps s (gs ++ hs) ≡ after_steps (after_steps s gs) hs
unfolding after_steps
after-append s [] hs = refl
after-append s (g ∷ gs) hs = after-append (after_step s g) gs hs

-- none
pub after-none : (s : State) → after_steps s [] ≡ s
unfolding after_steps
after-none s = refl

-- one, and more
pub after-more : (s : State) (h : ℕ) (hs : List ℕ) → after_steps s (h ∷ hs) ≡ after_steps (after_step s h) hs
unfolding after_steps
after-more s h hs = refl

-- so many steps of one hart
abbrev pub by : ℕ → State → ℕ → State
by zero s h = s
by (suc n) s h = by n (after_step s h) h

-- which are steps
pub by-steps : (n : ℕ) (s : State) (h : ℕ) → after_steps s (replicate n h) ≡ by n s h
by-steps zero s h = after-none s
by-steps (suc n) s h = after-more s h (replicate n h) ∙ by-steps n (after_step s h) h

-- a machine that is halted does nothing
pub halted-step : (s : State) (h : ℕ) → s.halted ≡ true → after_step s h ≡ s
halted-step s h halted = ap (λ (b : Bool). (if b then done s else event_by s (Step h)).state) halted

module _ (watch : Watch) where
  -- ---- what one sees who looks at these

  -- each state is the same as itself
  pub same-itself : (s : State) → SameFor watch s s
  same-itself s = record { same = shape-same s; processes = λ p is. refl; pages = λ n is. refl }

  -- from one state by a second to a third
  pub same-then : (s t u : State) → SameFor watch s t → SameFor watch t u → SameFor watch s u
  same-then s t u first second = record {
    same = shape-then s t u first.same second.same;
    processes = λ p is. first.processes p is ∙ second.processes p is;
    pages = λ n is. first.pages n is ∙ second.pages n is;
  }

  -- what is on the left of a quiet step isn't looked at
  differ-same : (cut : Cut) (settled : ℕ → Bool) (p h : ℕ) (s t u : State) → IsQuietBy cut settled p s h → watch.processes p ≡ false → ((n : ℕ) → watch.pages n ≡ true → side_of cut Page n ≡ Right)
      → DifferOnLeft cut t u → SameFor watch t u
  differ-same cut settled p h s t u quiet unwatched pages differ = record {
    same = differ.same;
    processes = λ q is. let e = differ.right Process q (λ left. let same = quiet.alone q left in let no = sym is ∙ (ap watch.processes same ∙ unwatched) in absurd (cc (no))) in cc (e);
    pages = λ n is. let e = differ.right Page n (λ left. let no : Left ≡ Right = sym left ∙ pages n is in absurd (cc (no))) in cc (e);
  }

  -- ---- one quiet step

  -- it makes no difference to one who looks at these
  pub quiet-same : (s : State) (h : ℕ) → IsQuietFor watch s h → SameFor watch s (after_step s h)
  quiet-same s h quiet =
      let cut = quiet.cut in
      let p = quiet.process in
      let does = quiet_law cut quiet.settled p s h quiet.by in
      let doing = does.does in
      let differ = does.differs s (λ kind n right. refl) in
      differ-same cut quiet.settled p h s s (after_step s h) quiet.by quiet.unwatched quiet.pages (subst (λ (u : State). DifferOnLeft cut s u) (sym doing.state) differ)

  -- the machine isn't halted after it
  pub quiet-runs : (s : State) (h : ℕ) → IsQuietFor watch s h → (after_step s h).halted ≡ false
  quiet-runs s h quiet = let same = quiet-same s h quiet in let shape = same.same in let by = quiet.by in sym shape.halted ∙ by.runs

  -- ---- a quiet step of one hart, and a step of another

  module _ (s : State) (h g : ℕ) (quiet : IsQuietFor watch s h) (apart : g ≢ h) where
    independent : Independent quiet.cut quiet.settled quiet.process s h (Step g)
    independent = independence_law quiet.cut quiet.settled quiet.process s h (Step g) quiet.by (others_of_harts quiet.cut quiet.settled quiet.process s h g quiet.by apart)

    -- it is quiet after the other
    pub quiet-behind : (after_step s g).halted ≡ false → IsQuietFor watch (after_step s g) h
    quiet-behind runs = record { cut = quiet.cut; settled = quiet.settled; process = quiet.process; by = independent.quiet runs; unwatched = quiet.unwatched; pages = quiet.pages }

    -- both orders lead to the same state
    pub either-order : (after_step s g).halted ≡ false → after_step (after_step s h) g ≡ after_step (after_step s g) h
    either-order runs = independent.either runs

    -- and where the other halts the machine, to states that are the same for one who looks at these
    pub either-same : SameFor watch (after_step s g) (after_step (after_step s h) g)
    either-same = differ-same quiet.cut quiet.settled quiet.process h s (after_step s g) (after_step (after_step s h) g) quiet.by quiet.unwatched quiet.pages independent.differs

    -- so both are halted, or neither
    pub either-halted : (after_step (after_step s h) g).halted ≡ (after_step s g).halted
    either-halted = let same = either-same in let shape = same.same in sym shape.halted

    -- what is quiet after it was so before it
    pub quiet-earlier : IsQuietFor watch (after_step s h) g → IsQuietFor watch s g
    quiet-earlier later = record {
      cut = later.cut;
      settled = later.settled;
      process = later.process;
      by = quiet-before later.cut quiet.cut later.settled quiet.settled later.process quiet.process s g h quiet.by (λ same. apart (sym same)) later.by;
      unwatched = later.unwatched;
      pages = later.pages;
    }

  -- ---- many quiet steps of one hart

  -- they make no difference
  pub many-same : (n : ℕ) (s : State) (h : ℕ) → AreQuiet watch n s h → SameFor watch s (by n s h)
  many-same zero s h quiet = same-itself s
  many-same (suc n) s h quiet = same-then s (after_step s h) (by n (after_step s h) h) (quiet-same s h quiet.0) (many-same n (after_step s h) h quiet.1)

  -- the machine isn't halted after them, where it wasn't before
  pub many-halted : (n : ℕ) (s : State) (h : ℕ) → AreQuiet watch n s h → (by n s h).halted ≡ s.halted
  many-halted n s h quiet = let same = many-same n s h quiet in let shape = same.same in sym shape.halted

  -- they are quiet after a step of another hart
  pub many-behind : (n : ℕ) (s : State) (h g : ℕ) → g ≢ h → AreQuiet watch n s h → (after_step s g).halted ≡ false → AreQuiet watch n (after_step s g) h
  many-behind zero s h g apart quiet runs = tt
  many-behind (suc n) s h g apart quiet runs = (
    quiet-behind s h g quiet.0 apart runs,
    subst (λ (t : State). AreQuiet watch n t h) (either-order s h g quiet.0 apart runs)
        (many-behind n (after_step s h) h g apart quiet.1 (either-halted s h g quiet.0 apart ∙ runs)),
  )

  -- and the step may come first
  pub many-order : (n : ℕ) (s : State) (h g : ℕ) → g ≢ h → AreQuiet watch n s h → (after_step s g).halted ≡ false → after_step (by n s h) g ≡ by n (after_step s g) h
  many-order zero s h g apart quiet runs = refl
  many-order (suc n) s h g apart quiet runs =
      many-order n (after_step s h) h g apart quiet.1 (either-halted s h g quiet.0 apart ∙ runs)
      ∙ ap (λ (t : State). by n t h) (either-order s h g quiet.0 apart runs)

  -- where it halts the machine, one sees the same
  pub many-either : (n : ℕ) (s : State) (h g : ℕ) → g ≢ h → AreQuiet watch n s h → SameFor watch (after_step s g) (after_step (by n s h) g)
  many-either zero s h g apart quiet = same-itself (after_step s g)
  many-either (suc n) s h g apart quiet =
      same-then (after_step s g) (after_step (after_step s h) g) (after_step (by n (after_step s h) h) g)
      (either-same s h g quiet.0 apart) (many-either n (after_step s h) h g apart quiet.1)

  -- ---- many of two harts

  -- those of one are quiet after those of the other
  pub many-both : (m n : ℕ) (s : State) (h g : ℕ) → g ≢ h → AreQuiet watch n s h → AreQuiet watch m s g → AreQuiet watch n (by m s g) h
  many-both zero n s h g apart quiet others = quiet
  many-both (suc m) n s h g apart quiet others =
      many-both m n (after_step s g) h g apart (many-behind n s h g apart quiet (quiet-runs s g others.0)) others.1

  -- and either may come first
  pub both-order : (m n : ℕ) (s : State) (h g : ℕ) → g ≢ h → AreQuiet watch n s h → AreQuiet watch m s g → by m (by n s h) g ≡ by n (by m s g) h
  both-order zero n s h g apart quiet others = refl
  both-order (suc m) n s h g apart quiet others =
      let runs = quiet-runs s g others.0 in
      ap (λ (t : State). by m t g) (many-order n s h g apart quiet runs)
      ∙ both-order m n (after_step s g) h g apart (many-behind n s h g apart quiet runs) others.1

  -- what is quiet after one quiet step was so before
  pub many-earlier : (m : ℕ) (s : State) (h g : ℕ) → g ≢ h → IsQuietFor watch s h → AreQuiet watch m (after_step s h) g → AreQuiet watch m s g
  many-earlier zero s h g apart quiet later = tt
  many-earlier (suc m) s h g apart quiet later =
      let first = quiet-earlier s h g quiet apart later.0 in
      let runs = quiet-runs s g first in (
        first,
        many-earlier m (after_step s g) h g apart (quiet-behind s h g quiet apart runs)
            (subst (λ (t : State). AreQuiet watch m t g) (either-order s h g quiet apart runs) later.1),
      )

  -- and after several
  pub all-earlier : (n m : ℕ) (s : State) (h g : ℕ) → g ≢ h → AreQuiet watch n s h → AreQuiet watch m (by n s h) g → AreQuiet watch m s g
  all-earlier zero m s h g apart quiet later = later
  all-earlier (suc n) m s h g apart quiet later =
      many-earlier m s h g apart quiet.0 (all-earlier n m (after_step s h) h g apart quiet.1 later)
