-- Rounds of a question's choices are rounds of runs, and a lasso of them is one of runs.
use Rattle.std.proofs.Common.{◌≡◌, ◌∙◌, ℕ, zero, suc, ◌<◌, Bool, ◌||◌, List, [], ◌∷◌, ◌++◌, All, flat_map, length, refl, sym, ap, ap₂, subst, arith}
use Rattle.std.proofs.lemmas.List.{get_or_default}
use Rattle.std.proofs.lemmas.List.Elements.{All-cons, All-from_recursion, All-nil, Contains-append_right, recursion_from_All}
use Rattle.std.specs.List.{AllByRecursion as Each, Contains, concat}
use Rattle.fair_rounds.specs.Rounds.{AlwaysComes, IsLasso, IsRound, MustWithin, after, passes}
use Rattle.machine_state.specs.State.{State}
use Rattle.quiet_runs.specs.Runs.{Watch, after_run}
use Rattle.quiet_runs.specs.Begun.{steps_of_runs}
use Rattle.quiet_runs.specs.Finding.{quiet_steps}
use Rattle.quiet_runs.specs.Laws.{AreHarts}
use Rattle.questions.specs.declared.choice.Choice.{Choice}
use Rattle.questions.specs.declared.choice.Choice.TheVariants.{Run, Tick}
use Rattle.questions.specs.Choice.{choice_at, counted_choice, counted_path}
use Rattle.questions.specs.Question.{QuestionValue, choices_of, watch_for}
use Rattle.interleavings.specs.Laws.{EachHartRuns}
use Rattle.interleavings.specs.Rounds.{AlwaysChoose, MustChoose, RunsOnce, steps_chosen, steps_of_choice}
use Rattle.exploration.specs.Explored.{next_state}
use Rattle.interleavings.proofs.Paths.{Chosen, as-choices, chosen-of, chosen-one, runs-one}

module _ (question : QuestionValue) where
  abbrev pub watch : Watch
  watch = watch_for question.properties

  abbrev pub more : State → ℕ → ℕ
  more = quiet_steps watch

  abbrev pub count : ℕ
  count = question.sizes.harts

  abbrev pub width : ℕ
  width = length (choices_of question)

  abbrev pub Runs : List ℕ → List ℕ → Type 0
  Runs path harts = Chosen watch (choices_of question) path harts

  -- ---- choices that run these harts

  one : (s : State) (i h : ℕ) → choice_at (choices_of question) i ≡ Run h
      → next_state question s i ≡ after_run more s h
  one s i h is = chosen-one watch (choices_of question) s i h is

  -- lead where the runs do
  pub leads : (s : State) (path harts : List ℕ) → Runs path harts
      → after (next_state question) s path ≡ after (after_run more) s harts
  leads s [] [] all = refl
  leads s [] (h ∷ harts) all = absurd all
  leads s (i ∷ path) [] all = absurd all
  leads s (i ∷ path) (h ∷ harts) all =
      ap (λ (t : State). after (next_state question) t path) (one s i h all.0.1)
      ∙ leads (after_run more s h) path harts all.1

  -- pass what the runs do
  pub same-passes : (goal : State → Bool) (s : State) (path harts : List ℕ) → Runs path harts
      → passes (next_state question) goal s path ≡ passes (after_run more) goal s harts
  same-passes goal s [] [] all = refl
  same-passes goal s [] (h ∷ harts) all = absurd all
  same-passes goal s (i ∷ path) [] all = absurd all
  same-passes goal s (i ∷ path) (h ∷ harts) all =
      ap (λ (b : Bool). goal s || b)
      (ap (λ (t : State). passes (next_state question) goal t path) (one s i h all.0.1)
      ∙ same-passes goal (after_run more s h) path harts all.1)

  -- one list behind the other
  pub both : (p q gs hs : List ℕ) → Runs p gs → Runs q hs → Runs (p ++ q) (gs ++ hs)
  both [] q [] hs first second = second
  both [] q (g ∷ gs) hs first second = absurd first
  both (i ∷ p) q [] hs first second = absurd first
  both (i ∷ p) q (g ∷ gs) hs first second = (first.0, both p q gs hs first.1 second)

  -- one of these choices runs a hart
  pub record IsRun (path : List ℕ) (h : ℕ) : Type 0 where
    pub choice : ℕ
    pub among : Contains path choice
    pub there : choice < width
    pub is : choice_at (choices_of question) choice ≡ Run h

  more-run : (i h : ℕ) (path : List ℕ) → IsRun path h → IsRun (i ∷ path) h
  more-run i h path run =
      record {
        choice = run.choice;
        among = Contains-append_right (i ∷ []) path run.choice run.among;
        there = run.there;
        is = run.is;
      }

  -- one does, where the hart is among those that they run
  pub is-run : (path harts : List ℕ) (h : ℕ) → Runs path harts → Contains harts h → IsRun path h
  is-run [] [] h all (k, l, e) = absurd (omega (arith, l))
  is-run [] (g ∷ harts) h all has = absurd all
  is-run (i ∷ path) [] h all has = absurd all
  is-run (i ∷ path) (g ∷ harts) h all (zero, l, e) =
      record {
        choice = i;
        among = (0, omega arith, refl);
        there = all.0.0;
        is = all.0.1 ∙ ap Run e;
      }
  is-run (i ∷ path) (g ∷ harts) h all (suc k, l, e) =
      more-run i h path (is-run path harts h all.1 (k, omega (arith, l), e))

  -- a choice runs one of these harts
  pub record RunsOneOf (harts : List ℕ) (i : ℕ) : Type 0 where
    pub hart : ℕ
    pub among : Contains harts hart
    pub is : choice_at (choices_of question) i ≡ Run hart

  more-one : (h i : ℕ) (harts : List ℕ) → RunsOneOf harts i → RunsOneOf (h ∷ harts) i
  more-one h i harts one =
      record {
        hart = one.hart;
        among = Contains-append_right (h ∷ []) harts one.hart one.among;
        is = one.is;
      }

  -- it does, where it is among those that run them
  pub runs-one-of : (path harts : List ℕ) (i : ℕ) → Runs path harts → Contains path i
      → RunsOneOf harts i
  runs-one-of [] [] i all (k, l, e) = absurd (omega (arith, l))
  runs-one-of [] (h ∷ harts) i all has = absurd all
  runs-one-of (j ∷ path) [] i all has = absurd all
  runs-one-of (j ∷ path) (h ∷ harts) i all (zero, l, e) =
      record {
        hart = h;
        among = (0, omega arith, refl);
        is = ap (choice_at (choices_of question)) (sym e) ∙ all.0.1;
      }
  runs-one-of (j ∷ path) (h ∷ harts) i all (suc k, l, e) =
      more-one h i harts (runs-one-of path harts i all.1 (k, omega (arith, l), e))

  -- ---- rounds of runs are rounds of choices

  module _ (once : RunsOnce question) where
    round-of : (path harts : List ℕ) → Runs path harts → IsRound count harts → IsRound width path
    round-of path harts all round = record {
      choices = chosen-of watch (choices_of question) path harts all;
      each = λ i l.
          let found = runs-one watch (choices_of question) count once.only i l in
          let run = is-run path harts found.hart all (round.each found.hart found.below) in
          subst (Contains path)
          (once.different run.choice i run.there l (run.is ∙ sym found.is)) run.among;
    }

    -- rounds of choices that run these rounds of harts
    record AsRounds (rounds : List (List ℕ)) : Type 0 where
      paths : List (List ℕ)
      many : length paths ≡ length rounds
      are : All (IsRound width) paths
      runs : Runs (concat paths) (concat rounds)

    as-rounds : (rounds : List (List ℕ)) → Each (IsRound count) rounds → AsRounds rounds
    as-rounds [] all = record { paths = []; many = refl; are = All-nil (IsRound width); runs = tt }
    as-rounds (round ∷ rounds) all =
        let is = all.0 in
        let path =
        as-choices watch (choices_of question) count once.each round
        (recursion_from_All (λ h. h < count) round is.choices) in
        let rest = as-rounds rounds all.1 in
        record {
          paths = path.path ∷ rest.paths;
          many = ap suc rest.many;
          are = All-cons (IsRound width) path.path rest.paths
              (round-of path.path round path.chosen is) rest.are;
          runs = both path.path (concat rest.paths) round (concat rounds) path.chosen rest.runs;
        }

    -- so where rounds of choices must pass a goal, rounds of runs must
    pub must-run : (goal : State → Bool) (s : State) (most : ℕ) → MustChoose question goal s most
        → MustWithin (after_run more) goal count s most
    must-run goal s most must rounds many are =
        let made = as-rounds rounds (recursion_from_All (IsRound count) rounds are) in
        sym (same-passes goal s (concat made.paths) (concat rounds) made.runs)
        ∙ must made.paths (made.many ∙ many) made.are

    pub always-run : (goal first : State → Bool) (s : State) (most : ℕ)
        → AlwaysChoose question goal first s most
        → AlwaysComes (after_run more) goal count first s most
    always-run goal first s most always stem all begins =
        let made =
        as-choices watch (choices_of question) count once.each stem
        (recursion_from_All (λ h. h < count) stem all) in
        let there = leads s made.path stem made.chosen in
        must-run goal (after (after_run more) s stem) most
        (subst (λ (t : State). MustChoose question goal t most) there
        (always made.path (chosen-of watch (choices_of question) made.path stem made.chosen)
        (ap first there ∙ begins)))

  -- ---- a lasso of choices is one of runs

  module _ (each : EachHartRuns question) where
    same-hart : (choice : Choice) (g h : ℕ) → choice ≡ Run g → choice ≡ Run h → g ≡ h
    same-hart choice g h first second = let e : Run g ≡ Run h = sym first ∙ second in cc (e)

    round-run : (path harts : List ℕ) → Runs path harts → AreHarts count harts → IsRound width path
        → IsRound count harts
    round-run path harts all of round = record {
      choices = All-from_recursion (λ h. h < count) harts of;
      each = λ h l.
          let found = each h l in
          let is = get_or_default (choices_of question) found.0 (Tick 0) (Run h) found.1
          ∙ found.2 in
          let one = runs-one-of path harts found.0 all (round.each found.0 found.1) in
          subst (Contains harts)
          (same-hart (choice_at (choices_of question) found.0) one.hart h one.is is) one.among;
    }

    pub lasso-run : (goal : State → Bool) (s : State) (path cycle gs hs : List ℕ) → Runs path gs
        → Runs cycle hs → AreHarts count gs → AreHarts count hs
        → IsLasso (next_state question) goal width s path cycle
        → IsLasso (after_run more) goal count s gs hs
    lasso-run goal s path cycle gs hs first second harts more_harts is =
        let there = leads s path gs first in
        record {
          choices = All-from_recursion (λ h. h < count) gs harts;
          round = round-run cycle hs second more_harts is.round;
          back = sym (leads (after (after_run more) s gs) cycle hs second)
              ∙ (ap (λ (t : State). after (next_state question) t cycle) (sym there)
              ∙ (is.back ∙ there));
          never = sym
              (same-passes goal s (path ++ cycle) (gs ++ hs) (both path cycle gs hs first second))
              ∙ is.never;
        }

  -- ---- the steps that are counted are those of the runs

  counted-nil : (s : State) → counted_path watch (choices_of question) s [] ≡ []
  unfolding counted_path
  counted-nil s = refl

  counted-cons : (s : State) (i : ℕ) (path : List ℕ)
      → counted_path watch (choices_of question) s (i ∷ path) ≡ counted_choice watch s
      (choice_at (choices_of question) i) ∷ counted_path watch (choices_of question)
      (next_state question s i) path
  unfolding counted_path
  counted-cons s i path = refl

  pub counted-steps : (s : State) (path harts : List ℕ) → Runs path harts
      → steps_chosen question s path ≡ steps_of_runs more s harts
  counted-steps s [] [] all = ap (flat_map steps_of_choice) (counted-nil s)
  counted-steps s [] (h ∷ harts) all = absurd all
  counted-steps s (i ∷ path) [] all = absurd all
  counted-steps s (i ∷ path) (h ∷ harts) all =
      ap (flat_map steps_of_choice) (counted-cons s i path)
      ∙ ap₂ (λ (c : Choice) (rest : List ℕ). steps_of_choice (counted_choice watch s c)
      ++ rest) all.0.1
      (ap (λ (t : State). steps_chosen question t path) (one s i h all.0.1)
      ∙ counted-steps (after_run more s h) path harts all.1)
