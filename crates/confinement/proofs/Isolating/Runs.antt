-- The theorem: by induction on the events of the first run, and for each of them on those of the second.
use Rattle.std.proofs.Common.{◌≡◌, ℕ, ◌⊎◌, inl, inr, false, List, [], ◌∷◌, ◌++◌, Some, refl, sym, ◌∙◌, ap, ap₂, subst, subst₂}
use Rattle.machine_state.specs.declared.event.Event.{Event}
use Rattle.machine_state.specs.declared.event.Event.TheVariants.{Step, Tick}
use Rattle.machine_state.specs.declared.record.Record.{Record}
use Rattle.machine_state.specs.State.{State}
use Rattle.kernel_core.specs.Event.{performer, event_of}
use Rattle.kernel_core.specs.Run.{run_state}
use Rattle.confinement.specs.declared.cut_side.CutSide.{CutSide}
use Rattle.confinement.specs.Cut.{Cut, Holds}
use Rattle.confinement.specs.Acts.{system_of}
use Rattle.confinement.proofs.Runs.{holds-for, holds-event}
use Rattle.confinement.specs.isolation.Agree.{Agree}
use Rattle.confinement.specs.isolation.Turns.{Turn, turn_of, turns, side_records}
use Rattle.confinement.specs.isolation.Laws.{SameAccess, Unseen, SameTurn}
use Rattle.confinement.specs.isolation.Isolation.{AlikeRuns, Isolation}
use Rattle.confinement.proofs.Isolating.Agreeing.{same-gpt}
use Rattle.confinement.proofs.Isolating.Walks.{same-access}
use Rattle.confinement.proofs.Isolating.Turns.{agree-sym, agree-then, NotMine, unseen, alike-turn, Mine, whose, of_side-mine, of_side-none}

-- ---- the first event of a run

module _ (cut : Cut) (side : CutSide) (s : State) (e : Event) (es : List Event) where
  -- the state behind it
  abbrev then : State
  then = (event_of s e).state

  turns-mine : (m : Mine cut side (performer s e)) → turns cut side s (e ∷ es) ≡ turn_of e m.process ∷ turns cut side then es
  unfolding turns
  turns-mine m = ap (λ (ts : List Turn). ts ++ turns cut side then es) (of_side-mine cut side (performer s e) (λ p. turn_of e p ∷ []) m)

  turns-other : NotMine cut side (performer s e) → turns cut side s (e ∷ es) ≡ turns cut side then es
  unfolding turns
  turns-other other = ap (λ (ts : List Turn). ts ++ turns cut side then es) (of_side-none cut side (performer s e) (λ p. turn_of e p ∷ []) other)

  told-mine : Mine cut side (performer s e) → side_records cut side s (e ∷ es) ≡ (event_of s e).records ++ side_records cut side then es
  unfolding side_records
  told-mine m = ap (λ (rs : List Record). rs ++ side_records cut side then es) (of_side-mine cut side (performer s e) (λ p. (event_of s e).records) m)

  told-other : NotMine cut side (performer s e) → side_records cut side s (e ∷ es) ≡ side_records cut side then es
  unfolding side_records
  told-other other =
      ap (λ (rs : List Record). rs ++ side_records cut side then es) (of_side-none cut side (performer s e) (λ p. (event_of s e).records) other)

  ends-behind : run_state s (e ∷ es) ≡ run_state then es
  unfolding run_state
  ends-behind = refl

turns-none : (cut : Cut) (side : CutSide) (s : State) → turns cut side s [] ≡ []
unfolding turns
turns-none cut side s = refl

-- the same process has the same turn
turn-process : (e f : Event) (p q : ℕ) → turn_of e p ≡ turn_of f q → p ≡ q
turn-process (Step hart) (Step other) p q e = cc (e)
turn-process (Tick hart) (Tick other) p q e = cc (e)
turn-process (Step hart) (Tick other) p q e = absurd (cc (e))
turn-process (Tick hart) (Step other) p q e = absurd (cc (e))

module _ (cut : Cut) (side : CutSide) (alone : cut.weakly side ≡ false) where
  -- two states that agree, in which the cut holds
  record Both (s t : State) : Type 0 where
    first : Holds cut (system_of s)
    second : Holds cut (system_of t)
    agree : Agree cut side (system_of s) (system_of t)

  both-first : (s t : State) (e : Event) → Both s t → NotMine cut side (performer s e) → Both (event_of s e).state t
  both-first s t e both other =
      let u = (event_of s e).state in
      record {
        first = holds-event cut s e both.first;
        second = both.second;
        agree = agree-then cut side (system_of u) (system_of s) (system_of t)
            (agree-sym cut side (system_of s) (system_of u) (unseen cut side s e both.first other)) both.agree;
      }

  both-second : (s t : State) (f : Event) → Both s t → NotMine cut side (performer t f) → Both s (event_of t f).state
  both-second s t f both other = record {
    first = both.first;
    second = holds-event cut t f both.second;
    agree = agree-then cut side (system_of s) (system_of t) (system_of (event_of t f).state) both.agree (unseen cut side t f both.second other);
  }

  -- ---- an event of the other side in one of the runs

  skip-first : (s t : State) (e : Event) (es fs : List Event) → NotMine cut side (performer s e) → AlikeRuns cut side (event_of s e).state t es fs
      → AlikeRuns cut side s t (e ∷ es) fs
  skip-first s t e es fs other alike = record {
    records = told-other cut side s e es other ∙ alike.records;
    ends = subst (λ (u : State). Agree cut side (system_of u) (system_of (run_state t fs))) (sym (ends-behind cut side s e es)) alike.ends;
  }

  skip-second : (s t : State) (f : Event) (es fs : List Event) → NotMine cut side (performer t f) → AlikeRuns cut side s (event_of t f).state es fs
      → AlikeRuns cut side s t es (f ∷ fs)
  skip-second s t f es fs other alike = record {
    records = alike.records ∙ sym (told-other cut side t f fs other);
    ends = subst (λ (u : State). Agree cut side (system_of (run_state s es)) (system_of u)) (sym (ends-behind cut side t f fs)) alike.ends;
  }

  -- what is shown of the events of the first run
  abbrev Shown : List Event → Type 0
  Shown es = (s t : State) → Both s t → (fs : List Event) → turns cut side s es ≡ turns cut side t fs → AlikeRuns cut side s t es fs

  -- ---- no event is left of the first

  none-left : (s t : State) → Both s t → (fs : List Event) → turns cut side s [] ≡ turns cut side t fs → AlikeRuns cut side s t [] fs
  unfolding turns side_records run_state
  none-left s t both [] e = record { records = refl; ends = both.agree }
  none-left s t both (f ∷ fs) e = on (whose cut side (performer t f)) (λ b h. none-left s (event_of t f).state b fs h)
    where
      on : Mine cut side (performer t f) ⊎ NotMine cut side (performer t f)
          → (Both s (event_of t f).state → turns cut side s [] ≡ turns cut side (event_of t f).state fs → AlikeRuns cut side s (event_of t f).state [] fs)
          → AlikeRuns cut side s t [] (f ∷ fs)
      on (inl m) rest = let h = e ∙ turns-mine cut side t f fs m in absurd (cc (h))
      on (inr other) rest = skip-second s t f [] fs other (rest (both-second s t f both other) (e ∙ turns-other cut side t f fs other))

  -- ---- the first event of the first is this side's

  module _ (s : State) (e : Event) (es : List Event) (shown : Shown es) (m : Mine cut side (performer s e)) where
    -- and so is the first of the second
    together : (t : State) → Both s t → (f : Event) (fs : List Event) → (n : Mine cut side (performer t f)) → turns cut side s (e ∷ es) ≡ turns cut side t (f ∷ fs)
        → AlikeRuns cut side s t (e ∷ es) (f ∷ fs)
    together t both f fs n h =
        let same : turn_of e m.process ∷ turns cut side (event_of s e).state es ≡ turn_of f n.process ∷ turns cut side (event_of t f).state fs = sym (turns-mine cut side s e es m) ∙ (h ∙ turns-mine cut side t f fs n) in
        let turn : turn_of e m.process ≡ turn_of f n.process = cc (same) in
        let rest : turns cut side (event_of s e).state es ≡ turns cut side (event_of t f).state fs = cc (same) in
        let process = turn-process e f m.process n.process turn in
        let alike = alike-turn cut side alone m.process m.own s t (record { closed = both.first.closed; holds = holds-for cut side (system_of s) both.first; agree = both.agree }) e f m.is (n.is ∙ ap Some (sym process)) (turn ∙ ap (turn_of f) (sym process)) in
        let state = alike.state in
        let next = shown (event_of s e).state (event_of t f).state (record { first = holds-event cut s e both.first; second = holds-event cut t f both.second; agree = state.agree }) fs rest in
        record {
          records = told-mine cut side s e es m ∙
              (ap₂ (λ (rs qs : List Record). rs ++ qs) alike.records next.records ∙ sym (told-mine cut side t f fs n));
          ends = subst₂ (λ (u v : State). Agree cut side (system_of u) (system_of v)) (sym (ends-behind cut side s e es))
              (sym (ends-behind cut side t f fs)) next.ends;
        }

    mine-first : (t : State) → Both s t → (fs : List Event) → turns cut side s (e ∷ es) ≡ turns cut side t fs → AlikeRuns cut side s t (e ∷ es) fs
    mine-first t both [] h = let none = sym (turns-mine cut side s e es m) ∙ (h ∙ turns-none cut side t) in absurd (cc (none))
    mine-first t both (f ∷ fs) h = on (whose cut side (performer t f)) (λ b g. mine-first (event_of t f).state b fs g)
      where
        on : Mine cut side (performer t f) ⊎ NotMine cut side (performer t f)
            → (Both s (event_of t f).state → turns cut side s (e ∷ es) ≡ turns cut side (event_of t f).state fs → AlikeRuns cut side s (event_of t f).state (e ∷ es) fs)
            → AlikeRuns cut side s t (e ∷ es) (f ∷ fs)
        on (inl n) rest = together t both f fs n h
        on (inr other) rest = skip-second s t f (e ∷ es) fs other (rest (both-second s t f both other) (h ∙ turns-other cut side t f fs other))

  -- ---- all

  runs : (es : List Event) → Shown es
  runs [] s t both fs h = none-left s t both fs h
  runs (e ∷ es) s t both fs h = on (whose cut side (performer s e)) (runs es)
    where
      on : Mine cut side (performer s e) ⊎ NotMine cut side (performer s e) → Shown es → AlikeRuns cut side s t (e ∷ es) fs
      on (inl m) shown = mine-first s e es shown m t both fs h
      on (inr other) shown =
          skip-first s t e es fs other (shown (event_of s e).state t (both-first s t e both other) fs (sym (turns-other cut side s e es other) ∙ h))

-- ---- the laws and the theorem

-- the law of accesses
pub same_access : SameAccess
same_access cut side s t space address kind apart may =
    same-access cut side apart.own_alone s.store.items t.store.items (holds-for cut side (system_of s) apart.first).each.slots
    (same-gpt cut side (system_of s) (system_of t) apart.agree) kind space address may

-- the law of what is not seen
pub event_unseen : Unseen
event_unseen cut side s e holds other = unseen cut side s e holds other

-- the law of turns
pub same_turn : SameTurn
same_turn cut side s t e f p apart own first second turn =
    let alike = alike-turn cut side apart.own_alone p own s t (record { closed = apart.first.closed; holds = holds-for cut side (system_of s) apart.first; agree = apart.agree }) e f first second turn in
    let state = alike.state in
    record { records = alike.records; agree = state.agree }

-- the theorem
pub isolation : Isolation
isolation cut side s t apart es fs h =
    runs cut side apart.own_alone es s t (record { first = apart.first; second = apart.second; agree = apart.agree }) fs h
