-- The first of some events, performed and counted.
use Rattle.std.proofs.Common.{◌≡◌, ◌≢◌, ◌≤◌, ◌+◌, ◌-◌, ◌*◌, ◌∙◌, ◌∷◌, ◌++◌, [], ℕ, List, length, get_or, take, drop, refl, sym, ap, subst, arith}
use Rattle.std.proofs.lemmas.List.{length-take-le, take-append-drop, take_more}
use Rattle.cap_format.specs.Capability.{Capability}
use Rattle.cap_format.specs.declared.item.Item.{Item}
use Rattle.object_store.specs.Store.{Items}
use Rattle.walk_meaning.specs.declared.kind.Kind.{Kind}
use Rattle.machine_state.specs.declared.event.Event.{Event}
use Rattle.machine_state.specs.declared.record.Record.{Record}
use Rattle.kernel_core.specs.Event.{event_of}
use Rattle.kernel_core.specs.Machine.{MachineValue}
use Rattle.kernel_core.specs.Run.{run_records}
use Rattle.kernel_core.specs.State.{state_of}
use Rattle.untraced_steps.specs.Spared.{GainsNothing}
use Rattle.untraced_steps.specs.Untraced.{RanUntraced, TellsNothing}
use Rattle.schedule_replay.specs.Counts.{AreAtMost, and_more}
use Rattle.schedule_replay.specs.First.{RunsFirst}
use Rattle.schedule_replay.specs.Replay.{Ran}
use Rattle.schedule_replay.specs.Told.{lines_of, lines_told}
use Rattle.schedule_replay.specs.declared.counts.Counts.{Counts}
use Rattle.schedule_replay.specs.declared.mode.Mode.{Mode}
use Rattle.schedule_replay.specs.declared.mode.Mode.TheVariants.{Trace}
use Rattle.schedule_replay.proofs.Tallies.{and_more-untraced, at_most-trans}
use Rattle.schedule_replay.proofs.Told.{lines_of-nil, records-one, told-nil, untraced_lines}

module _ {T K C : Type 0} (kept : T → K) (cost : K → Items → Capability → ℕ → Kind → ℕ) (after : K → Items → Capability → ℕ → Kind → K) (without : K → Item → K)
    (cache : T → ℕ → C) (less : C → C → Type 0) where
  -- one event
  pub first-one : (mode : Mode) (event : Event) (behind : List Event) (m : MachineValue T) (fetches : ℕ) (n : MachineValue T) (fetches' : ℕ) (entries : List Record) (counts counts' : Counts)
      → Ran kept cost after without m fetches n fetches' (event ∷ []) → GainsNothing cache less (event ∷ []) m n → entries ≡ (event_of (state_of m) event).records → counts' ≡ and_more counts 1 entries
      → ((most : ℕ) → AreAtMost most counts → AreAtMost (most + 1 + 64) counts')
      → RunsFirst kept cost after without cache less mode (event ∷ behind) behind m fetches n fetches' entries counts counts'
  first-one mode event behind m fetches n fetches' entries counts counts' ran gains told counted most =
      let records : entries ≡ run_records (state_of m) (event ∷ []) = told ∙ sym (records-one (state_of m) event) in
      record {
        before = [];
        last = event;
        split = refl;
        ran = ran;
        gains = gains;
        quiet = told-nil mode (state_of m);
        lines = ap (lines_of mode) records;
        counted = counted ∙ ap (and_more counts 1) records;
        most = λ limit all. at_most-trans (limit + 1 + 64) (limit + 65 * 1) counts' (omega arith) (most limit all);
      }

  -- what is said of these events, which are the first of all
  record RunsEvents (mode : Mode) (all left : List Event) (m : MachineValue T) (fetches : ℕ) (n : MachineValue T) (fetches' : ℕ) (entries : List Record) (counts counts' : Counts) (events : List Event) : Type 0 where
    pub split : all ≡ events ++ left
    pub ran : Ran kept cost after without m fetches n fetches' events
    pub gains : GainsNothing cache less events m n
    pub lines : lines_of mode entries ≡ lines_told mode (state_of m) events
    pub counted : counts' ≡ and_more counts (length events) (run_records (state_of m) events)
    pub most : (most : ℕ) → AreAtMost most counts → AreAtMost (most + 65 * length events) counts'

  -- so many of them, of which no trace is kept
  pub first-untraced : (mode : Mode) → mode ≢ Trace → (done : ℕ) (event : Event) (all left : List Event) (m : MachineValue T) (fetches : ℕ) (n : MachineValue T) (fetches' : ℕ) (entries : List Record) (counts counts' : Counts)
      → 1 ≤ done → done ≤ length all → left ≡ drop done all → RanUntraced kept cost after without (take done all) m fetches n entries fetches'
      → GainsNothing cache less (take done all) m n
      → TellsNothing (state_of m) (take (done - 1) all) → counts' ≡ and_more counts done entries → ((most : ℕ) → AreAtMost most counts → AreAtMost (most + done + 64) counts')
      → RunsFirst kept cost after without cache less mode all left m fetches n fetches' entries counts counts'
  first-untraced mode other done event all left m fetches n fetches' entries counts counts' some most_done behind ran gains before counted most =
      let s = state_of m in
      let last : Event = get_or all (done - 1) event in
      let one : done - 1 + 1 ≡ done = omega (arith, some) in
      let events : take (done - 1) all ++ last ∷ [] ≡ take done all = sym (take_more all (done - 1) event (omega (arith, some, most_done))) ∙ ap (λ k. take k all) one in
      let size : length (take done all) ≡ done = length-take-le done all most_done in
      let ends : RunsEvents mode all left m fetches n fetches' entries counts counts' (take done all) =
      record {
        split = sym (take-append-drop done all) ∙ ap (λ es. take done all ++ es) (sym behind);
        ran = record { state = ran.state; counted = ran.counted; keeps = ran.keeps; harts = ran.harts; sizes = ran.sizes };
        gains = gains;
        lines = ap (lines_of mode) ran.records ∙ untraced_lines mode other (run_records s (take done all));
        counted =
            counted ∙ (ap (and_more counts done) ran.records ∙ and_more-untraced counts done (run_records s (take done all)))
            ∙ ap (λ k. and_more counts k (run_records s (take done all))) (sym size);
        most = λ limit under. at_most-trans (limit + done + 64) (limit + 65 * length (take done all)) counts' (omega (arith, some, size)) (most limit under);
      } in
      let said = subst (RunsEvents mode all left m fetches n fetches' entries counts counts') (sym events) ends in
      record {
        before = take (done - 1) all;
        last = last;
        split = said.split;
        ran = said.ran;
        gains = said.gains;
        quiet = sym (untraced_lines mode other (run_records s (take (done - 1) all))) ∙ (ap (lines_of mode) before ∙ lines_of-nil mode);
        lines = said.lines;
        counted = said.counted;
        most = said.most;
      }
