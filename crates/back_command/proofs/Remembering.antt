-- Event by event, what a run comes to of which the last events are remembered.
use Rattle.std.proofs.Common.{◌≡◌, ◌*◌, ◌∙◌, ◌∷◌, ◌++◌, [], ℕ, List, Option, Err, length, sym, ap, subst, append_assoc, append-nil, arith}
use Rattle.std.proofs.lemmas.List.{length-append}
use Rattle.cap_format.specs.Capability.{Capability}
use Rattle.cap_format.specs.declared.item.Item.{Item}
use Rattle.coy_io.specs.Reader.{Reader}
use Rattle.object_store.specs.Store.{Items}
use Rattle.walk_meaning.specs.declared.kind.Kind.{Kind}
use Rattle.machine_state.specs.declared.event.Event.{Event}
use Rattle.machine_state.specs.State.{State}
use Rattle.kernel_core.specs.Event.{event_of}
use Rattle.kernel_core.specs.Outcome.{Touch, spent, kept_after}
use Rattle.kernel_core.specs.Run.{run_state, run_touches}
use Rattle.kernel_core.proofs.Ran.{run_touches-append, run_touches-cons, run_touches-nil, spent-append, kept_after-append}
use Rattle.reverse_run.specs.History.{History, after_event}
use Rattle.reverse_run.specs.Reads.{FetchesWithin, a_memento}
use Rattle.schedule_replay.specs.Counts.{events_alone}
use Rattle.schedule_replay.specs.Replay.{answer_at, count_answer}
use Rattle.schedule_replay.specs.Scheduled.{Ending, IsNextLine, Reads, ends, preceded, scheduled}
use Rattle.listing_read.specs.declared.fault.ScheduleFault.{ScheduleFault}
use Rattle.judged_lines.specs.declared.stop.Stop.{Stop}
use Rattle.schedule_replay.proofs.ReadOn.{reads_on-none}
use Rattle.schedule_replay.proofs.Scheduled.{reads-same, reads-trans}
use Rattle.schedule_replay.proofs.SoFar.{follows-stop}
use Rattle.back_command.specs.Runs.{RunsLines, history_at}
use Rattle.back_command.specs.Back.{most_remembered}
use Rattle.back_command.proofs.Histories.{history-event, history-start}

-- the touches of one event more come behind the others
touches-push : (s : State) (events : List Event) (e : Event) → run_touches s (events ++ e ∷ []) ≡ run_touches s events ++ (event_of (run_state s events) e).touches
touches-push s events e =
    let here : State = run_state s events in
    run_touches-append s events (e ∷ [])
    ∙ ap (λ ts. run_touches s events ++ ts)
    (run_touches-cons here e [] ∙ ap (λ ts. (event_of here e).touches ++ ts) (run_touches-nil (event_of here e).state) ∙ append-nil (event_of here e).touches)

module _ {K : Type 0} (cost : K → Items → Capability → ℕ → Kind → ℕ) (after : K → Items → Capability → ℕ → Kind → K) (without : K → Item → K) (k0 : K)
    (harts : ℕ) (s : State) (old : Reader) (held : Option (List ℕ)) (f0 : ℕ) where
  -- how many slots touches fetch from what was kept at first
  abbrev count : List Touch → ℕ
  count touches = spent cost after without k0 touches

  -- these events were run, and those that are left are the last of the lines that were read
  pub record SoFar (h : History) (now : Reader) (held' : Option (List ℕ)) (left : List Event) (k : K) (f : ℕ) : Type 0 where
    pub done : List Event
    pub history : h ≡ history_at most_remembered s done
    pub reads : Reads harts old now held held' (done ++ left)
    pub keeps : k ≡ kept_after cost after without k0 (run_touches s done)
    pub fetched : FetchesWithin (count (run_touches s done)) (a_memento * length done) f0 f

  -- at the start
  pub so_far-start : (h : History) → h.present ≡ s → h.before ≡ [] → SoFar h old held [] k0 f0
  so_far-start h present none = record {
    done = [];
    history = history-start h none ∙ ap (λ t. history_at most_remembered t []) present;
    reads = reads_on-none (scheduled harts old.number) old held;
    keeps = sym (ap (kept_after cost after without k0) (run_touches-nil s));
    fetched = let none = ap count (run_touches-nil s) in record { least = omega (arith, none); most = omega (arith, none) };
  }

  module _ (h : History) (now : Reader) (held' : Option (List ℕ)) (k : K) (f : ℕ) where
    -- what one event more fetches and leaves
    fetched-event : (done : List Event) (event : Event) (t : State) (k1 : K) (f1 : ℕ) → t ≡ run_state s done → k ≡ kept_after cost after without k0 (run_touches s done)
        → FetchesWithin (count (run_touches s done)) (a_memento * length done) f0 f
        → FetchesWithin (spent cost after without k (event_of t event).touches) a_memento f f1
        → FetchesWithin (count (run_touches s (done ++ event ∷ []))) (a_memento * length (done ++ event ∷ [])) f0 f1
    fetched-event done event t k1 f1 state keeps before own =
        let touches = ap count (touches-push s done event) ∙ spent-append cost after without k0 (run_touches s done) (event_of (run_state s done) event).touches in
        let same : spent cost after without k (event_of t event).touches ≡ spent cost after without (kept_after cost after without k0 (run_touches s done)) (event_of (run_state s done) event).touches =
        ap (λ j. spent cost after without j (event_of t event).touches) keeps ∙ ap (λ (u : State). spent cost after without (kept_after cost after without k0 (run_touches s done)) (event_of u event).touches) state in
        let more = length-append done (event ∷ []) in
        let least = before.least in
        let most = before.most in
        let own_least = own.least in
        let own_most = own.most in
        record { least = omega (arith, touches, same, least, own_least); most = omega (arith, touches, same, more, most, own_most) }

    -- one event more was run
    pub so_far-event : (n : History) (depth : ℕ) (event : Event) (all left : List Event) (t : State) (k1 : K) (f1 : ℕ) → depth ≡ most_remembered → all ≡ event ∷ left → SoFar h now held' all k f
        → n ≡ after_event depth h event → t ≡ h.present → k1 ≡ kept_after cost after without k (event_of t event).touches
        → FetchesWithin (spent cost after without k (event_of t event).touches) a_memento f f1 → SoFar n now held' left k1 f1
    so_far-event n depth event all left t k1 f1 deep split so behind present keeps own = record {
      done = so.done ++ event ∷ [];
      history =
          behind ∙ ap (λ k. after_event k h event) deep ∙ ap (λ (g : History). after_event most_remembered g event) so.history
          ∙ history-event most_remembered s so.done event (omega arith);
      reads = reads-same harts old now held held' (so.done ++ all) ((so.done ++ event ∷ []) ++ left)
          (ap (λ es. so.done ++ es) split ∙ sym (append_assoc so.done (event ∷ []) left)) so.reads;
      keeps =
          let here : t ≡ run_state s so.done = present ∙ ap (λ (g : History). g.present) so.history in
          keeps
          ∙ ap (λ (u : State). kept_after cost after without k (event_of u event).touches) here
          ∙ ap (λ j. kept_after cost after without j (event_of (run_state s so.done) event).touches) so.keeps
          ∙ sym (kept_after-append cost after without k0 (run_touches s so.done) (event_of (run_state s so.done) event).touches)
          ∙ ap (kept_after cost after without k0) (sym (touches-push s so.done event));
      fetched = fetched-event so.done event t k1 f1 (present ∙ ap (λ (g : History). g.present) so.history) so.keeps so.fetched own;
    }

    -- where none is left, the lines that were read asked for these
    here : (none : List Event) → none ≡ [] → (so : SoFar h now held' none k f) → Reads harts old now held held' so.done
    here none is so = reads-same harts old now held held' (so.done ++ none) so.done (ap (λ es. so.done ++ es) is ∙ append-nil so.done) so.reads

    -- one line more was read
    pub so_far-read : (now1 : Reader) (held1 : Option (List ℕ)) (harts' : ℕ) (events asked none : List Event) → none ≡ [] → harts' ≡ harts → SoFar h now held' none k f
        → Reads harts' now now1 held' held1 asked → events ≡ asked → SoFar h now1 held1 events k f
    so_far-read now1 held1 harts' events asked none is same so reads line = record {
      done = so.done;
      history = so.history;
      keeps = so.keeps;
      fetched = so.fetched;
      reads = reads-trans harts old now now1 held held' held1 so.done events (here none is so)
          (subst (λ k. Reads k now now1 held' held1 events) same (subst (Reads harts' now now1 held' held1) (sym line) reads));
    }

    -- no further line was read
    pub runs-stop : (now1 : Reader) (held1 : Option (List ℕ)) (harts' : ℕ) (stop : Stop ScheduleFault) (none : List Event) → none ≡ [] → harts' ≡ harts → SoFar h now held' none k f
        → IsNextLine harts' now now1 held' held1 (Err stop) → RunsLines harts s count h old now1 held held1 f0 f stop
    runs-stop now1 held1 harts' stop none is same so next =
        let all : (ending : Ending) → answer_at (events_alone (length so.done)) ending ≡ count_answer (preceded so.done (ends ending)) =
        λ ending. ap (λ n. answer_at (events_alone n) ending) (ap length (sym (append-nil so.done))) in
        record {
          events = so.done;
          history = so.history;
          fetched = so.fetched;
          follows = follows-stop count_answer harts old now now1 held held' held1 so.done (events_alone (length so.done)) stop all (here none is so)
              (subst (λ k. IsNextLine k now now1 held' held1 (Err stop)) same next);
        }
