-- From the lines that a command judges or passes over, to what it did with them: nothing is written of them before the last is read.
use Rattle.std.proofs.Common.{◌≡◌, ◌≢◌, ◌+◌, ◌∙◌, [], ℕ, List, true, false, Option, Some, None, Result, Ok, refl, sym, ap, ap₂, subst, append-nil, arith}
use Rattle.std.specs.Io.KnownBytes.{Appends, IsAtEnd}
use Rattle.std.proofs.KnownBytes.{Appends-nil}
use Rattle.coy_io.specs.Causes.{Rose}
use Rattle.coy_io.specs.Lines.{Part}
use Rattle.coy_io.specs.Reader.{Reader, ahead}
use Rattle.judged_lines.specs.Judged.{JudgesAll}
use Rattle.judged_lines.specs.declared.stop.Stop.{Stop}
use Rattle.judged_lines.specs.declared.stop.Stop.TheVariants as stops
use Rattle.judged_lines.proofs.Made.{Follows, makes-given, makes-stop}
use Rattle.kernel_core.specs.Outcome.{Touch}
use Rattle.machine_state.specs.declared.event.Event.{Event}
use Rattle.listing_read.specs.declared.fault.ScheduleFault.{ScheduleFault}
use Rattle.schedule_replay.specs.Replay.{Follows as FollowsLines, answer_at, stop_answer}
use Rattle.schedule_replay.specs.Scheduled.{AtEnd, AtFault, AtLimit, Ending, OnParts, Scheduled, scheduled}
use Rattle.schedule_replay.proofs.Ended.{ended-at, past-at, refused-at}
use Rattle.schedule_replay.specs.declared.counts.Counts.{Counts}
use Rattle.schedule_replay.specs.declared.replayed.Replayed.{Replayed}
use Rattle.schedule_replay.specs.declared.replayed.Replayed.TheVariants as answers
use Rattle.schedule_replay.proofs.ReadOn.{fails_on-judged}
use Rattle.schedule_replay.proofs.Reading.{on_all, on_each}
use Rattle.courses.specs.Course.{Course, ends_in}
use Rattle.courses.specs.Ending.{AwaitsMore, Concludes, EndsIn, Fetches, IsGiven, Output, told_end}
use Rattle.courses.specs.Exit.{is_finished}
use Rattle.schedule_replay.specs.Lines.{FailsOn}
use Rattle.courses.proofs.Lasts.{finished-awaits}
use Rattle.courses.specs.Stopped.{MakesRest, replay_exit, stop_exit}
use Rattle.courses.specs.declared.exit.Exit.{Exit}
use Rattle.courses.specs.declared.exit.Exit.TheVariants.{Usage, ReadFault, TooLong, OutOfMemory}
use Rattle.courses.proofs.Concluding.{Came, CameUnread, CameWhole, Did, IsWhole, came-unread, came-whole, takes-concluded, takes-whole}

-- lines were judged, and then they end: this is what they make
pub makes-rest : {Made Said Fault M : Type 0} (judged : Made → List ℕ → Result Said Fault → Made → Type 0) (long : Fault) (all : Made → ℕ → List Part → M) (ends : Made → ℕ → M)
    (refused : ℕ → Fault → M) (past : M) → Follows judged long all ends refused past → (first last : Made) (old new : Reader) (held held' : Option (List ℕ)) (stop : Stop Fault)
    → JudgesAll judged long first last old new held held' stop → MakesRest (all first old.number) (ends last new.number) refused past old new held held' stop
makes-rest judged long all ends refused past by first last old new held held' stops.End a =
    on_each (ahead old held) _ (makes-stop judged long all ends refused past by first last old new held held' stops.End (λ same. cc) a)
makes-rest judged long all ends refused past by first last old new held held' (stops.Refused line fault) a =
    on_each (ahead old held) _ (makes-stop judged long all ends refused past by first last old new held held' (stops.Refused line fault) (λ same. cc) a)
makes-rest judged long all ends refused past by first last old new held held' stops.TooLong a =
    on_each (ahead old held) _ (makes-stop judged long all ends refused past by first last old new held held' stops.TooLong (λ same. cc) a)
makes-rest judged long all ends refused past by first last old new held held' stops.ReadFault a =
    fails_on-judged judged long _ _ first last old new held held' a (makes-given judged long all ends refused past by first last old new held held' a)

-- where there is no exit, all lines were read
pub stop-end : {F : Type 0} (refused : ℕ → F → Exit) (stop : Stop F) → stop_exit refused stop ≡ None → stop ≡ stops.End
stop-end refused stops.End none = refl
stop-end refused (stops.Refused line fault) none = cc
stop-end refused stops.TooLong none = cc
stop-end refused stops.ReadFault none = cc

-- lines alone want no memory
pub stop-given : {F : Type 0} (refused : ℕ → F → Exit) → ((line : ℕ) (fault : F) → refused line fault ≢ OutOfMemory) → (stop : Stop F) → stop_exit refused stop ≡ Some OutOfMemory → ⊥
stop-given refused other stops.End is = cc
stop-given refused other (stops.Refused line fault) is = other line fault (let same : refused line fault ≡ OutOfMemory = cc in same)
stop-given refused other stops.TooLong is = cc
stop-given refused other stops.ReadFault is = cc

-- and where a replay has counts, it ended with these
pub run-ends : (counts : Counts) (a : Replayed) → replay_exit a ≡ Ok counts → a ≡ answers.Ended counts
run-ends counts (answers.Ended c) at = let same : c ≡ counts = cc in ap answers.Ended same
run-ends counts (answers.Refused line fault) at = cc
run-ends counts answers.TooLong at = cc
run-ends counts answers.ReadFault at = cc
run-ends counts answers.WriteFault at = cc

-- these events, and lines of a schedule that end so
abbrev pub at : List Event → Ending → Scheduled
at events ending = record { events = events; ending = ending }

same-at : (events : List Event) (all : Scheduled) (ending : Ending) → events ≡ all.events → all.ending ≡ ending → all ≡ at events ending
same-at events all ending is ends = ap₂ at (sym is) ends

-- what the lines of a schedule make, by why there is no further one, where an answer follows them that has some counts
pub follows-rest : (counts_for : Scheduled → Counts) (harts : ℕ) (old new : Reader) (held held' : Option (List ℕ)) (events : List Event) (counts : Counts) (stop : Stop ScheduleFault)
    → FollowsLines (λ all. answer_at (counts_for all) all.ending) harts old new held held' events (stop_answer counts stop)
    → MakesRest (scheduled harts old.number) (at events AtEnd) (λ line fault. at events (AtFault line fault)) (at events AtLimit) old new held held' stop
follows-rest counts_for harts old new held held' events counts stops.End f =
    on_all (ahead old held) _ _ (λ parts a. same-at events (scheduled harts old.number parts) AtEnd a.0 (ended-at _ _ (scheduled harts old.number parts).ending a.1)) f.lines
follows-rest counts_for harts old new held held' events counts (stops.Refused line fault) f =
    on_all (ahead old held) _ _ (λ parts a. same-at events (scheduled harts old.number parts) (AtFault line fault) a.0 (refused-at line fault _ (scheduled harts old.number parts).ending a.1)) f.lines
follows-rest counts_for harts old new held held' events counts stops.TooLong f =
    on_all (ahead old held) _ _ (λ parts a. same-at events (scheduled harts old.number parts) AtLimit a.0 (past-at _ (scheduled harts old.number parts).ending a.1)) f.lines
follows-rest counts_for harts old new held held' events counts stops.ReadFault f =
    let fails = f.read refl in
    record {
      before = fails.before;
      going = fails.going;
      unfinished = fails.unfinished;
      given = fails.given;
      gives = fails.gives;
      makes = fails.makes ∙ ap (λ es. at es AtEnd) (append-nil events);
    }

-- what a command comes to by what lines make: where not all were read, no more than the line that tells it; where they were, it
-- has done what it does, with no record and no touch before its last text
pub record TellsAlone {M F : Type 0} (of : M → Course) (ends : M) (refused : ℕ → F → M) (past : M) (exit : ℕ → F → Exit) : Type 0 where
  pub refusal : (line : ℕ) (fault : F) → of (refused line fault) ≡ ends_in (told_end (exit line fault))
  pub limit : of past ≡ ends_in (told_end TooLong)
  pub given : (line : ℕ) (fault : F) → IsGiven (exit line fault)
  pub form : (line : ℕ) (fault : F) → exit line fault ≢ Usage
  pub unfinished : (line : ℕ) (fault : F) → is_finished (exit line fault) ≡ false
  pub going : is_finished (of ends).last.exit ≡ true
  pub records : (of ends).records ≡ []
  pub touches : (of ends).touches ≡ []

-- reading failed behind lines that end nothing and of which nothing is written
pub failed-unread : {S K M : Type 0} (held : S → Option (List ℕ)) (source_faults : S → ℕ) (taken : K → Option (List ℕ)) (sink_faults : K → ℕ)
    (reader reader' : Reader) (old new : S) (start : K) (f : ℕ) (count : List Touch → ℕ) → count [] ≡ 0 → (made : List Part → M) (of : M → Course) (ends : M)
    → FailsOn made ends reader reader' (held old) (held new) → AwaitsMore (of ends).last.exit → (of ends).records ≡ [] → (of ends).touches ≡ []
    → Rose (source_faults old) (source_faults new) → CameUnread held source_faults taken sink_faults reader reader' old new start start f f count (λ parts. of (made parts))
failed-unread held source_faults taken sink_faults reader reader' old new start f count none made of ends fails going records touches rose = record {
  stands = record {
    before = fails.before;
    going = fails.going;
    unfinished = fails.unfinished;
    given = fails.given;
    gives = fails.gives;
    goes_on = subst (λ m. AwaitsMore (of m).last.exit) (sym fails.makes) going;
    written =
        subst (λ m. Appends (taken start) (taken start) (of m).records) (sym fails.makes)
        (subst (Appends (taken start) (taken start)) (sym records) (Appends-nil (taken start)));
    fetched =
        subst (λ m. f ≡ f + count (of m).touches) (sym fails.makes)
        (subst (λ t. f ≡ f + count t) (sym touches) (omega (arith, none)));
  };
  most = on_each (ahead reader (held old)) _ (λ parts known. omega arith);
  rose = rose;
  still = refl;
}

module _ {S K : Type 0} (held : S → Option (List ℕ)) (source_faults : S → ℕ) (taken : K → Option (List ℕ)) (sink_faults : K → ℕ)
    (reader reader' : Reader) (old new : S) (start : K) (f : ℕ) (count : List Touch → ℕ) (none : count [] ≡ 0)
    {M F : Type 0} (made : List Part → M) (of : M → Course) (ends : M) (refused : ℕ → F → M) (past : M) (exit_by : ℕ → F → Exit)
    (tells : TellsAlone of ends refused past exit_by) (stop : Stop F)
    (rest : MakesRest made ends refused past reader reader' (held old) (held new) stop)
    (rose : stop ≡ stops.ReadFault → Rose (source_faults old) (source_faults new)) (quiet : stop ≢ stops.ReadFault → source_faults new ≡ source_faults old) where
  abbrev here : List Part → Course
  here parts = of (made parts)

  abbrev Came_here : Exit → Type 0
  Came_here = Came held source_faults taken sink_faults reader reader' old new start start f f count here

  rest-at : (s : Stop F) → stop ≡ s → MakesRest made ends refused past reader reader' (held old) (held new) s
  rest-at s is = subst (MakesRest made ends refused past reader reader' (held old) (held new)) is rest

  quiet-at : (s : Stop F) → stop ≡ s → s ≢ stops.ReadFault → source_faults new ≡ source_faults old
  quiet-at s is other = quiet (λ same. other (sym is ∙ same))

  -- one text is all that comes
  alone : (o : Output) (m : M) → of m ≡ ends_in o → OnParts (ahead reader (held old)) (λ parts. made parts ≡ m) → is_finished o.exit ≡ false → source_faults new ≡ source_faults old
      → CameWhole held source_faults taken sink_faults reader reader' old new start start f f count here o 0
  alone o m is known unfinished quiet = record {
    whole = on_all (ahead reader (held old)) _ _
        (λ parts makes. subst (IsWhole (taken start) (taken start) f f count o 0) (sym (ap of makes ∙ is))
        (record { last = refl; written = Appends-nil (taken start); fetched = omega (arith, none); for_last = refl })) known;
    end = λ done. let bad : false ≡ true = sym unfinished ∙ done in cc;
    quiet = quiet;
    still = refl;
  }

  -- reading failed
  unread : stop ≡ stops.ReadFault → CameUnread held source_faults taken sink_faults reader reader' old new start start f f count here
  unread is =
      failed-unread held source_faults taken sink_faults reader reader' old new start f count none made of ends (rest-at stops.ReadFault is)
      (finished-awaits (of ends).last.exit tells.going) tells.records tells.touches (rose is)

  came-stop : (given : Exit) (s : Stop F) → stop ≡ s → stop_exit exit_by s ≡ Some given → Came_here given
  came-stop given stops.End is at = cc
  came-stop given (stops.Refused line fault) is at =
      let same : exit_by line fault ≡ given = cc in
      subst Came_here same
      (came-whole (tells.given line fault) (tells.form line fault)
      (alone (told_end (exit_by line fault)) (refused line fault) (tells.refusal line fault) (rest-at (stops.Refused line fault) is) (tells.unfinished line fault)
      (quiet-at (stops.Refused line fault) is (λ bad. cc))))
  came-stop given stops.TooLong is at =
      let same : TooLong ≡ given = cc in
      subst Came_here same
      (came-whole (record { read = λ bad. cc; write = λ bad. cc; memory = λ bad. cc }) (λ bad. cc)
      (alone (told_end TooLong) past tells.limit (rest-at stops.TooLong is) refl (quiet-at stops.TooLong is (λ bad. cc))))
  came-stop given stops.ReadFault is at = came-unread (let same : given ≡ ReadFault = cc in same) (unread is)

  module _ (out : K) (h : ℕ) (exit : Exit) where
    abbrev Did_here : Type 0
    Did_here = Did held source_faults taken sink_faults reader reader' old new start start f f count here out h exit

    -- all lines were read, and what the command does then was done
    pub stop-ended : stop_exit exit_by stop ≡ None → IsGiven (of ends).last.exit → (of ends).last.exit ≢ Usage → EndsIn taken sink_faults start out exit (of ends).last
        → Fetches f h exit (of ends).last_fetches → (stop ≡ stops.End → IsAtEnd (held new)) → Did_here
    stop-ended at given form e fetched end =
        let is = stop-end exit_by stop at in
        takes-whole held source_faults taken sink_faults reader reader' old new start start f f count here out h exit (of ends).last (of ends).last_fetches given form e fetched
        (record {
          whole = on_all (ahead reader (held old)) _ _
              (λ parts makes. subst (λ (m : M). IsWhole (taken start) (taken start) f f count (of ends).last (of ends).last_fetches (of m)) (sym makes)
              (record {
                last = refl;
                written = subst (Appends (taken start) (taken start)) (sym tells.records) (Appends-nil (taken start));
                fetched = subst (λ t. f ≡ f + count t) (sym tells.touches) (omega (arith, none));
                for_last = refl;
              })) (rest-at stops.End is);
          end = λ done. end is;
          quiet = quiet-at stops.End is (λ bad. cc);
          still = refl;
        })

    -- they were not, and why was told
    pub stop-stopped : (given : Exit) → stop_exit exit_by stop ≡ Some given → Concludes taken sink_faults given start out exit → h ≡ f → Did_here
    stop-stopped given at c spent =
        takes-concluded held source_faults taken sink_faults reader reader' old new start start f f count here out h exit given (came-stop given stop refl at) c spent
