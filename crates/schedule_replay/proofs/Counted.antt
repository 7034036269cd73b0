-- Line by line, how many events lines ask for.
use Rattle.std.proofs.Common.{◌≡◌, ◌≤◌, ◌+◌, ◌*◌, ◌∙◌, ◌++◌, ℕ, List, Option, Err, length, sym, ap, subst, append-nil, arith}
use Rattle.std.proofs.lemmas.List.{length-append}
use Rattle.coy_io.specs.Reader.{Reader}
use Rattle.machine_state.specs.declared.event.Event.{Event}
use Rattle.schedule_replay.specs.Counts.{events_alone}
use Rattle.schedule_replay.specs.Replay.{Counted, answer_at, count_answer, stop_answer}
use Rattle.schedule_replay.specs.Scheduled.{Ending, IsNextLine, Reads, ends, preceded}
use Rattle.schedule_replay.specs.declared.counts.Counts.{Counts}
use Rattle.listing_read.specs.declared.fault.ScheduleFault.{ScheduleFault}
use Rattle.judged_lines.specs.declared.stop.Stop.{Stop}
use Rattle.judged_lines.specs.declared.stop.Stop.TheVariants as stops
use Rattle.schedule_replay.specs.declared.replayed.Replayed.{Replayed}
use Rattle.schedule_replay.specs.declared.replayed.Replayed.TheVariants as answers
use Rattle.schedule_replay.proofs.Scheduled.{reads-trans}
use Rattle.schedule_replay.proofs.SoFar.{follows-stop}

-- no stop is a fault of writing
stop-no-write : (counts : Counts) (stop : Stop ScheduleFault) → stop_answer counts stop ≡ answers.WriteFault → ⊥
stop-no-write counts stops.End same = cc
stop-no-write counts (stops.Refused line fault) same = cc
stop-no-write counts stops.TooLong same = cc
stop-no-write counts stops.ReadFault same = cc

module _ (harts : ℕ) (old : Reader) (held : Option (List ℕ)) where
  -- the lines that were read ask for so many events
  pub record CountsLines (now : Reader) (held' : Option (List ℕ)) (events : ℕ) : Type 0 where
    pub done : List Event
    pub reads : Reads harts old now held held' done
    pub size : events ≡ length done
    pub few : events + 255000000 * old.number ≤ 255000000 * now.number

  module _ (now now1 : Reader) (held' held1 : Option (List ℕ)) (events : ℕ) (c : CountsLines now held' events) where
    -- one line more was read
    pub counts-line : (more : ℕ) (asked : List Event) → Reads harts now now1 held' held1 asked → more ≡ length asked → more ≤ 255000000 → now1.number ≡ now.number + 1
        → CountsLines now1 held1 (events + more)
    counts-line more asked reads size most number =
        let before = c.few in
        let sum = length-append c.done asked in
        let one = c.size in
        record {
          done = c.done ++ asked;
          reads = reads-trans harts old now now1 held held' held1 c.done asked c.reads reads;
          size = omega (arith, sum, one, size);
          few = omega (arith, before, most, number);
        }

    -- no further line was read
    pub counts-stop : (stop : Stop ScheduleFault) (answer : Replayed) → IsNextLine harts now now1 held' held1 (Err stop) → answer ≡ stop_answer (events_alone events) stop → Counted harts old now1 held held1 answer
    counts-stop stop answer next by =
        let all : (ending : Ending) → answer_at (events_alone events) ending ≡ count_answer (preceded c.done (ends ending)) =
        λ ending. ap (λ n. answer_at (events_alone n) ending) (c.size ∙ ap length (sym (append-nil c.done))) in
        subst (Counted harts old now1 held held1) (sym by)
        (record {
          events = c.done;
          written = stop-no-write (events_alone events) stop;
          follows = follows-stop count_answer harts old now now1 held held' held1 c.done (events_alone events) stop all c.reads next;
        })
