-- No more slots are fetched than the bounds on what a run comes to.
use Rattle.std.proofs.Common.{◌≤◌, ◌+◌, ◌*◌, ℕ, List, Bool, true, false, if◌then◌else◌, nat_lt, arith}
use Rattle.cap_format.specs.declared.kind.CapKind.TheVariants.{Process}
use Rattle.coy_io.specs.Lines.{Part}
use Rattle.image_builder.specs.Boot.{booted}
use Rattle.listing_read.specs.Statement.{ListingValue}
use Rattle.object_store.specs.Store.{size_of}
use Rattle.walk_meaning.specs.Trail.{slots}
use Rattle.walk_meaning.proofs.SlotsLaw.{slots_law}
use Rattle.machine_state.specs.declared.event.Event.{Event}
use Rattle.kernel_core.specs.Run.{run_state, run_touches}
use Rattle.kernel_core.specs.State.{State, space_of}
use Rattle.map_cache.specs.Kept.{nothing}
use Rattle.fetch_economy.proofs.Bound.{bound_in_every_run, slot_reads-most}
use Rattle.fetch_economy.proofs.Economic.{fetch_economy}
use Rattle.run_economy.proofs.Events.{run-ages}
use Rattle.schedule_commands.specs.declared.command.ScheduleCommand.{ScheduleCommand}
use Rattle.schedule_commands.specs.declared.command.ScheduleCommand.TheVariants.{Of}
use Rattle.coyotos_words.specs.declared.command.RunCommand.TheVariants.{Walk}
use Rattle.courses.proofs.Sound.{IsSound}
use Rattle.schedule_commands.specs.Finished.{course_behind, fetches_for, accesses_for, printed_for, schedule_course}
use Rattle.courses.specs.Running.{if_ended}
use Rattle.schedule_replay.specs.Replay.{run_answer}
use Rattle.schedule_replay.specs.Scheduled.{Scheduled, scheduled}
use Rattle.schedule_replay.specs.declared.replayed.Replayed.{Replayed}
use Rattle.schedule_replay.specs.declared.replayed.Replayed.TheVariants as answers

-- what is fetched for the last text is at most 32 for each access that is made for it and 16 for each GPT that is printed
for-most : (command : ScheduleCommand) (s : State) → fetches_for command s ≤ 32 * accesses_for command s + 16 * printed_for command s
for-most (Of (Walk process kind address)) s = on (nat_lt process (size_of s.store.items Process))
  where
    on : (is : Bool) → (if is then slots s.store.items (space_of s process) address kind else 0) ≤ 32 * (if is then 1 else 0) + 16 * 0
    on true = omega (arith, slots_law s.store.items (space_of s process) address kind)
    on false = omega arith
for-most _ s = omega arith

last-most : (command : ScheduleCommand) (s : State) (answer : Replayed)
    → if_ended (fetches_for command s) answer ≤ 32 * if_ended (accesses_for command s) answer + 16 * if_ended (printed_for command s) answer
last-most command s (answers.Ended counts) = for-most command s
last-most command s _ = omega arith

-- a run and what is written behind it is within the bounds
behind-sound : (command : ScheduleCommand) (s : State) (events : List Event) (answer : Replayed) → IsSound (course_behind command s events answer)
behind-sound command s events answer =
    let touches = run_touches s events in
    let end = run_state s events in
    let bound = bound_in_every_run nothing touches in
    let reads = slot_reads-most touches in
    let last = last-most command end answer in
    record {
      run = omega (arith, bound, reads, last);
      economy = λ fits. let few = (fetch_economy s.store.items end.store.items touches (run-ages s events) fits).few in omega (arith, few, reads, last);
      sharp_run = omega (arith, bound, last);
      sharp_economy = λ fits. let few = (fetch_economy s.store.items end.store.items touches (run-ages s events) fits).few in omega (arith, few, last);
    }

-- with whatever listing
pub schedule-sound : (command : ScheduleCommand) (listing : ListingValue) (last : ℕ) (rest : List Part) → IsSound (schedule_course command listing last rest)
schedule-sound command listing last rest =
    let all : Scheduled = scheduled listing.sizes.harts last rest in
    behind-sound command (booted listing) all.events (run_answer (booted listing) all)
