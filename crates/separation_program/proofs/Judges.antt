-- From the lines of a policy and of a schedule, to what a part of a call did with them.
use Rattle.std.proofs.Common.{◌≡◌, ◌≢◌, ◌+◌, ◌++◌, [], ℕ, List, Option, Some, None, true, false, refl, sym, ap, subst}
use Rattle.coy_io.specs.Causes.{Rose}
use Rattle.coy_io.specs.Lines.{Part}
use Rattle.coy_io.specs.Reader.{Reader, ahead, bytes_ahead}
use Rattle.coy_io.proofs.GivenLaws.{GivesLines-trans}
use Rattle.kernel_core.specs.Run.{run_state}
use Rattle.kernel_core.specs.State.{State}
use Rattle.judged_lines.specs.declared.stop.Stop.{Stop}
use Rattle.judged_lines.specs.declared.stop.Stop.TheVariants as stops
use Rattle.listing_read.specs.declared.object_fault.PolicyFault.{PolicyFault}
use Rattle.listing_read.specs.declared.object_fault.PolicyFault.TheVariants.{NoEnd}
use Rattle.separation_policy.specs.Policy.{PolicyValue}
use Rattle.kernel_core.specs.Outcome.{Touch}
use Rattle.schedule_replay.specs.Scheduled.{OnParts, Scheduled, scheduled}
use Rattle.schedule_replay.proofs.Scheduled.{scheduled-end}
use Rattle.courses.specs.Course.{ComesTo, Course, cached, ends_in}
use Rattle.courses.specs.Ending.{AwaitsMore, Concludes, HasCauses}
use Rattle.courses.specs.Exit.{is_finished}
use Rattle.courses.specs.Stopped.{stop_exit}
use Rattle.courses.specs.Taken.{TakesLines}
use Rattle.courses.specs.declared.exit.Exit.{Exit}
use Rattle.courses.specs.declared.exit.Exit.TheVariants.{PolicyRefused, ReadFault, TooLong}
use Rattle.courses.proofs.Concluding.{came-unread, takes-concluded}
use Rattle.courses.proofs.Rests.{TellsAlone, failed-unread, stop-stopped}
use Rattle.separation_program.specs.Judged.{judging, stated_output}
use Rattle.separation_program.specs.Stated.{AreStated, IsOver, PastEnd, RefusedAt, Stated, States, StatesRest, stated}
use Rattle.separation_program.specs.Text.{told_for}
use Rattle.separation_program.specs.declared.words.Aim.{Aim}
use Rattle.separation_program.proofs.Verdicts.{told-finished}

-- what a call did with a sink it did with what that is known to be
pub from-start : {S K : Type 0} (held : S → Option (List ℕ)) (source_faults : S → ℕ) (taken : K → Option (List ℕ)) (sink_faults : K → ℕ)
    (lines lines' : Reader) (old new : S) (mid out start : K) (exit : Exit) (course : List Part → Course) (count : List Touch → ℕ) → mid ≡ start
    → TakesLines held source_faults taken sink_faults lines lines' old new mid out 0 0 exit count course → TakesLines held source_faults taken sink_faults lines lines' old new start out 0 0 exit count course
from-start held source_faults taken sink_faults lines lines' old new mid out start exit course count same t =
    subst (λ k. TakesLines held source_faults taken sink_faults lines lines' old new k out 0 0 exit count course) same t

-- what is so of a policy with all lines behind it is so of what the known lines state
pub on_stated : (first last : PolicyValue) (n k : ℕ) (old new : Option (List Part)) (P : Stated → Type 0) → AreStated first n old last k new
    → OnParts new (λ rest. P (States last k rest)) → OnParts old (λ parts. P (stated first n parts))
on_stated first last n k None new P all is = tt
on_stated first last n k (Some parts) None P all is = absurd all
on_stated first last n k (Some parts) (Some rest) P all is = subst P (sym all) is

-- where lines of a policy are not all read, no more is told than why
tells : (aim : Aim) (s : State) (harts : ℕ) (policy : PolicyValue) (n : ℕ) → TellsAlone (λ st. ends_in (stated_output (told_for aim) s harts st)) (States policy n []) RefusedAt PastEnd PolicyRefused
tells aim s harts policy n = record {
  refusal = λ line fault. refl;
  limit = refl;
  given = λ line fault. record { read = λ bad. cc; write = λ bad. cc; memory = λ bad. cc };
  form = λ line fault bad. cc;
  unfinished = λ line fault. refl;
  going = subst (λ (all : Scheduled). is_finished (judging (told_for aim) policy s all).exit ≡ true) (sym (scheduled-end harts n)) (told-finished policy (run_state s []) aim);
  records = refl;
  touches = refl;
}

-- where the lines of a policy gave no exit, it is over
pub over-at : (first policy : PolicyValue) (old new : Reader) (held held' : Option (List ℕ)) (stop : Stop PolicyFault) → stop ≡ stops.End → StatesRest first policy old new held held' stop
    → IsOver first policy old new held held'
over-at first policy old new held held' stop is r = subst (StatesRest first policy old new held held') is r

-- a policy that was not read to its end gave no exit of a call that did all
pub policy-open : (given : Exit) (stop : Stop PolicyFault) → stop_exit PolicyRefused stop ≡ Some given → is_finished given ≡ false
policy-open given stops.End at = cc
policy-open given (stops.Refused line fault) at = let same : PolicyRefused line fault ≡ given = cc in subst (λ e. is_finished e ≡ false) same refl
policy-open given stops.TooLong at = let same : TooLong ≡ given = cc in subst (λ e. is_finished e ≡ false) same refl
policy-open given stops.ReadFault at = let same : ReadFault ≡ given = cc in subst (λ e. is_finished e ≡ false) same refl

module _ {S K : Type 0} (held : S → Option (List ℕ)) (source_faults : S → ℕ) (taken : K → Option (List ℕ)) (sink_faults : K → ℕ)
    (aim : Aim) (first policy : PolicyValue) (s : State) (harts : ℕ) (old new : Reader) (source source' : S) where
  abbrev here : List Part → Course
  here parts = ends_in (stated_output (told_for aim) s harts (stated first old.number parts))

  -- the policy was not read to its end, and why was told
  pub policy-stopped : (out out' : K) (exit : Exit) (given : Exit) (stop : Stop PolicyFault) → StatesRest first policy old new (held source) (held source') stop
      → stop_exit PolicyRefused stop ≡ Some given → (stop ≡ stops.ReadFault → Rose (source_faults source) (source_faults source')) → (stop ≢ stops.ReadFault → source_faults source' ≡ source_faults source)
      → Concludes taken sink_faults given out out' exit → TakesLines held source_faults taken sink_faults old new source source' out out' 0 0 exit cached here
  policy-stopped out out' exit given stops.End r at rose quiet c = cc
  policy-stopped out out' exit given (stops.Refused line fault) r at rose quiet c =
      stop-stopped held source_faults taken sink_faults old new source source' out 0 cached refl (stated first old.number) (λ st. ends_in (stated_output (told_for aim) s harts st))
      (States first 0 []) RefusedAt PastEnd PolicyRefused (tells aim s harts first 0) (stops.Refused line fault) r (λ bad. cc) (λ other. quiet (λ bad. cc)) out' 0 exit
      given (let same : PolicyRefused line fault ≡ given = cc in ap Some same) c refl
  policy-stopped out out' exit given stops.TooLong r at rose quiet c =
      stop-stopped held source_faults taken sink_faults old new source source' out 0 cached refl (stated first old.number) (λ st. ends_in (stated_output (told_for aim) s harts st))
      (States first 0 []) RefusedAt PastEnd PolicyRefused (tells aim s harts first 0) stops.TooLong r (λ bad. cc) (λ other. quiet (λ bad. cc)) out' 0 exit
      given (let same : TooLong ≡ given = cc in ap Some same) c refl
  policy-stopped out out' exit given stops.ReadFault r at rose quiet c =
      takes-concluded held source_faults taken sink_faults old new source source' out out 0 0 cached here out' 0 exit given
      (came-unread (let same : given ≡ ReadFault = cc in same)
      (failed-unread held source_faults taken sink_faults old new source source' out 0 cached refl (stated first old.number) (λ st. ends_in (stated_output (told_for aim) s harts st))
      (RefusedAt (new.number + 1) NoEnd) r refl refl refl (rose refl))) c refl

  -- the policy was read, and the schedule behind it judged
  pub policy-over : (mid : Reader) (between : S) (out out' : K) (exit : Exit) → IsOver first policy old mid (held source) (held between) → source_faults between ≡ source_faults source
      → TakesLines held source_faults taken sink_faults mid new between source' out out' 0 0 exit cached (λ parts. ends_in (judging (told_for aim) policy s (scheduled harts mid.number parts)))
      → TakesLines held source_faults taken sink_faults old new source source' out out' 0 0 exit cached here
  policy-over mid between out out' exit over quiet t = record {
    comes = behind (λ st. ComesTo (taken out) (taken out') 0 0 exit cached (ends_in (stated_output (told_for aim) s harts st))) t.comes;
    end = t.end;
    sure = λ failed.
        let f = t.sure failed in
        let r = over.given f.before in
        record {
          before = r.before f.before;
          going = f.going;
          unfinished = f.unfinished;
          given = r.given ++ f.given;
          gives = GivesLines-trans (bytes_ahead old (held source)) (bytes_ahead mid (held between)) (bytes_ahead new (held source')) r.given f.given (r.bytes f.before) f.gives;
          goes_on = subst (λ (st : Stated). AwaitsMore (stated_output (told_for aim) s harts st).exit) (sym (r.makes f.given)) f.goes_on;
          written = f.written;
          fetched = f.fetched;
        };
    usage = t.usage;
    causes = subst (λ k. HasCauses k (source_faults source') (sink_faults out) (sink_faults out') exit) quiet t.causes;
    unwritten = t.unwritten;
    unspent = t.unspent;
  }
    where
      behind : (P : Stated → Type 0) → OnParts (ahead mid (held between)) (λ rest. P (States policy mid.number rest)) → OnParts (ahead old (held source)) (λ parts. P (stated first old.number parts))
      behind P is = on_stated first policy old.number mid.number (ahead old (held source)) (ahead mid (held between)) P over.known is
