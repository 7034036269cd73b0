-- What the lines behind a listing state: a policy, and the lines of a schedule behind its end; or the first line that is refused,
-- which is the one behind the last where the policy has no end (this project's own).
use Rattle.std.specs.Prelude.{◌≡◌, ℕ, ◌+◌, false, List, [], ◌∷◌, Option, Some, None, Result, Ok, Err, ⊤}
use Rattle.coy_io.specs.Lines.{Part, Line, LongLine, PastLimit}
use Rattle.coy_io.specs.Reader.{Reader, ahead}
use Rattle.separation_policy.specs.Policy.{PolicyValue}
use Rattle.separation_lines.specs.DomainsLine.{line_answer, line_policy}
use Rattle.listing_read.specs.declared.object_fault.PolicyFault.{PolicyFault}
use Rattle.listing_read.specs.declared.object_fault.PolicyFault.TheVariants.{LineTooLong, NoEnd}
use Rattle.separation_lines.specs.declared.said.Next.{Next}
use Rattle.separation_lines.specs.declared.said.Next.TheVariants as nexts
use Rattle.judged_lines.specs.declared.stop.Stop.{Stop}
use Rattle.judged_lines.specs.declared.stop.Stop.TheVariants as stops
use Rattle.schedule_replay.specs.Lines.{FailsOn, ReadsOn}
use Rattle.schedule_replay.specs.Scheduled.{OnParts}

-- what lines state: this policy, with the number of its line `end` and the lines of the schedule behind that; or nothing, since a
-- line is refused or the input goes on behind the last byte that is read
pub data Stated : Type 0 where
  States : (policy : PolicyValue) (last : ℕ) (rest : List Part) → Stated
  RefusedAt : (line : ℕ) (fault : PolicyFault) → Stated
  PastEnd : Stated

-- what line `n` states with the lines `rest` behind it: what these state, or where it ends the policy that this is it
abbrev pub stated_with : PolicyValue → ℕ → List Part → Result Next PolicyFault → Stated → Stated
stated_with policy n rest (Ok nexts.Policy) behind = behind
stated_with policy n rest (Ok nexts.Schedule) behind = States policy n rest
stated_with policy n rest (Err fault) behind = RefusedAt n fault

-- what the lines behind line `n` state, where those before gave this policy
unfoldable pub stated : PolicyValue → ℕ → List Part → Stated
stated policy n [] = RefusedAt (n + 1) NoEnd
stated policy n (LongLine ∷ parts) = RefusedAt (n + 1) LineTooLong
stated policy n (PastLimit ∷ parts) = PastEnd
stated policy n (Line line ∷ parts) =
    stated_with policy (n + 1) parts (line_answer policy line) (stated (line_policy policy line) (n + 1) parts)

-- how a line is judged by itself: what is told of it, and the policy after it
pub record JudgesPolicyLine (policy : PolicyValue) (line : List ℕ) (told : Result Next PolicyFault) (policy' : PolicyValue) : Type 0 where
  pub answer : told ≡ line_answer policy line
  pub after : policy' ≡ line_policy policy line

-- why there is no further line of a policy, behind `n` lines of which none ends it: where there is none at all, it lacks its end
abbrev pub without_end : ℕ → Stop PolicyFault → Stop PolicyFault
without_end n stops.End = stops.Refused (n + 1) NoEnd
without_end n stop = stop

-- ---- lines as they are read

-- the known lines state this policy, the last line of it is this one, and these lines are left
abbrev pub AreStated : PolicyValue → ℕ → Option (List Part) → PolicyValue → ℕ → Option (List Part) → Type 0
AreStated first n None policy last left = ⊤
AreStated first n (Some parts) policy last None = ⊥
AreStated first n (Some parts) policy last (Some rest) = stated first n parts ≡ States policy last rest

-- the policy was read: it is stated by the known lines, and where the input goes on behind it, by those that were given,
-- whatever follows
pub record IsOver (first policy : PolicyValue) (old new : Reader) (held held' : Option (List ℕ)) : Type 0 where
  pub known : AreStated first old.number (ahead old held) policy new.number (ahead new held')
  pub given : new.ended ≡ false → ReadsOn (stated first old.number) (States policy new.number) old new held held'

-- the lines to come state this
abbrev pub StateAll : PolicyValue → Reader → Option (List ℕ) → Stated → Type 0
StateAll first old held all = OnParts (ahead old held) (λ parts. stated first old.number parts ≡ all)

-- what reading the lines of a policy came to, up to where it ends
abbrev pub StatesRest : PolicyValue → PolicyValue → Reader → Reader → Option (List ℕ) → Option (List ℕ) → Stop PolicyFault → Type 0
StatesRest first policy old new held held' stops.End = IsOver first policy old new held held'
StatesRest first policy old new held held' (stops.Refused line fault) = StateAll first old held (RefusedAt line fault)
StatesRest first policy old new held held' stops.TooLong = StateAll first old held PastEnd
StatesRest first policy old new held held' stops.ReadFault = FailsOn (stated first old.number) (RefusedAt (new.number + 1) NoEnd) old new held held'
