-- Line by line, what the lines of a cut state.
use Rattle.std.proofs.Common.{◌≡◌, ◌+◌, ◌∙◌, ◌∷◌, [], ℕ, List, Option, Result, Ok, Err, refl, sym, ap}
use Rattle.coy_io.specs.Lines.{Part, Line, LongLine, PastLimit}
use Rattle.coy_io.specs.Reader.{Reader}
use Rattle.confinement.specs.Cut.{Sides}
use Rattle.confine_check.specs.CutLine.{after_line, cut_line, refusal}
use Rattle.confine_check.specs.declared.block.Block.{Block}
use Rattle.listing_read.specs.declared.object_fault.CutFault.{CutFault}
use Rattle.listing_read.specs.declared.object_fault.CutFault.TheVariants.{LineTooLong}
use Rattle.judged_lines.specs.Judged.{JudgesAll}
use Rattle.judged_lines.specs.declared.stop.Stop.{Stop}
use Rattle.judged_lines.proofs.Made.{Follows}
use Rattle.kernel_core.specs.State.{State}
use Rattle.courses.specs.declared.exit.Exit.TheVariants.{CutRefused}
use Rattle.courses.proofs.Rests.{TellsAlone, makes-rest}
use Rattle.confine_command.specs.Confine.{checked}
use Rattle.confine_command.specs.Stated.{JudgesCut, PastEnd, RefusedAt, StatesRest, StatesSides, stated, stated_with}

module _ (sides : Sides) (n : ℕ) where
  stated-end : stated sides n [] ≡ StatesSides sides
  unfolding stated
  stated-end = refl

  stated-long : (parts : List Part) → stated sides n (LongLine ∷ parts) ≡ RefusedAt (n + 1) LineTooLong
  unfolding stated
  stated-long parts = refl

  stated-past : (parts : List Part) → stated sides n (PastLimit ∷ parts) ≡ PastEnd
  unfolding stated
  stated-past parts = refl

  stated-line : (line : List ℕ) (parts : List Part)
      → stated sides n (Line line ∷ parts) ≡ stated_with (n + 1) (cut_line sides line) (stated (after_line sides (cut_line sides line)) (n + 1) parts)
  unfolding stated
  stated-line line parts = refl

  -- a line that is taken leaves it to those behind it what is stated
  stated-taken : (sides' : Sides) (line : List ℕ) (done : Unit {0}) (parts : List Part) → JudgesCut sides line (Ok done) sides' → stated sides n (Line line ∷ parts) ≡ stated sides' (n + 1) parts
  stated-taken sides' line done parts judged =
      stated-line line parts ∙ by (cut_line sides line) judged.0 ∙ ap (λ (x : Sides). stated x (n + 1) parts) (sym judged.1)
    where
      by : (told : Result (Option Block) CutFault) → Ok done ≡ refusal told
          → stated_with (n + 1) told (stated (after_line sides (cut_line sides line)) (n + 1) parts) ≡ stated (after_line sides (cut_line sides line)) (n + 1) parts
      by (Ok block) taken = refl
      by (Err fault) taken = cc

  -- and one that is refused ends the cut
  stated-refused : (sides' : Sides) (line : List ℕ) (fault : CutFault) (parts : List Part) → JudgesCut sides line (Err fault) sides' → stated sides n (Line line ∷ parts) ≡ RefusedAt (n + 1) fault
  stated-refused sides' line fault parts judged = stated-line line parts ∙ by (cut_line sides line) judged.0
    where
      by : (told : Result (Option Block) CutFault) → Err fault ≡ refusal told
          → stated_with (n + 1) told (stated (after_line sides (cut_line sides line)) (n + 1) parts) ≡ RefusedAt (n + 1) fault
      by (Ok block) bad = cc
      by (Err other) bad = let same : fault ≡ other = cc in ap (RefusedAt (n + 1)) (sym same)

-- what is stated follows the judge of each line
follows : Follows JudgesCut LineTooLong stated (λ sides n. StatesSides sides) RefusedAt PastEnd
follows = record {
  end = λ sides n. stated-end sides n;
  long_line = λ sides n parts. stated-long sides n parts;
  past_limit = λ sides n parts. stated-past sides n parts;
  takes = λ sides sides' n line done parts judged. stated-taken sides n sides' line done parts judged;
  refuses = λ sides sides' n line fault parts judged. stated-refused sides n sides' line fault parts judged;
}

-- lines were judged, and then they end
pub states-rest : (first last : Sides) (old new : Reader) (held held' : Option (List ℕ)) (stop : Stop CutFault) → JudgesAll JudgesCut LineTooLong first last old new held held' stop
    → StatesRest first last old new held held' stop
states-rest first last old new held held' stop a = makes-rest JudgesCut LineTooLong stated (λ sides n. StatesSides sides) RefusedAt PastEnd follows first last old new held held' stop a

-- where they are not all read, no more is told than why
pub tells : (s : State) (sides : Sides) → TellsAlone (checked s) (StatesSides sides) RefusedAt PastEnd CutRefused
tells s sides = record {
  refusal = λ line fault. refl;
  limit = refl;
  given = λ line fault. record { read = λ bad. cc; write = λ bad. cc; memory = λ bad. cc };
  form = λ line fault bad. cc;
  unfinished = λ line fault. refl;
  going = refl;
  records = refl;
  touches = refl;
}
