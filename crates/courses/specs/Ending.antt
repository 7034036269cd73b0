-- A text and an exit, and the last lines of the program.
use Rattle.std.specs.Prelude.{◌≡◌, ◌≢◌, ◌≤◌, ◌+◌, ◌⊎◌, ℕ, true, List, [], ◌++◌, codes, decimal, Option}
use Rattle.std.specs.Io.KnownBytes.{Keeps, Appends}
use Rattle.coy_io.specs.Causes.{Rose}
use Rattle.coy_io.specs.Pieces.{AppendsSome}
use Rattle.image_binary.specs.declared.fault.ImageWord.TheVariants.{Cut}
use Rattle.listing_read.specs.declared.object_fault.PolicyFault.TheVariants.{NoEnd}
use Rattle.listing_read.specs.declared.object_fault.QuestionFault.TheVariants as questions
use Rattle.courses.specs.Names.{fault_name, schedule_fault_name, image_word_name, cut_fault_name, policy_fault_name, question_fault_name}
use Rattle.courses.specs.Exit.{is_finished}
use Rattle.courses.specs.declared.exit.Exit.{Exit}
use Rattle.courses.specs.declared.exit.Exit.TheVariants.{ListingRefused, ScheduleRefused, ReadFault, WriteFault, OutOfMemory, TooLong, ImageRefused, CutRefused, PolicyRefused, QuestionRefused}

-- a text and an exit
pub record Output : Type 0 where
  pub text : List ℕ
  pub exit : Exit

-- this text comes first
abbrev pub before : List ℕ → Output → Output
before text o = record { text = text ++ o.text; exit = o.exit }

-- the number of the line that is refused, and why
abbrev pub refusal_text : ℕ → List ℕ → List ℕ
refusal_text line name = codes "refused " ++ decimal line ++ codes " " ++ name ++ codes "\n"

-- the offset of the field of an image that is refused, and why
unfoldable pub offset_text : ℕ → List ℕ → List ℕ
offset_text offset name = codes "refused at " ++ decimal offset ++ codes " " ++ name ++ codes "\n"

-- the line that tells an exit: which line or field was refused, and why, or that the input goes on behind the last byte that is
-- read; no other has one
abbrev pub end_line : Exit → List ℕ
end_line (ListingRefused line fault) = refusal_text line (fault_name fault)
end_line (ScheduleRefused line fault) = refusal_text line (schedule_fault_name fault)
end_line (CutRefused line fault) = refusal_text line (cut_fault_name fault)
end_line (PolicyRefused line fault) = refusal_text line (policy_fault_name fault)
end_line (QuestionRefused line fault) = refusal_text line (question_fault_name fault)
end_line (ImageRefused offset fault) = offset_text offset (image_word_name fault)
end_line TooLong = codes "too long" ++ codes "\n"
end_line _ = []

-- a call ends so, and tells it
abbrev pub told_end : Exit → Output
told_end exit = record { text = end_line exit; exit = exit }

-- lines behind a listing end nothing: all was done with them, or their policy or question lacks its end
abbrev pub AwaitsMore : Exit → Type 0
AwaitsMore (PolicyRefused line fault) = fault ≡ NoEnd
AwaitsMore (QuestionRefused line fault) = fault ≡ questions.NoEnd
AwaitsMore exit = is_finished exit ≡ true

-- so many lines end nothing: those behind the listing don't, or the listing is not over and lacks the line behind them all; or
-- they are no lines but bytes of an image, which lacks those behind them all
abbrev pub EndsNothing : ℕ → Exit → Type 0
EndsNothing n (ListingRefused line fault) = line ≡ n + 1
EndsNothing n (ImageRefused offset fault) = fault ≡ Cut
EndsNothing n exit = AwaitsMore exit

-- an exit that no fault of reading or writing and no want of memory gave
pub record IsGiven (exit : Exit) : Type 0 where
  pub read : exit ≢ ReadFault
  pub write : exit ≢ WriteFault
  pub memory : exit ≢ OutOfMemory

-- what a call wrote and the exit that it gave are those of an output; where writing failed, it wrote a front of the
-- text, and where memory was wanting nothing
pub record Outputs (old new : Option (List ℕ)) (exit : Exit) (o : Output) : Type 0 where
  pub whole : IsGiven exit → (exit ≡ o.exit) × Appends old new o.text
  pub part : exit ≡ WriteFault → AppendsSome old new o.text
  pub nothing : exit ≡ OutOfMemory → Keeps old new

-- how many slots a call fetched: all of these where no fault of reading or writing and no want of memory ended it, and
-- never more
pub record Fetches (old new : ℕ) (exit : Exit) (all : ℕ) : Type 0 where
  pub whole : IsGiven exit → new ≡ old + all
  pub most : new ≤ old + all

-- why a call ends with a fault of reading or of writing, by the counts of both objects' faults: that object's count rose, and
-- where it ends otherwise, the count stayed
pub record HasCauses (unread unread' unwritten unwritten' : ℕ) (exit : Exit) : Type 0 where
  pub read : exit ≡ ReadFault → Rose unread unread'
  pub read_quiet : exit ≢ ReadFault → unread' ≡ unread
  pub write : exit ≡ WriteFault → Rose unwritten unwritten'
  pub write_quiet : exit ≢ WriteFault → unwritten' ≡ unwritten

-- an output's exit was given and its whole text was written, or memory was wanting and nothing was written
abbrev pub Completes : Option (List ℕ) → Option (List ℕ) → Exit → Output → Type 0
Completes old new exit o = ((exit ≡ o.exit) × Appends old new o.text) ⊎ ((exit ≡ OutOfMemory) × Keeps old new)

-- the last text was written as far as writing came: how the program ends then, and the count of the sink's faults
pub record Ends (old new : Option (List ℕ)) (faults faults' : ℕ) (exit : Exit) (o : Output) : Type 0 where
  pub output : Outputs old new exit o
  pub given : exit ≢ WriteFault → exit ≡ o.exit
  pub write : exit ≡ WriteFault → Rose faults faults'
  pub write_quiet : exit ≢ WriteFault → faults' ≡ faults

-- the same of a sink, by what it tells of itself
abbrev pub EndsIn : {K : Type 0} → (K → Option (List ℕ)) → (K → ℕ) → K → K → Exit → Output → Type 0
EndsIn taken faults old new exit o = Ends (taken old) (taken new) (faults old) (faults new) exit o

-- how a call ends whose lines gave this exit: with nothing more where reading or writing had failed or memory was wanting, and
-- otherwise by the line that tells it, as far as writing came
abbrev pub Concludes : {K : Type 0} → (K → Option (List ℕ)) → (K → ℕ) → Exit → K → K → Exit → Type 0
Concludes taken faults ReadFault old new exit = (exit ≡ ReadFault) × (new ≡ old)
Concludes taken faults WriteFault old new exit = (exit ≡ WriteFault) × (new ≡ old)
Concludes taken faults OutOfMemory old new exit = (exit ≡ OutOfMemory) × (new ≡ old)
Concludes taken faults given old new exit = EndsIn taken faults old new exit (told_end given)
