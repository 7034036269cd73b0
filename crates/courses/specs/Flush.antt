-- How the program ends after a flush of its output, and what the writer behind the buffer got then.
use Rattle.std.specs.Prelude.{◌≡◌, ◌≢◌, ◌⊎◌, ℕ, List, [], ◌++◌, length, ⊤, Option, Some, None, IfSome, OnOk, Result, Ok, Err}
use Rattle.std.specs.Io.KnownBytes.{Appends, Consumes, Keeps}
use Rattle.std.specs.declared.io.buffered.BufWriter.{BufWriter}
use Rattle.coy_io.specs.Buffered.{gone_out, taken_in}
use Rattle.coy_io.specs.Causes.{HasCause, Rose}
use Rattle.coy_io.specs.Lines.{whole_lines}
use Rattle.coy_io.specs.declared.adapters.WriteSink.{WriteSink}
use Rattle.coy_io.specs.declared.writing.WriteFault.{WriteFault}
use Rattle.courses.specs.Course.{Course}
use Rattle.courses.specs.Ending.{Output, Outputs, EndsNothing, HasCauses, IsGiven}
use Rattle.courses.specs.Sure.{WritesSure}
use Rattle.courses.specs.declared.exit.Exit.{Exit}
use Rattle.courses.specs.declared.exit.Exit.TheVariants as exits

-- a flush that fails is a fault of writing; a fault of reading came before it
abbrev pub exit_after : {T E : Type 0} → Exit → Result T E → Exit
exit_after exit (Ok done) = exit
exit_after exits.ReadFault (Err fault) = exits.ReadFault
exit_after _ (Err fault) = exits.WriteFault

-- the output was flushed behind a call that ended so: where that was Ok the writer got all that the sink had taken, and
-- otherwise a fault was counted; no byte was lost
pub record EndsFlushed (taken taken' gone' : Option (List ℕ)) (faults faults' : ℕ) (exit exit' : Exit) : Type 0 where
  pub flushed : Result ⊤ WriteFault
  pub ends : exit' ≡ exit_after exit flushed
  pub out : OnOk flushed (Keeps taken gone')
  pub kept : Keeps taken taken'
  pub cause : HasCause faults faults' flushed

-- the known bytes are a front of those that there were with this text behind them
abbrev pub AreFront : Option (List ℕ) → Option (List ℕ) → List ℕ → Type 0
AreFront None new text = ⊤
AreFront (Some old) None text = ⊥
AreFront (Some old) (Some new) text = (rest : List ℕ) × (old ++ text ≡ new ++ rest)

-- what the writer got and the exit are those of an output; where writing failed it got a front of the text, and where
-- memory was wanting nothing
pub record GoesOut (old new : Option (List ℕ)) (exit : Exit) (o : Output) : Type 0 where
  pub whole : IsGiven exit → (exit ≡ o.exit) × Appends old new o.text
  pub part : exit ≡ exits.WriteFault → AreFront old new o.text
  pub nothing : exit ≡ exits.OutOfMemory → Keeps old new

-- the writer got this text, or where the sink's count of faults rose, a front of it
abbrev pub Reaches : Option (List ℕ) → Option (List ℕ) → ℕ → ℕ → List ℕ → Type 0
Reaches old new faults faults' text = ((faults' ≡ faults) × Appends old new text) ⊎ (Rose faults faults' × AreFront old new text)

-- reading failed behind these bytes, no whole line of which ended the call: the writer got the records that they make sure, no
-- more and no less, or where the flush failed too, a front of them
pub record GoesOutSure (held held' old new : Option (List ℕ)) (faults faults' : ℕ) (course : List ℕ → Course) : Type 0 where
  pub bytes : List ℕ
  pub read : Consumes held held' bytes
  pub goes_on : EndsNothing (length (whole_lines [] bytes)) (course bytes).last.exit
  pub got : Reaches old new faults faults' (course bytes).records

-- what a program did with its input and its sink, whose output is not flushed yet, by the bytes that are read for its
-- words where they are known, what it writes for these, and what bytes make sure behind which reading failed
pub record AnswersFor {S K : Type 0} (held : S → Option (List ℕ)) (source_faults : S → ℕ)
    (taken : K → Option (List ℕ)) (sink_faults : K → ℕ) (input input' : S) (output output' : K) (exit : Exit)
    (read_of : Option (List ℕ) → Option (List ℕ)) (out : List ℕ → Output) (sure_of : List ℕ → Course) : Type 0 where
  -- what the sink took and the exit are what is written for the known bytes
  pub written : IfSome (read_of (held input)) (λ bytes.
      Outputs (taken output) (taken output') exit (out bytes))
  -- where reading failed, the sink took the records that the bytes make sure which were read
  pub sure : exit ≡ exits.ReadFault →
      WritesSure (held input) (held input') (taken output) (taken output') sure_of
  -- a fault of reading or of writing is that object's
  pub causes : HasCauses (source_faults input) (source_faults input')
      (sink_faults output) (sink_faults output') exit

-- the same of the writer behind the buffer, once that was flushed
pub record GoesOutFor {S W A : Type 0} (held : S → Option (List ℕ)) (source_faults : S → ℕ)
    (contents : W → Option (List ℕ)) (input input' : S) (output output' : WriteSink (BufWriter W A)) (exit : Exit)
    (read_of : Option (List ℕ) → Option (List ℕ)) (out : List ℕ → Output) (sure_of : List ℕ → Course) : Type 0 where
  -- what the writer got and the exit are what is written for the known bytes
  pub written : IfSome (read_of (held input)) (λ bytes.
      GoesOut (taken_in contents output) (gone_out contents output') exit (out bytes))
  -- where reading failed, the writer got the records that the bytes make sure which were read
  pub sure : exit ≡ exits.ReadFault → GoesOutSure (held input) (held input')
      (taken_in contents output) (gone_out contents output') output.faults output'.faults sure_of
  -- a fault of reading is the source's
  pub read : exit ≡ exits.ReadFault → Rose (source_faults input) (source_faults input')
  pub read_quiet : exit ≢ exits.ReadFault → source_faults input' ≡ source_faults input
  -- one of writing is the sink's, and behind one of reading its flush may have failed as well
  pub write : exit ≡ exits.WriteFault → Rose output.faults output'.faults
  pub write_quiet : exit ≢ exits.WriteFault → exit ≢ exits.ReadFault → output'.faults ≡ output.faults
