-- What is known of the exit that a flush leaves, and of what went out.
use Rattle.std.proofs.Common.{◌≡◌, ◌≤◌, ℕ, List, [], ◌++◌, take, drop, Option, None, Some, Result, Ok, Err, IfSome, OnOk, refl, sym, ap, subst, ◌∙◌, inl, inr, append_assoc, append-nil, take-append-drop, arith}
use Rattle.std.specs.Prelude.{◌≢◌}
use Rattle.std.specs.Io.KnownBytes.{Appends, Keeps, append_known}
use Rattle.std.proofs.KnownBytes.{Appends-kept, Keeps-trans}
use Rattle.std.specs.declared.io.buffered.BufWriter.{BufWriter}
use Rattle.coy_io.specs.Buffered.{gone_out, taken_in}
use Rattle.coy_io.specs.Causes.{HasCause, Rose, counted}
use Rattle.coy_io.specs.Pieces.{AppendsSome}
use Rattle.coy_io.specs.declared.adapters.WriteSink.{WriteSink}
use Rattle.courses.specs.Course.{Course}
use Rattle.courses.specs.Sure.{WritesSure}
use Rattle.courses.specs.declared.exit.Exit.{Exit}
use Rattle.courses.specs.declared.exit.Exit.TheVariants.{ReadFault, WriteFault, OutOfMemory}
use Rattle.courses.specs.Exit.{status_of}
use Rattle.courses.specs.Ending.{Output, IsGiven, Outputs}
use Rattle.courses.specs.Flush.{exit_after, AnswersFor, AreFront, EndsFlushed, GoesOut, GoesOutFor, GoesOutSure, Reaches}

-- what a sink took, of which some is still in its buffer
front_of : (old mid sent : Option (List ℕ)) (buffer front behind text : List ℕ) → Appends old mid front → text ≡ front ++ behind → Keeps mid (append_known sent buffer)
    → AreFront old sent text
front_of None mid sent buffer front behind text took parts kept = tt
front_of (Some x) None sent buffer front behind text took parts kept = absurd took
front_of (Some x) (Some y) None buffer front behind text took parts kept = absurd kept
front_of (Some x) (Some y) (Some z) buffer front behind text took parts kept = (
  buffer ++ behind,
  ap (λ l. x ++ l) parts ∙ sym (append_assoc x front behind) ∙ ap (λ l. l ++ behind) (sym took ∙ sym kept) ∙ append_assoc z buffer behind,
)

none_took : (old mid : Option (List ℕ)) → Keeps old mid → Appends old mid []
none_took None mid kept = tt
none_took (Some x) None kept = absurd kept
none_took (Some x) (Some y) kept = kept ∙ sym (append-nil x)

given_by : (exit : Exit) → (status_of exit ≡ 4 → ⊥) → (status_of exit ≡ 5 → ⊥) → (status_of exit ≡ 6 → ⊥) → IsGiven exit
given_by exit four five six = record {
  read = λ same. four (ap status_of same);
  write = λ same. five (ap status_of same);
  memory = λ same. six (ap status_of same);
}

module _ (old mid sent : Option (List ℕ)) (buffer : List ℕ) (o : Output) (kept : Keeps mid (append_known sent buffer)) where
  some_front : AppendsSome old mid o.text → AreFront old sent o.text
  some_front some = front_of old mid sent buffer (take some.0 o.text) (drop some.0 o.text) o.text some.2 (sym (take-append-drop some.0 o.text)) kept

  -- writing failed at the flush or before
  cut : AreFront old sent o.text → GoesOut old sent WriteFault o
  cut front = record {
    whole = λ given. absurd (given.write refl);
    part = λ same. front;
    nothing = λ same. let bad : 5 ≡ 6 = ap status_of same in absurd (omega (arith, bad));
  }

  given_cut : (exit : Exit) → IsGiven exit → Outputs old mid exit o → GoesOut old sent WriteFault o
  given_cut exit given told = cut (front_of old mid sent buffer o.text [] o.text (told.whole given).1 (sym (append-nil o.text)) kept)

  failed : (T E : Type 0) (exit : Exit) (fault : E) → Outputs old mid exit o → GoesOut old sent (exit_after {T = T} {E = E} exit (Err fault)) o
  failed T E WriteFault fault told = cut (some_front (told.part refl))
  failed T E OutOfMemory fault told = cut (front_of old mid sent buffer [] o.text o.text (none_took old mid (told.nothing refl)) refl kept)
  failed T E ReadFault fault told = record {
    whole = λ given. absurd (given.read refl);
    part = λ same. let bad : 4 ≡ 5 = ap status_of same in absurd (omega (arith, bad));
    nothing = λ same. let bad : 4 ≡ 6 = ap status_of same in absurd (omega (arith, bad));
  }
  failed T E other fault told = given_cut other (given_by other (λ e. omega (arith, e)) (λ e. omega (arith, e)) (λ e. omega (arith, e))) told

  flushed_out : (T E : Type 0) (exit : Exit) (flushed : Result T E) → Outputs old mid exit o → OnOk flushed (Keeps mid sent) → GoesOut old sent (exit_after exit flushed) o
  flushed_out T E exit (Ok done) told out = record {
    whole = λ given. let w = told.whole given in (w.0, Appends-kept old mid sent o.text w.1 out);
    part = λ same. some_front (told.part same);
    nothing = λ same. Keeps-trans old mid sent (told.nothing same) out;
  }
  flushed_out T E exit (Err fault) told out = failed T E exit fault told

-- where the bytes are told, what went out is the output
goes_out : (T E : Type 0) (old mid sent : Option (List ℕ)) (buffer : List ℕ) (output : List ℕ → Output) (held : Option (List ℕ)) (exit : Exit) (flushed : Result T E)
    → IfSome held (λ bytes. Outputs old mid exit (output bytes)) → OnOk flushed (Keeps mid sent) → Keeps mid (append_known sent buffer)
    → IfSome held (λ bytes. GoesOut old sent (exit_after exit flushed) (output bytes))
goes_out T E old mid sent buffer output None exit flushed told out kept = tt
goes_out T E old mid sent buffer output (Some bytes) exit flushed told out kept = flushed_out old mid sent buffer (output bytes) kept T E exit flushed told out

-- a flush hides no fault of reading, and makes none
read_before : (T E : Type 0) (exit : Exit) (flushed : Result T E) → exit_after exit flushed ≡ ReadFault → exit ≡ ReadFault
read_before T E exit (Ok done) same = same
read_before T E ReadFault (Err fault) same = refl
read_before T E other (Err fault) same = let bad : 5 ≡ 4 = ap status_of same in absurd (omega (arith, bad))

reaches : (T E : Type 0) (old mid sent : Option (List ℕ)) (buffer text : List ℕ) (faults faults' : ℕ) (flushed : Result T E) → Appends old mid text
    → OnOk flushed (Keeps mid sent) → Keeps mid (append_known sent buffer) → HasCause faults faults' flushed → Reaches old sent faults faults' text
reaches T E old mid sent buffer text faults faults' (Ok done) took out kept cause = inl (cause.quiet, Appends-kept old mid sent text took out)
reaches T E old mid sent buffer text faults faults' (Err fault) took out kept cause =
    inr (cause.rose, front_of old mid sent buffer text [] text took (sym (append-nil text)) kept)

-- where reading failed, what went out are the records that are sure, or a front of them
sure_out : (T E : Type 0) (held held' old mid sent : Option (List ℕ)) (buffer : List ℕ) (course : List ℕ → Course) (before faults faults' : ℕ) (exit : Exit) (flushed : Result T E)
    → (exit ≡ ReadFault → WritesSure held held' old mid course) → (exit ≢ WriteFault → faults ≡ before)
    → OnOk flushed (Keeps mid sent) → Keeps mid (append_known sent buffer) → HasCause faults faults' flushed
    → exit_after exit flushed ≡ ReadFault → GoesOutSure held held' old sent before faults' course
sure_out T E held held' old mid sent buffer course before faults faults' exit flushed sure quiet out kept cause same =
    let failed = read_before T E exit flushed same in
    let writes = sure failed in
    let since = quiet (λ wrote. let bad : 4 ≡ 5 = ap status_of (sym failed ∙ wrote) in absurd (omega (arith, bad))) in
    record {
      bytes = writes.bytes;
      read = writes.read;
      goes_on = writes.goes_on;
      got = subst (λ n. Reaches old sent n faults' (course writes.bytes).records) since
          (reaches T E old mid sent buffer (course writes.bytes).records faults faults' flushed writes.written out kept cause);
    }

-- a fault of reading is told behind every flush
read_after : (T E : Type 0) (exit : Exit) (flushed : Result T E) → exit ≡ ReadFault → exit_after exit flushed ≡ ReadFault
read_after T E exit (Ok done) same = same
read_after T E ReadFault (Err fault) same = refl
read_after T E other (Err fault) same = let bad : other ≡ ReadFault = same in cc

-- a flush that failed counted a fault, and so did the writing that failed before
rose_after : (before faults faults' : ℕ) (exit : Exit) → (exit ≡ WriteFault → Rose before faults) → (exit ≢ WriteFault → faults ≡ before)
    → faults ≤ faults' → Rose faults faults' → Rose before faults'
rose_after before faults faults' WriteFault wrote quiet later rose = let first : counted before ≤ faults = wrote refl in omega (arith, first, later)
rose_after before faults faults' other wrote quiet later rose = subst (λ n. Rose n faults') (quiet (λ same. cc)) rose

-- and no want of memory that there was not
memory_before : (T E : Type 0) (exit : Exit) (flushed : Result T E) → exit_after exit flushed ≡ OutOfMemory → exit ≡ OutOfMemory
memory_before T E exit (Ok done) same = same
memory_before T E ReadFault (Err fault) same = let bad : 4 ≡ 6 = ap status_of same in absurd (omega (arith, bad))
memory_before T E other (Err fault) same = let bad : 5 ≡ 6 = ap status_of same in absurd (omega (arith, bad))

pub flush-wanting : (taken taken' gone' : Option (List ℕ)) (faults faults' : ℕ) (exit exit' : Exit) → EndsFlushed taken taken' gone' faults faults' exit exit'
    → exit' ≡ OutOfMemory → exit ≡ OutOfMemory
flush-wanting taken taken' gone' faults faults' exit exit' e same = memory_before _ _ exit e.flushed (sym e.ends ∙ same)

-- what a program did is so of the writer behind the buffer, once that was flushed
module _ {S W A : Type 0} (held : S → Option (List ℕ)) (source_faults : S → ℕ) (contents : W → Option (List ℕ)) (input input' : S) (old mid new : WriteSink (BufWriter W A)) (exit : Exit)
    (read_of : Option (List ℕ) → Option (List ℕ)) (out : List ℕ → Output) (sure_of : List ℕ → Course)
    (a : AnswersFor held source_faults (taken_in contents) (λ sink. sink.faults) input input' old mid exit read_of out sure_of) where
  write_after : (T E : Type 0) (flushed : Result T E) → HasCause mid.faults new.faults flushed → exit_after exit flushed ≡ WriteFault → Rose old.faults new.faults
  write_after T E (Ok done) c same = subst (λ n. Rose old.faults n) (sym c.quiet) (a.causes.write same)
  write_after T E (Err fault) c same = rose_after old.faults mid.faults new.faults exit a.causes.write a.causes.write_quiet c.later c.rose

  quiet_after : (T E : Type 0) (flushed : Result T E) → HasCause mid.faults new.faults flushed → exit_after exit flushed ≢ WriteFault → exit_after exit flushed ≢ ReadFault
      → new.faults ≡ old.faults
  quiet_after T E (Ok done) c written read = c.quiet ∙ a.causes.write_quiet written
  quiet_after T E (Err fault) c written read = absurd (told exit written read)
    where
      told : (exit : Exit) → exit_after {T = T} {E = E} exit (Err fault) ≢ WriteFault → exit_after {T = T} {E = E} exit (Err fault) ≢ ReadFault → ⊥
      told ReadFault written read = read refl
      told other written read = written refl

  pub goes-out-for : (exit' : Exit) → EndsFlushed (taken_in contents mid) (taken_in contents new) (gone_out contents new) mid.faults new.faults exit exit'
      → GoesOutFor held source_faults contents input input' old new exit' read_of out sure_of
  goes-out-for exit' e =
      subst (λ x. GoesOutFor held source_faults contents input input' old new x read_of out sure_of) (sym e.ends) (record {
        written = goes_out _ _ _ _ _ _ out _ _ e.flushed a.written e.out e.kept;
        sure = sure_out _ _ _ _ _ _ _ _ sure_of _ _ _ _ e.flushed a.sure a.causes.write_quiet e.out e.kept e.cause;
        read = λ same. a.causes.read (read_before _ _ exit e.flushed same);
        read_quiet = λ other. a.causes.read_quiet (λ same. other (read_after _ _ exit e.flushed same));
        write = write_after _ _ e.flushed e.cause;
        write_quiet = quiet_after _ _ e.flushed e.cause;
      })
