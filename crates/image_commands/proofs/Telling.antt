-- From what was read of an image, to what `unpack` writes and how the program ends.
use Rattle.std.proofs.Common.{◌≡◌, ◌≢◌, ◌∙◌, [], ℕ, List, true, false, length, Option, Some, None, IfSome, Result, Ok, Err, refl, sym, ap, subst, arith}
use Rattle.std.specs.Io.KnownBytes.{Appends, Consumes, IsAtEnd}
use Rattle.std.proofs.KnownBytes.{Appends-nil}
use Rattle.coy_io.specs.Causes.{Rose}
use Rattle.coy_io.specs.Lines.{whole_lines}
use Rattle.image_binary.specs.Fields.{Read, field_of, front_of}
use Rattle.image_binary.specs.Image.{IsOpen, concluded, ended, head_of, listing_of, unpacked}
use Rattle.image_binary.specs.Unpacked.{Answers}
use Rattle.image_binary.specs.declared.fault.ImageFault.{ImageFault}
use Rattle.image_binary.specs.declared.fault.ImageFault.TheVariants as faulty
use Rattle.image_binary.specs.declared.fault.ImageWord.{ImageWord}
use Rattle.image_binary.specs.declared.stop.Stop.TheVariants.{Short, Wrong}
use Rattle.listing_read.specs.Statement.{ListingValue}
use Rattle.courses.specs.Course.{ComesTo, cached, course_output}
use Rattle.courses.specs.Ending.{Concludes, EndsIn, EndsNothing, IsGiven, Output, Outputs}
use Rattle.courses.specs.Exit.{is_finished}
use Rattle.courses.specs.Sure.{StandsSure}
use Rattle.courses.specs.Taken.{TakesInput}
use Rattle.courses.specs.declared.exit.Exit.{Exit}
use Rattle.courses.specs.declared.exit.Exit.TheVariants.{Usage, ReadFault, WriteFault, OutOfMemory}
use Rattle.courses.proofs.Concluding.{outputs_memory}
use Rattle.courses.proofs.Endings.{outputs_none}
use Rattle.courses.proofs.Lasts.{comes-last, ends-causes, ends-own, read-causes}
use Rattle.image_commands.specs.Unpacked.{image_course, image_exit, read_course, unpack_course, unpack_output}

-- ---- bytes that were read

-- bytes with no fault end nothing
open-ends : (n total : ℕ) (read : Read ListingValue) → IsOpen read → EndsNothing n (unpack_output (concluded false total read)).exit
open-ends n total (Ok x) none = subst (λ rest. EndsNothing n (unpack_output (ended false total x.0 rest)).exit) (sym none) refl
open-ends n total (Err (Short left)) short = refl
open-ends n total (Err (Wrong left fault)) wrong = absurd wrong

-- no bytes have none
nothing-open : IsOpen (listing_of [])
unfolding listing_of head_of field_of front_of
nothing-open = tt

-- the exit where bytes give no listing tells that memory was wanting for that reason alone
pub image-wanting : (fault : ImageFault) → image_exit fault ≡ OutOfMemory → fault ≡ faulty.OutOfMemory
image-wanting (faulty.Refused offset fault) same = cc
image-wanting faulty.TooLong same = cc
image-wanting faulty.ReadFault same = cc
image-wanting faulty.OutOfMemory same = refl

-- reading failed behind bytes, where they are known
pub record StoppedBehind (known left : Option (List ℕ)) : Type 0 where
  pub bytes : List ℕ
  pub consumed : Consumes known left bytes
  pub opens : IsOpen (listing_of bytes)

stopped-behind : (known left : Option (List ℕ)) → Answers (Err faulty.ReadFault) known left → StoppedBehind known left
stopped-behind None left a = record { bytes = []; consumed = tt; opens = nothing-open }
stopped-behind (Some bytes) None a = absurd a
stopped-behind (Some bytes) (Some left) a = record { bytes = a.0; consumed = a.1; opens = a.2 }

-- where a text is told, the known bytes give it
known-refused : (known left : Option (List ℕ)) (offset : ℕ) (fault : ImageWord) → Answers (Err (faulty.Refused offset fault)) known left
    → IfSome known (λ bytes. unpacked bytes ≡ Err (faulty.Refused offset fault))
known-refused None left offset fault a = tt
known-refused (Some bytes) None offset fault a = absurd a
known-refused (Some bytes) (Some left) offset fault a = a

known-long : (known left : Option (List ℕ)) → Answers (Err faulty.TooLong) known left → IfSome known (λ bytes. unpacked bytes ≡ Err faulty.TooLong)
known-long None left a = tt
known-long (Some bytes) None a = absurd a
known-long (Some bytes) (Some left) a = a

pub known-listing : (known left : Option (List ℕ)) (listing : ListingValue) → Answers (Ok listing) known left → IfSome known (λ bytes. unpacked bytes ≡ Ok listing)
known-listing None left listing a = tt
known-listing (Some bytes) None listing a = absurd a
known-listing (Some bytes) (Some left) listing a = a.0

-- ---- what was told

module _ {S K : Type 0} (held : S → Option (List ℕ)) (source_faults : S → ℕ) (taken : K → Option (List ℕ)) (sink_faults : K → ℕ)
    (old new : S) (out out' : K) (exit : Exit) where
  abbrev Takes : Type 0
  Takes = (fetches : ℕ) → TakesInput held source_faults taken sink_faults old new out out' fetches fetches exit cached image_course read_course

  -- a text was told that the known bytes give
  pub tells-given : (answer : Result ListingValue ImageFault) → IsGiven (unpack_output answer).exit → (unpack_output answer).exit ≢ Usage
      → EndsIn taken sink_faults out out' exit (unpack_output answer) → IfSome (held old) (λ bytes. unpacked bytes ≡ answer) → source_faults new ≡ source_faults old
      → (is_finished (unpack_output answer).exit ≡ true → IsAtEnd (held new)) → Takes
  tells-given answer given form e known quiet end = λ fetches.
      let o : Output = unpack_output answer in
      let own : (x : Exit) → x ≢ WriteFault → exit ≡ x → o.exit ≡ x = ends-own _ _ _ _ exit o e in
      record {
        comes = comes fetches (held old) known;
        end = λ done.
            let uncut : exit ≢ WriteFault = λ cut. let bad : false ≡ true = sym (ap is_finished cut) ∙ done in cc in
            end (ap is_finished (sym (e.given uncut)) ∙ done);
        sure = λ same. absurd (given.read (own ReadFault (λ cut. cc) same));
        usage = λ same. form (own Usage (λ cut. cc) same);
        causes = ends-causes _ _ _ _ exit o e _ _ _ given.read quiet refl;
        unwritten = λ same. absurd (given.memory (own OutOfMemory (λ cut. cc) same));
        unspent = λ same. refl;
      }
    where
      comes : (fetches : ℕ) (known : Option (List ℕ)) → IfSome known (λ bytes. unpacked bytes ≡ answer)
          → IfSome known (λ bytes. ComesTo (taken out) (taken out') fetches fetches exit cached (image_course bytes))
      comes fetches None is = tt
      comes fetches (Some bytes) is =
          subst (λ a. ComesTo (taken out) (taken out') fetches fetches exit cached (unpack_course a)) (sym is) (comes-last _ _ _ _ fetches fetches exit cached _ e refl refl)

  -- nothing was told, and so of all bytes
  comes-nothing : (IsGiven exit → ⊥) → ((o : Output) → Outputs (taken out) (taken out') exit o) → (fetches : ℕ) (known : Option (List ℕ))
      → IfSome known (λ bytes. ComesTo (taken out) (taken out') fetches fetches exit cached (image_course bytes))
  comes-nothing never outputs fetches None = tt
  comes-nothing never outputs fetches (Some bytes) = record {
    output = outputs (course_output (image_course bytes));
    fetched = record { whole = λ given. absurd (never given); most = omega arith };
  }

  -- reading failed behind these bytes
  stands : (fetches : ℕ) (bytes : List ℕ) → out' ≡ out → Consumes (held old) (held new) bytes → IsOpen (listing_of bytes)
      → StandsSure (held old) (held new) (taken out) (taken out') fetches fetches cached read_course
  stands fetches bytes same consumed opens =
      let none : cached [] ≡ 0 = refl in
      record {
        writes = record {
          bytes = bytes;
          read = consumed;
          goes_on = open-ends (length (whole_lines [] bytes)) (length bytes) (listing_of bytes) opens;
          written = subst (λ k. Appends (taken out) (taken k) []) (sym same) (Appends-nil (taken out));
        };
        fetched = omega (arith, none);
      }

  -- there is no listing, and why was told
  pub tells-stopped : (fault : ImageFault) → Concludes taken sink_faults (image_exit fault) out out' exit → Answers (Err fault) (held old) (held new)
      → (fault ≡ faulty.ReadFault → Rose (source_faults old) (source_faults new)) → (fault ≢ faulty.ReadFault → source_faults new ≡ source_faults old) → Takes
  tells-stopped (faulty.Refused offset fault) c a rose quiet =
      tells-given (Err (faulty.Refused offset fault)) (record { read = λ bad. cc; write = λ bad. cc; memory = λ bad. cc }) (λ bad. cc) c
      (known-refused (held old) (held new) offset fault a) (quiet (λ bad. cc)) (λ bad. cc)
  tells-stopped faulty.TooLong c a rose quiet =
      tells-given (Err faulty.TooLong) (record { read = λ bad. cc; write = λ bad. cc; memory = λ bad. cc }) (λ bad. cc) c (known-long (held old) (held new) a) (quiet (λ bad. cc)) (λ bad. cc)
  tells-stopped faulty.ReadFault c a rose quiet = λ fetches.
      let behind = stopped-behind (held old) (held new) a in
      record {
        comes = comes-nothing (λ given. given.read c.0) (λ o. subst (λ x. Outputs (taken out) (taken out') x o) (sym c.0) (outputs_none (taken out) (taken out') o)) fetches (held old);
        end = λ done. let bad : false ≡ true = sym (ap is_finished c.0) ∙ done in cc;
        sure = λ failed. stands fetches behind.bytes c.1 behind.consumed behind.opens;
        usage = λ usage. let bad : ReadFault ≡ Usage = sym c.0 ∙ usage in cc;
        causes = read-causes _ _ _ _ exit c.0 (rose refl) (ap sink_faults c.1);
        unwritten = λ memory. let bad : ReadFault ≡ OutOfMemory = sym c.0 ∙ memory in cc;
        unspent = λ memory. refl;
      }
  tells-stopped faulty.OutOfMemory c a rose quiet = λ fetches. record {
    comes = comes-nothing (λ given. given.memory c.0)
        (λ o. subst (λ x. Outputs (taken out) (taken out') x o) (sym c.0) (outputs_memory (taken out) (taken out') o (ap taken c.1))) fetches (held old);
    end = λ done. let bad : false ≡ true = sym (ap is_finished c.0) ∙ done in cc;
    sure = λ failed. let bad : OutOfMemory ≡ ReadFault = sym c.0 ∙ failed in cc;
    usage = λ usage. let bad : OutOfMemory ≡ Usage = sym c.0 ∙ usage in cc;
    causes = record {
      read = λ failed. let bad : OutOfMemory ≡ ReadFault = sym c.0 ∙ failed in cc;
      read_quiet = λ other. quiet (λ is. cc);
      write = λ cut. let bad : OutOfMemory ≡ WriteFault = sym c.0 ∙ cut in cc;
      write_quiet = λ other. ap sink_faults c.1;
    };
    unwritten = λ memory. ap taken c.1;
    unspent = λ memory. refl;
  }
