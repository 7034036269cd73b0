-- How what a call wrote comes to the whole output.
use Rattle.std.proofs.Common.{◌≡◌, ◌≢◌, ◌∙◌, ℕ, List, Option, refl, sym, ap, subst, inl, inr, arith}
use Rattle.std.specs.Io.KnownBytes.{Appends}
use Rattle.std.proofs.KnownBytes.{Appends-trans}
use Rattle.coy_io.proofs.Texts.{cut_behind}
use Rattle.courses.specs.declared.exit.Exit.{Exit}
use Rattle.courses.specs.declared.exit.Exit.TheVariants.{OutOfMemory, ReadFault, WriteFault}
use Rattle.courses.specs.Exit.{status_of}
use Rattle.courses.specs.Ending.{Completes, Output, Outputs, Ends, before}

-- a text was written, and then the last piece
pub outputs_behind : (old now new : Option (List ℕ)) (exit : Exit) (front : List ℕ) (last : Output) → exit ≢ OutOfMemory
    → Appends old now front → Outputs now new exit last → Outputs old new exit (before front last)
outputs_behind old now new exit front last memory written o = record {
  whole = λ given. let w = o.whole given in (w.0, Appends-trans old now new front last.text written w.1);
  part = λ cut. cut_behind old now new front last.text written (o.part cut);
  nothing = λ none. absurd (memory none);
}

-- no fault is a want of memory
pub read-memory : ReadFault ≢ OutOfMemory
read-memory same = let four : 4 ≡ 6 = ap status_of same in absurd (omega (arith, four))

-- reading failed
pub outputs_none : (now new : Option (List ℕ)) (o : Output) → Outputs now new ReadFault o
outputs_none now new o = record {
  whole = λ given. absurd (given.read refl);
  part = λ cut. let four : 4 ≡ 5 = ap status_of cut in absurd (omega (arith, four));
  nothing = λ none. absurd (read-memory none);
}

-- the last text by another name
pub ends_text : (old new : Option (List ℕ)) (faults faults' : ℕ) (exit end : Exit) (x y : List ℕ) → x ≡ y
    → Ends old new faults faults' exit (record { text = x; exit = end }) → Ends old new faults faults' exit (record { text = y; exit = end })
ends_text old new faults faults' exit end x y same e = subst (λ text. Ends old new faults faults' exit (record { text = text; exit = end })) same e

-- an exit that no fault gave is that of the whole output, or memory was wanting
pub completes : (old new : Option (List ℕ)) (exit : Exit) (o : Output) → (exit ≡ ReadFault → ⊥) → (exit ≡ WriteFault → ⊥) → Outputs old new exit o → Completes old new exit o
completes old new exit o read write outputs = by_exit exit refl
  where
    given : (exit ≡ OutOfMemory → ⊥) → Completes old new exit o
    given memory = inl (outputs.whole (record { read = read; write = write; memory = memory }))

    by_exit : (e : Exit) → exit ≡ e → Completes old new exit o
    by_exit ReadFault is = absurd (read is)
    by_exit WriteFault is = absurd (write is)
    by_exit OutOfMemory is = inr (is, outputs.nothing is)
    by_exit other is = given (λ none. let same : other ≡ OutOfMemory = sym is ∙ none in cc)
