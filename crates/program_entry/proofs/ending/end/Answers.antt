use Rattle.std.proofs.Common.{◌≡◌, ℕ, List, Option, refl, subst, sym}
use Rattle.courses.specs.declared.exit.Exit.{Exit}
use Rattle.courses.specs.declared.exit.Exit.TheVariants.{ReadFault, WriteFault, OutOfMemory}
use Rattle.program_entry.specs.Said.{Says}
use Rattle.program_entry.proofs.ending.end.Goals.{in-ReadFault, in-WriteFault, in-OutOfMemory, in_default}
use Rattle.program_entry.proofs.ending.end.Goals as goal

module _ {K : Type 0} (taken : K → Option (List ℕ)) (faults : K → ℕ) (old : K) (name : List ℕ) where
  -- what is said of an exit that was matched
  said_of : (new now : K) (exit at : Exit) → now ≡ new → exit ≡ at → Says taken faults old new name at → Says taken faults old now name exit
  said_of new now exit at same is said = subst (λ k. Says taken faults old k name exit) (sym same) (subst (Says taken faults old new name) (sym is) said)

  -- nothing is said of any other
  unsaid : (new : K) (exit : Exit) → (exit ≡ ReadFault → ⊥) → (exit ≡ WriteFault → ⊥) → (exit ≡ OutOfMemory → ⊥) → new ≡ old → Says taken faults old new name exit
  unsaid new ReadFault read write memory same = absurd (read refl)
  unsaid new WriteFault read write memory same = absurd (write refl)
  unsaid new OutOfMemory read write memory same = absurd (memory refl)
  unsaid new other read write memory same = same

pub returns-clause-said : goal.returns-clause-said
returns-clause-said g c = elim c.match-exit.branch [
  | in-ReadFault w ↦ said_of _ _ _ _ _ _ _ _ w.errors-is w.in-ReadFault.is w.say.ensures
  | in-WriteFault w ↦ said_of _ _ _ _ _ _ _ _ w.errors-is w.in-WriteFault.is w.say-in-WriteFault.ensures
  | in-OutOfMemory w ↦ said_of _ _ _ _ _ _ _ _ w.errors-is w.in-OutOfMemory.is w.say_plainly.ensures
  | in_default w ↦ unsaid _ _ _ _ _ c.args.exit w.in_default.not-ReadFault w.in_default.not-WriteFault w.in_default.not-OutOfMemory w.errors-is
]
