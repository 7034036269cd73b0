-- States that are the same but for registers, pcs and bytes: what is kept of them, and that rewrites make such.
use Rattle.std.proofs.Common.{ℕ, List, [], ◌∷◌, refl, sym, ◌∙◌}
use Rattle.cap_format.specs.declared.kind.CapKind.TheVariants.{Page, Process}
use Rattle.process_objects.specs.Process.{ProcessValue, empty_process}
use Rattle.machine_state.specs.State.{State, process}
use Rattle.machine_state.specs.Setters.{set_process, set_page}
use Rattle.confinement.proofs.Sleeping.{each_set}
use Rattle.object_store.specs.Object.{object_name}
use Rattle.object_store.proofs.Stays.{stays_process, stays_page}
use Rattle.confinement.specs.declared.cut_side.CutSide.TheVariants.{Left}
use Rattle.confinement.specs.Cut.{Cut}
use Rattle.confinement.specs.Acts.{Spares}
use Rattle.confinement.proofs.Acting.{spares-stays}
use Rattle.independence.specs.Rewrite.{Rewrite, ProcessIs, PageIs, IsPrivate, ArePrivate, rewritten, rewritten_all, SameButRegisters, SameButData}

-- each process is the same as itself
pub registers-same : (q : ProcessValue) → SameButRegisters q q
registers-same q = record { capregs = refl; slots = refl; state = refl }

-- each state is
pub shape-same : (s : State) → SameButData s s
shape-same s = record { items = refl; cappages = refl; endpoints = refl; processes = λ p. registers-same (process s p); queues = refl; halted = refl }

-- from one state by a second to a third
pub shape-then : (s t u : State) → SameButData s t → SameButData t u → SameButData s u
shape-then s t u first second = record {
  items = first.items ∙ second.items;
  cappages = first.cappages ∙ second.cappages;
  endpoints = first.endpoints ∙ second.endpoints;
  processes = λ p. let a = first.processes p in let b = second.processes p in record { capregs = a.capregs ∙ b.capregs; slots = a.slots ∙ b.slots; state = a.state ∙ b.state };
  queues = first.queues ∙ second.queues;
  halted = first.halted ∙ second.halted;
}

-- and back
pub shape-sym : (s t : State) → SameButData s t → SameButData t s
shape-sym s t same = record {
  items = sym same.items;
  cappages = sym same.cappages;
  endpoints = sym same.endpoints;
  processes = λ p. let a = same.processes p in record { capregs = sym a.capregs; slots = sym a.slots; state = sym a.state };
  queues = sym same.queues;
  halted = sym same.halted;
}

-- a process with other registers
pub shape-process : (s : State) (p : ℕ) (x : ProcessValue) → SameButRegisters (process s p) x → SameButData s (set_process s p x)
shape-process s p x same = record {
  items = refl;
  cappages = refl;
  endpoints = refl;
  processes = each_set (λ (n : ℕ) (y : ProcessValue). SameButRegisters (process s n) y) s.store.contents.processes p x empty_process same (λ n. registers-same (process s n));
  queues = refl;
  halted = refl;
}

-- a page with other bytes
pub shape-page : (s : State) (n : ℕ) (page : List ℕ) → SameButData s (set_page s n page)
shape-page s n page = record { items = refl; cappages = refl; endpoints = refl; processes = λ p. registers-same (process s p); queues = refl; halted = refl }

module _ (cut : Cut) where
  spares-rewritten : (s : State) (rewrite : Rewrite) → IsPrivate cut rewrite → Spares cut Left s.store (rewritten s rewrite).store
  spares-rewritten s (ProcessIs p value) own = spares-stays cut Left (object_name Process p ∷ []) s.store (set_process s p value).store (own.0, tt) (stays_process [] s.store p value)
  spares-rewritten s (PageIs n page) own = spares-stays cut Left (object_name Page n ∷ []) s.store (set_page s n page).store (own, tt) (stays_page [] s.store n page)

  -- what is rewritten on the left leaves the right
  pub spares-rewritten_all : (s : State) (rewrites : List Rewrite) → ArePrivate cut rewrites → Spares cut Left s.store (rewritten_all s rewrites).store
  spares-rewritten_all s [] own kind n other = refl
  spares-rewritten_all s (rewrite ∷ rewrites) own kind n other =
      spares-rewritten s rewrite own.0 kind n other ∙ spares-rewritten_all (rewritten s rewrite) rewrites own.1 kind n other
