-- Operations on what may be passed on change nothing, and give what may be passed on.
use Rattle.std.proofs.Common.{◌≡◌, ℕ, Bool, true, false, ◌==◌, if◌then◌else◌, List, [], ◌∷◌, Option, Some, None, refl, sym, ◌∙◌, ap}
use Rattle.std.proofs.lemmas.Bool.{cond_both}
use Rattle.cap_format.specs.declared.kind.CapKind.{CapKind}
use Rattle.cap_format.specs.declared.kind.CapKind.TheVariants.{Null, Page, CapPage, Gpt, Window, LocalWindow, Endpoint, Process, Schedule, Range, Discrim}
use Rattle.cap_format.specs.declared.code.Code.{Code}
use Rattle.cap_format.specs.declared.code.Code.TheVariants.{InvalidCap}
use Rattle.cap_format.specs.declared.request.Request.{Request}
use Rattle.cap_format.specs.Capability.{Capability}
use Rattle.cap_format.specs.Weakening.{weakened_kind, weakened}
use Rattle.object_store.specs.Store.{Store}
use Rattle.operations.specs.System.{Reading}
use Rattle.operations.specs.Change.{Change}
use Rattle.operations.specs.Request.{w1}
use Rattle.operations.specs.Row.{Settled, refused, settled_in}
use Rattle.operations.specs.Memory as memory
use Rattle.operations.specs.Control as control
use Rattle.operations.specs.Control.{is_null}
use Rattle.operations.proofs.Settled.{◌▸◌, EachAnswer, by_table}
use Rattle.confinement.specs.Passing.{Passing, passes_kind}
use Rattle.confinement.proofs.Passing.Writing.{Passes}

-- nothing changes
abbrev pub NoChanges : List Change → Type 0
NoChanges [] = Unit {0}
NoChanges (change ∷ changes) = ⊥

module _ (passing : Passing) where
  -- what is given, if anything, may be passed on
  abbrev pub PassesIf : Option Capability → Type 0
  PassesIf None = Unit {0}
  PassesIf (Some c) = Passes passing c

  -- what a request comes to
  abbrev pub SettledPasses : Settled → Type 0
  SettledPasses settled = NoChanges settled.answer.changes × PassesIf settled.answer.cap

  refused-passes : (code : Code) → SettledPasses (refused code)
  refused-passes code = (tt, tt)

  -- ---- what is read through restrictions

  weak-kind : (k : CapKind) (c : Capability) → c.kind ≡ k → Passes passing c → Passes passing (weakened_kind k c)
  weak-kind Null c e is = is
  weak-kind Discrim c e is = is
  weak-kind Page c e is = is
  weak-kind CapPage c e is = is
  weak-kind Gpt c e is = is
  weak-kind Window c e is = is
  weak-kind LocalWindow c e is = is
  weak-kind _ c e is = refl

  pub passes-through : (c : Capability) (weak : Bool) → Passes passing c → Passes passing (if weak then weakened c else c)
  passes-through c true is = weak-kind c.kind c refl is
  passes-through c false is = is

  -- ---- the tables

  module _ (s : Store) (c : Capability) (is : Passes passing c) (r : Request) where
    -- a kind that may not be passed on
    never : (k : CapKind) → c.kind ≡ k → passes_kind passing k c.object ≡ false → ⊥
    never k e bars = let both = sym is ∙ (ap (λ (j : CapKind). passes_kind passing j c.object) e ∙ bars) in cc (both)

    memory_own : (k : CapKind) → c.kind ≡ k → EachAnswer SettledPasses (memory.own_table s c r k)
    unfolding memory.own_table
    memory_own Page k = absurd (never Page k refl)
    memory_own CapPage k = absurd (never CapPage k refl)
    memory_own Gpt k = absurd (never Gpt k refl)
    memory_own _ k = tt

    memory_rows : EachAnswer SettledPasses (memory.memory_table s c r c.kind)
    unfolding memory.memory_table memory.kind_row memory.reduce_row memory.getguard_row memory.setguard_row memory.getrestr_row
    memory_rows = (tt, tt) ▸ (tt, is) ▸ (tt, tt) ▸ (tt, is) ▸ (tt, tt) ▸ memory_own c.kind refl

    pub memory-passes : SettledPasses (memory.memory_operation s c r)
    unfolding memory.memory_operation
    memory-passes = by_table SettledPasses refused-passes (memory.memory_table s c r c.kind) memory_rows (w1 r)

    module _ (reading : Reading) where
      control_own : (k : CapKind) → c.kind ≡ k → EachAnswer SettledPasses (control.own_table reading s c r k)
      unfolding control.own_table control.schedule_table control.priority_row control.lower_row control.discrim_table control.classify_row
      control_own Endpoint k = absurd (never Endpoint k refl)
      control_own Process k = absurd (never Process k refl)
      control_own Schedule k = (tt, tt) ▸ (tt, refl) ▸ tt
      control_own Range k = absurd (never Range k refl)
      control_own Discrim k = (tt, tt) ▸ tt
      control_own _ k = tt

      control_rows : EachAnswer SettledPasses (control.control_table reading s c r c.kind)
      unfolding control.control_table memory.kind_row
      control_rows = (tt, tt) ▸ control_own c.kind refl

      pub control-passes : SettledPasses (control.control_operation reading s c r)
      unfolding control.control_operation
      control-passes =
          cond_both (is_null c.kind) _ _ SettledPasses (λ e. refused-passes InvalidCap)
          (λ e. by_table SettledPasses refused-passes (control.control_table reading s c r c.kind) control_rows (w1 r))

  -- the reply to a question for the kind
  pub kind-passes : (number : ℕ) (cap : Capability) → PassesIf (settled_in ((0, memory.kind_row cap) ∷ []) number).answer.cap
  unfolding memory.kind_row
  kind-passes number cap = cond_both (number == 0) _ _ (λ (settled : Settled). PassesIf settled.answer.cap) (λ e. tt) (λ e. tt)
