use Rattle.std.proofs.Common.{ℕ, List, Option, sym, subst}
use Rattle.std.specs.Prelude.{IfSome}
use Rattle.machine_state.specs.declared.record.Record.{Record}
use Rattle.machine_state.specs.State.{state_of, pc_of}
use Rattle.kernel_core.specs.Event.{event_of}
use Rattle.event_reach.proofs.Spent.{fetched_walked}
use Rattle.event_reach.specs.declared.plain.PlainInsn.{PlainInsn}
use Rattle.state_parts.specs.Shown.{shown_plain, begun, IsShown}
use Rattle.state_parts.proofs.Shown.{event_shown}
use Rattle.state_parts.proofs.performing.perform_shown.Goals as goal

pub returns-clause-shown : goal.returns-clause-shown
returns-clause-shown g c =
    let m = c.args.machine.now in
    let s = state_of m in
    let o = event_of s c.args.event in
    let p = c.args.p in
    let Shown : Option PlainInsn → Type 0 = λ x. IfSome x (IsShown p (begun s c.args.event) o) in
    let OfRegs : List ℕ → Type 0 = λ regs. Shown (shown_plain p regs (pc_of s p) o.records) in
    let OfPc : ℕ → Type 0 = λ pc. Shown (shown_plain p c.registers.result.now pc o.records) in
    let OfRecords : List Record → Type 0 = λ rs. Shown (shown_plain p c.registers.result.now c.pc-pc.result rs) in
    subst Shown (sym c.plain_shown.ensures)
    (subst OfRecords (sym c.event_into.ensures.records)
    (subst OfPc (sym c.pc-pc.ensures.value)
    (subst OfRegs (sym c.registers.ensures) (event_shown s c.args.event p c.requires.by.performs))))

pub returns-clause-most : goal.returns-clause-most
returns-clause-most g c = fetched_walked _ _ _ _ _ _ _ c.walks_at_most.ensures.cached c.event_into.ensures.counted
