use Rattle.std.proofs.Common.{◌≡◌, Bool, false, if◌then◌else◌, Option, None, sym, ap, ◌∙◌, subst}
use Rattle.std.specs.Prelude.{IfSome}
use Rattle.machine_state.specs.State.{state_of}
use Rattle.kernel_core.specs.Event.{event_of}
use Rattle.event_reach.specs.declared.plain.PlainInsn.{PlainInsn}
use Rattle.event_reach.specs.Plain.{plain_by, plain_of, plain_names, ChangesAlone}
use Rattle.event_reach.proofs.Alone.{plain_alone}
use Rattle.event_reach.proofs.plain.plain_of_event.Goals as goal

pub returns-clause-alone : goal.returns-clause-alone
returns-clause-alone g c =
    let s = state_of c.args.machine.now in
    let e = c.args.e in
    let going : s.halted ≡ false = sym c.halted.ensures ∙ c.if-halted.false in
    let is : plain_of s e ≡ c.plain_by_event.result = ap (λ (halted : Bool). if halted then None else plain_by s e) going ∙ sym c.plain_by_event.ensures.value in
    let Alone : Option PlainInsn → Type 0 = λ o. IfSome o (λ i. ChangesAlone s (event_of s e) (plain_names i)) in
    subst Alone is (plain_alone s e)
