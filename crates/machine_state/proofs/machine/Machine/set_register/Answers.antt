use Rattle.std.proofs.Common.{ℕ, List, refl, ap, ◌∙◌}
use Rattle.process_objects.specs.Process.{with_regs}
use Rattle.object_store.specs.Store.{process_at, with_process}
use Rattle.object_store.specs.Meaning.{state_map}
use Rattle.object_store.proofs.Writes.{put_regs, regs_means}
use Rattle.rv32_user.specs.Registers.{with_register}
use Rattle.machine_state.proofs.Changed.{same_state}
use Rattle.machine_state.proofs.machine.Machine.set_register.Goals as goal

pub returns-clause-state : goal.returns-clause-state
returns-clause-state g c =
    let i = c.self.inside in
    let s = i.objects in
    rw (← c.self.view_is, c.set_reg.ensures.whole, c.process_mut.ensures.value)
    (same_state _ _ i.queues i.queues i.halted
    (put_regs s c.args.p (with_register (process_at s c.args.p).regs c.args.to c.args.word)
    ∙ ap (λ (regs : List ℕ). with_process (state_map s) c.args.p (with_regs (process_at (state_map s) c.args.p) (with_register regs c.args.to c.args.word))) (regs_means s c.args.p)) refl)
