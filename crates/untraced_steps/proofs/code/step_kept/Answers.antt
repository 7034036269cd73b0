use Rattle.std.proofs.Common.{◌≡◌, ◌/◌, ◌%◌, ◌∙◌, ℕ, sym, ap, arith}
use Rattle.rv32_decode.specs.Table.{insn_at}
use Rattle.machine_state.specs.State.{state_of, pc_of}
use Rattle.machine_state.specs.DataAccess.{number_at}
use Rattle.untraced_steps.proofs.KeptSteps.{came_step}
use Rattle.untraced_steps.proofs.code.step_kept.Goals as goal

pub returns-clause-came : goal.returns-clause-came
returns-clause-came g c =
    let t = g.T.Translator in
    let s = state_of c.args.machine.now in
    let code = c.args.code in
    let pc = c.pc-pc.ensures.value in
    let same = c.if-pc-code.false in
    let there = ap (λ (x : ℕ). x / 4096) pc in
    let at : pc_of s c.args.p / 4096 ≡ code.page = omega (arith, same, there) in
    let word = ap (λ (x : ℕ). insn_at (number_at s (record { page = code.frame; offset = x % 4096 }) 4)) (sym pc) in
    came_step t.kept t.cost t.after t.without c.perform_kept.result c.args.hart c.args.p code.page code.frame c.in-Ok.insn c.args.machine.now c.decode.new.self c.perform_kept.new.machine
    c.requires.running c.requires.here c.requires.code at (word ∙ (ap insn_at (sym c.number_at-word.ensures.value) ∙ c.in-Ok.ensures.ok)) c.decode.ensures.state (ap t.kept c.decode.ensures.translator) c.perform_kept.ensures.came
