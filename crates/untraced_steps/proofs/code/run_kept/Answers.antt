use Rattle.std.proofs.Common.{[], replicate}
use Rattle.machine_state.specs.declared.event.Event.TheVariants.{Step}
use Rattle.untraced_steps.proofs.Ran.{ran-from, ran-left, ran-none}
use Rattle.untraced_steps.proofs.code.run_kept.Goals as goal

pub returns-then-halted-clause-ran : goal.returns-then-halted-clause-ran
returns-then-halted-clause-ran g c =
    let t = g.T.Translator in
    λ fetches. ran-none t.kept t.cost t.after t.without c.args.machine.now fetches

pub returns-in_default-clause-ran : goal.returns-in_default-clause-ran
returns-in_default-clause-ran g c =
    let t = g.T.Translator in
    λ fetches. ran-none t.kept t.cost t.after t.without c.args.machine.now fetches

pub returns-in_default-find_code-clause-ran : goal.returns-in_default-find_code-clause-ran
returns-in_default-find_code-clause-ran g c =
    let t = g.T.Translator in
    let m = c.args.machine.now in
    λ fetches. ran-left t.kept t.cost t.after t.without [] fetches fetches m m c.find_code.new.machine [] (ran-none t.kept t.cost t.after t.without m fetches)
    (record { state = c.find_code.ensures.state; keeps = c.find_code.ensures.kept })

pub returns-clause-ran : goal.returns-clause-ran
returns-clause-ran g c =
    let t = g.T.Translator in
    λ fetches. ran-from t.kept t.cost t.after t.without (replicate c.run_page.result (Step c.args.hart)) fetches fetches c.args.machine.now c.find_code.new.machine c.run_page.new.machine []
    (record { state = c.find_code.ensures.state; keeps = c.find_code.ensures.kept }) (c.run_page.ensures.ran fetches)
