use Rattle.std.proofs.Common.{◌≡◌, ◌-◌, ◌∙◌, ◌∷◌, [], List, suc, take, drop, replicate, sym, ap, subst, arith}
use Rattle.std.proofs.lemmas.List.{drop-replicate, take-replicate}
use Rattle.machine_state.specs.declared.event.Event.{Event}
use Rattle.machine_state.specs.declared.event.Event.TheVariants.{Step}
use Rattle.untraced_steps.specs.HartSteps.{steps_left}
use Rattle.untraced_steps.specs.Untraced.{RanUntraced}
use Rattle.untraced_steps.proofs.Ran.{ran-none}
use Rattle.untraced_steps.proofs.running.run_ahead.Goals as goal

pub returns-then-times-eq0-clause-ran : goal.returns-then-times-eq0-clause-ran
returns-then-times-eq0-clause-ran g c =
    let t = g.T.Translator in
    λ fetches. ran-none t.kept t.cost t.after t.without c.args.machine.now fetches

pub returns-clause-ran : goal.returns-clause-ran
returns-clause-ran g c =
    let t = g.T.Translator in
    let step = Step c.args.hart in
    let times = c.alone-times.result in
    let some = c.if-times-eq0.false in
    let most = c.run_kept-done.ensures.most in
    let all : step ∷ steps_left c.args.left.now ≡ replicate (suc times) step = ap (λ (more : List Event). step ∷ more) (c.alone-times.ensures (omega (arith, some))) in
    let first = ap (take c.run_kept-done.result) all ∙ take-replicate c.run_kept-done.result (suc times) step (omega (arith, most)) in
    λ fetches. subst (λ (events : List Event). RanUntraced t.kept t.cost t.after t.without events c.args.machine.now fetches c.run_kept-done.new.machine [] fetches) (sym first) (c.run_kept-done.ensures.ran fetches)

pub returns-clause-behind : goal.returns-clause-behind
returns-clause-behind g c =
    let step = Step c.args.hart in
    let times = c.alone-times.result in
    let done = c.run_kept-done.result in
    let some = c.if-times-eq0.false in
    let most = c.run_kept-done.ensures.most in
    let all : step ∷ steps_left c.args.left.now ≡ replicate (suc times) step = ap (λ (more : List Event). step ∷ more) (c.alone-times.ensures (omega (arith, some))) in
    let size : suc (times - done) ≡ suc times - done = omega (arith, most) in
    ap (λ (more : List Event). step ∷ more) c.of_hart.ensures ∙ (ap (λ n. replicate n step) size ∙ sym (ap (drop done) all ∙ drop-replicate done (suc times) step))
