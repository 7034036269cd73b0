use Rattle.std.proofs.Common.{ap, ◌∙◌, arith}
use Rattle.machine_state.specs.State.{State}
use Rattle.quiet_finding.specs.Watched.{watch_of}
use Rattle.state_parts.specs.Space.{TablesValue}
use Rattle.state_choices.specs.Slots.{made_slots}
use Rattle.state_choices.proofs.Slots.{all_slots-held}
use Rattle.state_choices.proofs.choosing.chosen.Goals as goal

pub returns-in_err-go-clause-most : goal.returns-in_err-go-clause-most
returns-in_err-go-clause-most g c =
    let all = all_slots-held c.args.states.now.tables c.args.from.now c.requires.held in
    let went = c.go.ensures.most in
    omega (arith, all, went)

pub returns-in_err-choose-clause-most : goal.returns-in_err-choose-clause-most
returns-in_err-choose-clause-most g c =
    let all = all_slots-held c.args.states.now.tables c.args.from.now c.requires.held in
    let went = c.go.ensures.most in
    let made = c.choose.ensures.most in
    let same = ap (λ (s : State). made_slots (watch_of c.args.watched.now) s c.args.choice) c.in_ok-go.ensures.state in
    omega (arith, all, went, made, same)

pub returns-in_err-key-clause-most : goal.returns-in_err-key-clause-most
returns-in_err-key-clause-most g c =
    let all = all_slots-held c.args.states.now.tables c.args.from.now c.requires.held in
    let went = c.go.ensures.most in
    let made = c.choose.ensures.most in
    let same = ap (λ (s : State). made_slots (watch_of c.args.watched.now) s c.args.choice) c.in_ok-go.ensures.state in
    let looked = c.key.ensures.most in
    let sizes = ap (λ (t : TablesValue). t.sizes.gpts) (c.choose.ensures.tables ∙ c.go.ensures.tables) in
    omega (arith, all, went, made, same, looked, sizes)

pub returns-clause-most : goal.returns-clause-most
returns-clause-most g c =
    let all = all_slots-held c.args.states.now.tables c.args.from.now c.requires.held in
    let went = c.go.ensures.most in
    let made = c.choose.ensures.most in
    let same = ap (λ (s : State). made_slots (watch_of c.args.watched.now) s c.args.choice) c.in_ok-go.ensures.state in
    let looked = c.key.ensures.most in
    let sizes = ap (λ (t : TablesValue). t.sizes.gpts) (c.choose.ensures.tables ∙ c.go.ensures.tables) in
    omega (arith, all, went, made, same, looked, sizes)
