use Rattle.std.proofs.Common.{◌∙◌, ◌+◌, ◌<◌, List, length, get_or, refl, sym, subst, arith}
use Rattle.std.proofs.Math.ListN.{drop_of_length-le}
use Rattle.std.proofs.lemmas.List.{get_or_default}
use Rattle.machine_state.specs.State.{state_of}
use Rattle.quiet_finding.specs.Watched.{watch_of}
use Rattle.questions.specs.declared.choice.Choice.{Choice}
use Rattle.questions.specs.declared.choice.Choice.TheVariants.{Steps, Tick as TimerTick}
use Rattle.state_choices.proofs.Slots.{path_slots-next}
use Rattle.state_choices.proofs.Counting.{IsCounting, counting-all, counting-more, counting-none}
use Rattle.state_choices.proofs.choosing.counted.Goals as goal

pub each-init : goal.each-init
each-init g c =
    let w = watch_of c.args.watched.now in
    let s = state_of c.args.states.now.machine in
    record {
      tables = refl;
      counting = subst (λ (done : List Choice). IsCounting w c.args.choices.now s c.args.path.now s 0 done) (sym c.new-counted.ensures.items) (counting-none w c.args.choices.now s s c.args.path.now refl);
      least = omega arith;
      slots = omega arith;
    }

pub each-preserved : goal.each-preserved
each-preserved g c =
    let w = watch_of c.args.watched.now in
    let cs = c.args.choices.now in
    let path = c.args.path.now in
    let i = get_or path c.each.place 0 in
    let within : i < length cs = c.requires.path c.each.place 0 c.each-test.true in
    let is = get_or_default cs i (Steps 0 0) (TimerTick 0) within in
    let next = path_slots-next w cs (state_of c.each.states.machine) (state_of c.choose.new.states.machine) path c.each.place 0 (get_or cs i (Steps 0 0)) c.each-test.true is c.in_ok-made.ensures.state in
    let least = c.choose.ensures.least in
    let read = c.choose.ensures.most in
    let first = c.each.invariant.least in
    let before = c.each.invariant.slots in
    record {
      tables = c.choose.ensures.tables ∙ c.each.invariant.tables;
      counting =
          subst (λ (done : List Choice). IsCounting w cs (state_of c.args.states.now.machine) path (state_of c.choose.new.states.machine) (c.each.place + 1) done) (sym c.in_ok-push.ensures.items)
          (counting-more w cs (state_of c.args.states.now.machine) (state_of c.each.states.machine) (state_of c.choose.new.states.machine) path c.each.place 0
          (get_or cs i (Steps 0 0)) c.in_ok-made.made c.each.counted.items c.each.invariant.counting c.each-test.true
          (get_or_default cs i (Steps 0 0) (TimerTick 0) within) c.in_ok-made.ensures.counted c.in_ok-made.ensures.state);
      least = omega (arith, least, first);
      slots = omega (arith, read, before, next);
    }

pub returns-clause-counted : goal.returns-clause-counted
returns-clause-counted g c =
    counting-all (watch_of c.args.watched.now) c.args.choices.now (state_of c.args.states.now.machine) (state_of c.each.states.machine) c.args.path.now c.each.place c.each.counted.items c.each.invariant.counting
    (drop_of_length-le c.args.path.now (omega arith))

pub returns-in_err-made-clause-most : goal.returns-in_err-made-clause-most
returns-in_err-made-clause-most g c =
    let cs = c.args.choices.now in
    let path = c.args.path.now in
    let i = get_or path c.each.place 0 in
    let within : i < length cs = c.requires.path c.each.place 0 c.each-test.true in
    let is = get_or_default cs i (Steps 0 0) (TimerTick 0) within in
    let next = path_slots-next (watch_of c.args.watched.now) cs (state_of c.each.states.machine) _ path c.each.place 0 (get_or cs i (Steps 0 0)) c.each-test.true is refl in
    let read = c.choose.ensures.most in
    let before = c.each.invariant.slots in
    omega (arith, next, read, before)

pub returns-in_err-push-clause-most : goal.returns-in_err-push-clause-most
returns-in_err-push-clause-most g c =
    let cs = c.args.choices.now in
    let path = c.args.path.now in
    let i = get_or path c.each.place 0 in
    let within : i < length cs = c.requires.path c.each.place 0 c.each-test.true in
    let is = get_or_default cs i (Steps 0 0) (TimerTick 0) within in
    let next = path_slots-next (watch_of c.args.watched.now) cs (state_of c.each.states.machine) _ path c.each.place 0 (get_or cs i (Steps 0 0)) c.each-test.true is refl in
    let read = c.choose.ensures.most in
    let before = c.each.invariant.slots in
    omega (arith, next, read, before)

pub returns-clause-most : goal.returns-clause-most
returns-clause-most g c = let before = c.each.invariant.slots in omega (arith, before)
