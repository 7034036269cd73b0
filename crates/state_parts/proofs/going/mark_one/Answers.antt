use Rattle.std.proofs.Common.{◌∷◌, [], inr}
use Rattle.object_store.specs.Object.{object_name}
use Rattle.machine_state.specs.Taking.{names_of}
use Rattle.state_parts.proofs.Marked.{more_none, marks_has}
use Rattle.state_parts.proofs.going.mark_one.Goals as goal

pub returns-then-old-new-clause-grows : goal.returns-then-old-new-clause-grows
returns-then-old-new-clause-grows c = more_none (object_name c.args.name.kind c.args.name.number ∷ []) (names_of c.args.marked.now.items)

pub returns-then-old-new-clause-marks : goal.returns-then-old-new-clause-marks
returns-then-old-new-clause-marks c = record { marks = inr c.if-old-new.true }

pub returns-clause-marks : goal.returns-clause-marks
returns-clause-marks c = marks_has c.args.name.kind c.args.name.number c.args.old c.args.new (names_of c.mark_name.new.marked.items) c.in_ok-mark_name.ensures.has
