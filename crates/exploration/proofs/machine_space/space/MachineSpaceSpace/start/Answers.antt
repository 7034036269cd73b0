use Rattle.state_parts.proofs.Alike.{held_grown}
use Rattle.exploration.proofs.Slots.{look-gone}
use Rattle.exploration.proofs.Spaces.{copy_held, kept_held}
use Rattle.exploration.proofs.machine_space.space.MachineSpaceSpace.start.Goals as goal

pub returns-clause-held : goal.returns-clause-held
returns-clause-held g c =
    let i = c.self.inside in
    let t = c.go.new.self.tables in
    copy_held t i.start c.in-Ok-copy.key c.in-Ok-copy.ensures (held_grown i.states.tables t i.start c.go.ensures.grows c.self.invariant.held) i.question.now i.policy.now i.indifferent
    (kept_held i.question.now i.policy.now i.indifferent i.states.tables t i.start c.go.ensures.grows (record { held = c.self.invariant.held; is_known = c.self.invariant.is_known }))

-- ---- how many slots are read

pub returns-in_default-clause-spends : goal.returns-in_default-clause-spends
returns-in_default-clause-spends g c =
    let i = c.self.inside in
    rw (← c.self.view_is) (look-gone i.question.now i.states.tables i.start c.self.invariant.held c.go.ensures.least c.go.ensures.most)

pub returns-in_default-copy-clause-spends : goal.returns-in_default-copy-clause-spends
returns-in_default-copy-clause-spends g c =
    let i = c.self.inside in
    rw (← c.self.view_is) (look-gone i.question.now i.states.tables i.start c.self.invariant.held c.go.ensures.least c.go.ensures.most)

pub returns-clause-spends : goal.returns-clause-spends
returns-clause-spends g c =
    let i = c.self.inside in
    rw (← c.self.view_is) (look-gone i.question.now i.states.tables i.start c.self.invariant.held c.go.ensures.least c.go.ensures.most)
