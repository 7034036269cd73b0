use Rattle.machine_state.proofs.machine.Machine.cap_access.Goals as goal

pub returns-clause-answer : goal.returns-clause-answer
returns-clause-answer g c = rw (← c.space-space.ensures, ← c.self.view_is) c.walk.ensures.value

pub returns-clause-counted : goal.returns-clause-counted
returns-clause-counted g c = rw (← c.space-space.ensures, ← c.self.view_is) c.walk.ensures.counted
