use Rattle.machine_state.proofs.machine.Machine.capabilities.Goals as goal

pub returns-clause-means : goal.returns-clause-means
returns-clause-means g c = rw (← c.self.view_is) c.sent_by.ensures.means

pub returns-clause-behind : goal.returns-clause-behind
returns-clause-behind g c = rw (← c.self.view_is) (c.sent_by.ensures.behind c.self.invariant.2.behind)
