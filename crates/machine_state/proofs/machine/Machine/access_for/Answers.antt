use Rattle.machine_state.proofs.machine.Machine.access_for.Goals as goal

pub returns-clause-answer : goal.returns-clause-answer
returns-clause-answer g c = c.access_on.ensures.answer

pub returns-clause-means : goal.returns-clause-means
returns-clause-means g c = c.access_on.ensures.means

pub returns-clause-counted : goal.returns-clause-counted
returns-clause-counted g c = c.access_on.ensures.counted

pub returns-clause-kept : goal.returns-clause-kept
returns-clause-kept g c = c.access_on.ensures.kept
