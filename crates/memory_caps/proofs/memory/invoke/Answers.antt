use Rattle.memory_caps.proofs.Invoked.{reply_means, means, counts, stays, differ, behind, refused}
use Rattle.memory_caps.proofs.memory.invoke.Goals as goal

pub returns-clause-reply_means : goal.returns-clause-reply_means
returns-clause-reply_means g c = reply_means _ _ _ _ c.requires.live c.requires.sent c.answer.ensures.fulfils.changes _ c.answer.ensures.fulfils.reply

pub returns-clause-means : goal.returns-clause-means
returns-clause-means g c = means _ _ _ _ c.requires.live c.requires.sent c.answer.ensures.fulfils.changes

pub returns-clause-refused : goal.returns-clause-refused
returns-clause-refused g c = refused _ _ _ _ c.requires.live c.requires.sent c.answer.ensures.fulfils.changes _ c.answer.ensures.fulfils.reply

pub returns-clause-counts : goal.returns-clause-counts
returns-clause-counts g c = counts _ _ _ _ c.requires.live c.requires.sent c.answer.ensures.fulfils.changes

pub returns-clause-stays : goal.returns-clause-stays
returns-clause-stays g c = stays _ _ _ _ c.requires.live c.requires.sent c.answer.ensures.fulfils.changes

pub returns-clause-differ : goal.returns-clause-differ
returns-clause-differ g c = differ _ _ _ _ c.requires.live c.requires.sent c.answer.ensures.fulfils.changes _ c.answer.ensures.fulfils.reply

pub returns-clause-behind : goal.returns-clause-behind
returns-clause-behind g c = behind _ _ _ _ c.requires.live c.requires.sent c.answer.ensures.fulfils.changes _ c.answer.ensures.fulfils.reply
