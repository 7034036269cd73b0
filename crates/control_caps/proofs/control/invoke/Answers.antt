use Rattle.control_caps.proofs.Invoked.{reply_means, means, refused, given, stays, differ, kept}
use Rattle.control_caps.proofs.control.invoke.Goals as goal

pub returns-clause-reply_means : goal.returns-clause-reply_means
returns-clause-reply_means c = reply_means _ _ _ _ _ _ c.requires.live c.requires.sent c.requires.none_ahead c.answer.ensures.fulfils.changes _ c.answer.ensures.fulfils.reply

pub returns-clause-means : goal.returns-clause-means
returns-clause-means c = means _ _ _ _ _ _ c.requires.live c.requires.sent c.requires.none_ahead c.answer.ensures.fulfils.changes

pub returns-clause-refused : goal.returns-clause-refused
returns-clause-refused c = refused _ _ _ _ _ _ c.requires.live c.requires.sent c.requires.none_ahead c.answer.ensures.fulfils.changes _ c.answer.ensures.fulfils.reply

pub returns-clause-given : goal.returns-clause-given
returns-clause-given c = given _ _ _ _ _ _ c.requires.live c.requires.sent c.requires.none_ahead c.answer.ensures.fulfils.changes _ c.answer.ensures.fulfils.reply

pub returns-clause-stays : goal.returns-clause-stays
returns-clause-stays c = stays _ _ _ _ _ _ c.requires.live c.requires.sent c.requires.none_ahead c.answer.ensures.fulfils.changes

pub returns-clause-differ : goal.returns-clause-differ
returns-clause-differ c = differ _ _ _ _ _ _ c.requires.live c.requires.sent c.requires.none_ahead c.answer.ensures.fulfils.changes _ c.answer.ensures.fulfils.reply

pub returns-clause-kept : goal.returns-clause-kept
returns-clause-kept c = kept _ _ _ _ _ _ c.requires.live c.requires.sent c.requires.none_ahead c.answer.ensures.fulfils.changes c.answer.ensures.agrees
