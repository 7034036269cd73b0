use Rattle.reverse_run.proofs.Keeping.{remembers_later, remembers_both}
use Rattle.reverse_run.proofs.remembering.keep_reach.Goals as goal

pub returns-in-Message-clause-more : goal.returns-in-Message-clause-more
returns-in-Message-clause-more g c = λ k n among. c.keep_pages.ensures.more k n (c.keep_object-in-Message.ensures.more k n among)

pub returns-in-Message-clause-kept : goal.returns-in-Message-clause-kept
returns-in-Message-clause-kept g c =
    let past = c.keep_pages.new.past in
    let s = c.args.machine.now.objects in
    let endpoint = rw c.from-number.ensures at c.keep_object-in-Message.ensures.kept in
    rw c.in-Message.is (remembers_both past s _ _ (remembers_later c.keep_object-in-Message.new.past past s _ c.keep_pages.ensures.more endpoint) c.keep_pages.ensures.kept)
