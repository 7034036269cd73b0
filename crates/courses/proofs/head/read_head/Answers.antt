use Rattle.std.proofs.Common.{◌∙◌, Err, sym, ap}
use Rattle.courses.proofs.Standing.{concludes-wanting, stands-at}
use Rattle.courses.proofs.Unlisted.{ends-unlisted}
use Rattle.courses.proofs.head.read_head.Goals as goal

pub returns-in-Err-clause-ended : goal.returns-in-Err-clause-ended
returns-in-Err-clause-ended g c =
    let e = c.read_listing.ensures in
    let concluded = rw c.listing_exit.ensures at c.conclude.ensures in
    ends-unlisted g.S.Source.held g.S.Source.faults g.K.Sink.taken g.K.Sink.faults _ _ _ _ c.args.lines.now c.read_listing.new.lines _ c.requires c.in-Err.fault c.in-Err.ensures.fault concluded
    (λ same. e.front (c.in-Err.is ∙ ap Err same))
    (λ same. e.read (c.in-Err.is ∙ ap Err same))
    (λ other. e.quiet (λ same. other (let both = sym c.in-Err.is ∙ same in cc)))

pub returns-in-Ok-clause-standing : goal.returns-in-Ok-clause-standing
returns-in-Ok-clause-standing g c = stands-at c.args.lines.now c.read_listing.new.lines _ _ c.requires c.in-Ok.ensures.last

pub returns-in-Err-clause-wanting : goal.returns-in-Err-clause-wanting
returns-in-Err-clause-wanting g c = λ same.
    let e = c.read_listing.ensures in
    let concluded = rw c.listing_exit.ensures at c.conclude.ensures in
    let is = concludes-wanting g.K.Sink.taken g.K.Sink.faults _ _ _ c.in-Err.fault concluded same in
    stands-at c.args.lines.now c.read_listing.new.lines _ _ c.requires (e.memory (c.in-Err.is ∙ ap Err is))
