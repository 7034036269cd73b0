use Rattle.coy_io.proofs.Nexts.{IsDone-ended, IsLine-found, Advances-line, Consumes-line, IsNext-fault, IsNext-end, GivesNear-line, GivesNear-end}
use Rattle.coy_io.specs.contracts.lines.LineReader.{the_view}
use Rattle.coy_io.proofs.lines.LineReader.next.Goals as goal

pub returns-then-self-clause-next : goal.returns-then-self-clause-next
returns-then-self-clause-next g c =
    let none = c.self.invariant.done c.if-self.true in
    rw (← c.self.view_is) (IsDone-ended (the_view c.self.inside) _ c.if-self.true none, IsDone-ended (the_view c.self.inside) _ c.if-self.true none)

pub returns-in-Ok-Some-clause-next : goal.returns-in-Ok-Some-clause-next
returns-in-Ok-Some-clause-next g c =
    let e = rw c.in-Ok-Some.field-0-is at c.in-Ok-Some.ensures in
    rw (c.give.ensures.given, ← c.self.view_is) (Advances-line (the_view c.self.inside) _ _ _ _ c.if-self.false e.ahead e.found)

pub returns-in-Ok-Some-clause-bytes : goal.returns-in-Ok-Some-clause-bytes
returns-in-Ok-Some-clause-bytes g c =
    let e = rw c.in-Ok-Some.field-0-is at c.in-Ok-Some.ensures in
    rw (c.give.ensures.given, ← c.self.view_is) (Consumes-line (the_view c.self.inside) _ _ _ _ c.if-self.false e.ahead e.found)

pub returns-in-Ok-Some-clause-line : goal.returns-in-Ok-Some-clause-line
returns-in-Ok-Some-clause-line g c =
    let e = rw c.in-Ok-Some.field-0-is at c.in-Ok-Some.ensures in
    rw (c.give.ensures.given, c.give.ensures.len) (IsLine-found _ _ _ e.found)

pub returns-in-Ok-Some-clause-near : goal.returns-in-Ok-Some-clause-near
returns-in-Ok-Some-clause-near g c =
    let e = rw c.in-Ok-Some.field-0-is at c.in-Ok-Some.ensures in
    rw (c.give.ensures.given, ← c.self.view_is) (GivesNear-line (the_view c.self.inside) _ _ _ _ c.if-self.false e.ahead e.found e.bound)

pub returns-in-Ok-None-clause-near : goal.returns-in-Ok-None-clause-near
returns-in-Ok-None-clause-near g c =
    let e = rw c.in-Ok-None.field-0-is at c.in-Ok-None.ensures in
    rw (c.finish.ensures.given, c.finish.ensures.finished, ← c.self.view_is) (GivesNear-end (the_view c.self.inside) _ _ _ e.ahead e.bound)

pub returns-in-Ok-None-clause-next : goal.returns-in-Ok-None-clause-next
returns-in-Ok-None-clause-next g c =
    let e = rw c.in-Ok-None.field-0-is at c.in-Ok-None.ensures in
    rw (c.finish.ensures.given, c.finish.ensures.finished, ← c.self.view_is)
    (IsNext-end (the_view c.self.inside) _ _ _ c.if-self.false e.ahead e.found.0 e.found.1)

pub returns-in-Err-clause-next : goal.returns-in-Err-clause-next
returns-in-Err-clause-next g c =
    let e = c.in-Err.ensures in
    rw (← c.self.view_is) (IsNext-fault c.in-Err.fault (the_view c.self.inside) _ _ _ _ c.if-self.false e.ahead e.found)
