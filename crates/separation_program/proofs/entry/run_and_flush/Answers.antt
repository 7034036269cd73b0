use Rattle.std.proofs.Common.{map, string_bytes, subst, sym}
use Rattle.courses.proofs.Flushed.{flush-wanting, goes-out-for}
use Rattle.courses.specs.Program.{bytes_for, out, sure}
use Rattle.separation_program.specs.Program.{Judges, asked_by, separation}
use Rattle.separation_program.proofs.Called.{judges-after}
use Rattle.separation_program.proofs.entry.run_and_flush.Goals as goal

pub returns-clause-output : goal.returns-clause-output
returns-clause-output g c =
    let words = map string_bytes c.args.words.now in
    goes-out-for g.S.Source.held g.S.Source.faults g.W.Write.contents _ _ _ _ _ _ (bytes_for separation (asked_by words)) (out separation words) (sure separation words) c.counted-exit.ensures.answers _ c.flush_after.ensures

pub returns-clause-judges : goal.returns-clause-judges
returns-clause-judges g c =
    let words = map string_bytes c.args.words.now in
    let e = c.flush_after.ensures in
    subst (Judges words (g.S.Source.held c.args.input.now)) (sym e.ends) (judges-after words _ _ e.flushed c.counted-exit.ensures.judges)

pub returns-clause-wanting : goal.returns-clause-wanting
returns-clause-wanting g c = λ aim asked same.
    c.counted-exit.ensures.wanting aim asked (flush-wanting _ _ _ _ _ _ _ c.flush_after.ensures same)
