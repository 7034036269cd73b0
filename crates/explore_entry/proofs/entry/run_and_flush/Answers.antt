use Rattle.std.proofs.Common.{map, string_bytes, subst, sym}
use Rattle.courses.proofs.Flushed.{flush-wanting, goes-out-for}
use Rattle.courses.specs.Program.{HasForm, ReadsInput, bytes_for, out, sure}
use Rattle.explore_program.specs.Program.{asked_by, explore}
use Rattle.explore_program.specs.Theorem.{Judges}
use Rattle.explore_program.proofs.Called.{form-after, judges-after, reads-after, tells-after}
use Rattle.explore_entry.proofs.entry.run_and_flush.Goals as goal

pub returns-clause-output : goal.returns-clause-output
returns-clause-output g c =
    let words = map string_bytes c.args.words.now in
    let t = c.counted-exit.ensures.answers in
    let e = c.flush_after.ensures in
    tells-after words _ _ _ _ _ _ e.flushed _ _ e.ends c.counted-exit.ensures.unwritten e.kept t
    (goes-out-for g.S.Source.held g.S.Source.faults g.W.Write.contents _ _ _ _ _ _ (bytes_for (explore t.told) (asked_by words)) (out (explore t.told) words) (sure (explore t.told) words) t.so _ e)

pub returns-clause-judges : goal.returns-clause-judges
returns-clause-judges g c =
    let words = map string_bytes c.args.words.now in
    let e = c.flush_after.ensures in
    subst (Judges words (g.S.Source.held c.args.input.now)) (sym e.ends) (judges-after words _ _ e.flushed c.counted-exit.ensures.judges)

pub returns-clause-reads : goal.returns-clause-reads
returns-clause-reads g c = λ told.
    let words = map string_bytes c.args.words.now in
    let e = c.flush_after.ensures in
    subst (ReadsInput (explore told) g.S.Source.held words c.args.input.now c.counted-exit.new.input) (sym e.ends)
    (reads-after g.S.Source.held told words _ _ _ e.flushed (c.counted-exit.ensures.reads told))

pub returns-clause-form : goal.returns-clause-form
returns-clause-form g c = λ told.
    let words = map string_bytes c.args.words.now in
    let e = c.flush_after.ensures in
    subst (HasForm (explore told) words) (sym e.ends) (form-after told words _ e.flushed (c.counted-exit.ensures.form told))

pub returns-clause-wanting : goal.returns-clause-wanting
returns-clause-wanting g c = λ lacks. c.counted-exit.ensures.wanting (flush-wanting _ _ _ _ _ _ _ c.flush_after.ensures lacks)
