use Rattle.std.proofs.Common.{map, string_bytes}
use Rattle.coyotos_words.specs.Command.{command_of}
use Rattle.coyotos_cli.specs.Contract.{bytes_for}
use Rattle.coyotos_cli.specs.Program.{out, sure}
use Rattle.courses.proofs.Flushed.{flush-wanting, goes-out-for}
use Rattle.coyotos_cli.proofs.entry.run_and_flush.Goals as goal

pub returns-clause-output : goal.returns-clause-output
returns-clause-output g c =
    let words = map string_bytes c.args.words.now in
    goes-out-for g.S.Source.held g.S.Source.faults g.W.Write.contents _ _ _ _ _ _ (bytes_for (command_of words)) (out words) (sure words) c.counted-exit.ensures.answers _ c.flush_after.ensures

pub returns-clause-wanting : goal.returns-clause-wanting
returns-clause-wanting g c = λ other same. c.counted-exit.ensures.wanting other (flush-wanting _ _ _ _ _ _ _ c.flush_after.ensures same)

pub returns-clause-wanting_image : goal.returns-clause-wanting_image
returns-clause-wanting_image g c = λ asked same.
    c.counted-exit.ensures.wanting_image asked (flush-wanting _ _ _ _ _ _ _ c.flush_after.ensures same)
