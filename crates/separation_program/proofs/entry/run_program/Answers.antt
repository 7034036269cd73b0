use Rattle.separation_program.proofs.entry.run_program.Goals as goal

pub returns : goal.returns
returns g c = record { exit = c.run_words-exit.result; status = c.end.ensures.status; said = c.end.ensures.said; so = c.run_words-exit.ensures }
