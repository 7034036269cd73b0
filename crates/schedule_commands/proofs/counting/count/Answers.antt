use Rattle.std.proofs.Common.{◌≡◌, codes, append_assoc}
use Rattle.std.specs.Prelude.{decimal}
use Rattle.schedule_commands.specs.Finished.{count_text}
use Rattle.courses.proofs.Endings.{ends_text}
use Rattle.schedule_commands.proofs.counting.count.Goals as goal

pub returns : goal.returns
returns g c =
    let same : c.as_bytes.result.now ≡ count_text c.args.events =
    rw (c.as_bytes.ensures.text, c.push_word-2.ensures.text, c.push_dec.ensures.text, c.push_word.ensures.text, c.new-line.ensures)
    (append_assoc (codes "ok events=") (decimal c.args.events) (codes "\n")) in
    ends_text _ _ _ _ _ _ _ _ same c.end_with.ensures
