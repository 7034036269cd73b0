use Rattle.std.proofs.Common.{◌≡◌, inr, sym}
use Rattle.coyotos_cli.proofs.entry.run_words.Goals as goal

pub returns-in-Ok-output : goal.returns-in-Ok-output
returns-in-Ok-output g c =
    let e = c.run_and_flush.ensures in
    rw c.in-Ok.ensures (rw c.in-Ok-output.is (rw (sym c.as_slice.ensures.value) (inr (record {
      output = e.output;
      decided = e.decided;
      reads = e.reads;
      form = e.form;
      wanting = e.wanting;
      wanting_image = e.wanting_image;
    }))))
