use Rattle.std.proofs.Common.{◌∙◌, refl}
use Rattle.migrate_command.proofs.Putting.{puts-cut, puts-stop, so_far-more, so_far-start}
use Rattle.migrate_command.proofs.lines.put_lines.Goals as goal

pub lines-init : goal.lines-init
lines-init g c = record {
  so_far = so_far-start c.args.harts c.args.lines.now _ _;
  going = c.requires;
  told = λ told. told;
  read = refl;
  write = refl;
}

pub lines-preserved : goal.lines-preserved
lines-preserved g c =
    let e = c.in-Ok.ensures in
    let w = c.in-Ok-put_asked.ensures in
    let i = c.lines.invariant in
    record {
      so_far = so_far-more c.args.harts c.args.lines.now _ _ c.lines.lines _ _ i.so_far c.next_line.new.lines _ _ c.in-Ok.asked e.asked e.timed w.text;
      going = e.going;
      told = λ told. e.told (i.told told);
      read = e.quiet (λ same. cc) ∙ i.read;
      write = w.cause.quiet ∙ i.write;
    }

pub returns-in-Err-put_asked-clause-puts : goal.returns-in-Err-put_asked-clause-puts
returns-in-Err-put_asked-clause-puts g c =
    let e = c.in-Ok.ensures in
    puts-cut c.args.harts c.args.lines.now _ _ c.lines.lines _ _ c.lines.invariant.so_far c.in-Err-put_asked.fault c.next_line.new.lines _ _ c.in-Ok.asked e.asked e.timed c.in-Err-put_asked.ensures.text

pub returns-in-Err-clause-puts : goal.returns-in-Err-clause-puts
returns-in-Err-clause-puts g c = puts-stop c.args.harts c.args.lines.now _ _ c.lines.lines _ _ c.lines.invariant.so_far c.in-Err.stop c.next_line.new.lines _ c.in-Err.ensures.asked
