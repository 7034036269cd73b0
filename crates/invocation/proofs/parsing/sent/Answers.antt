use Rattle.std.proofs.Common.{length, sym, ap}
use Rattle.std.proofs.lemmas.List.{length-take-le}
use Rattle.invocation.proofs.WellFormed.{few, well_formed, all_registers}
use Rattle.invocation.proofs.parsing.sent.Goals as goal

pub slice_bounds-bytes-end : goal.slice_bounds-bytes-end
slice_bounds-bytes-end c = few c.sent_count.ensures.value (well_formed c.args.regs.now c.requires).sent (ap length c.to_le_bytes-bytes.ensures)

pub slice_bounds-new-end : goal.slice_bounds-new-end
slice_bounds-new-end c =
    sym (length-take-le c.sent_count.result c.to_le_bytes-bytes.result
    (few c.sent_count.ensures.value (well_formed c.args.regs.now c.requires).sent (ap length c.to_le_bytes-bytes.ensures)))

pub returns-clause-registers : goal.returns-clause-registers
returns-clause-registers c =
    all_registers c.new.result (rw (c.new.ensures, c.sent_count.ensures.value, c.to_le_bytes-bytes.ensures) (well_formed c.args.regs.now c.requires).sent_registers)
