use Rattle.std.proofs.Common.{◌≡◌, length, take, false, nat_lt, refl, sym, ap, ◌∙◌, arith}
use Rattle.std.specs.List.{list_any}
use Rattle.std.proofs.lemmas.List.{length-take-le}
use Rattle.invocation.proofs.WellFormed.{few, well_formed, all_registers, padded_registers}
use Rattle.invocation.proofs.parsing.acceptance.Goals as goal
use Rattle.invocation.proofs.parsing.acceptance.Goals.{then-receives, else-receives}

pub slice_bounds-bytes-end : goal.slice_bounds-bytes-end
slice_bounds-bytes-end c = few c.accepted_count-count.ensures.value (well_formed c.args.regs.now c.requires).accepted (ap length c.to_le_bytes-bytes.ensures)

pub slice_bounds-padded-end : goal.slice_bounds-padded-end
slice_bounds-padded-end c =
    sym (length-take-le c.accepted_count-count.result c.to_le_bytes-bytes.result
    (few c.accepted_count-count.ensures.value (well_formed c.args.regs.now c.requires).accepted (ap length c.to_le_bytes-bytes.ensures)))

pub new-accept-requires-clause-caps : goal.new-accept-requires-clause-caps
new-accept-requires-clause-caps c = few {bytes = 4} c.accepted_count-count.ensures.value (well_formed c.args.regs.now c.requires).accepted refl

pub new-accept-requires-clause-regs : goal.new-accept-requires-clause-regs
new-accept-requires-clause-regs c =
    let none : list_any (nat_lt 31) (take c.accepted_count-count.result c.to_le_bytes-bytes.result) ≡ false =
    rw (c.accepted_count-count.ensures.value, c.to_le_bytes-bytes.ensures) (well_formed c.args.regs.now c.requires).accepting_registers in
    rw c.padded-registers.ensures (padded_registers (take c.accepted_count-count.result c.to_le_bytes-bytes.result) _ (all_registers (take c.accepted_count-count.result c.to_le_bytes-bytes.result) none))

pub new-accept-requires-clause-buffer : goal.new-accept-requires-clause-buffer
new-accept-requires-clause-buffer c = ((well_formed c.args.regs.now c.requires).buffer (sym c.receives.ensures ∙ c.if-receives.true)).ends

pub new-accept-requires-else-receives-clause-caps : goal.new-accept-requires-else-receives-clause-caps
new-accept-requires-else-receives-clause-caps c = few {bytes = 4} c.accepted_count-count.ensures.value (well_formed c.args.regs.now c.requires).accepted refl

pub new-accept-requires-else-receives-clause-regs : goal.new-accept-requires-else-receives-clause-regs
new-accept-requires-else-receives-clause-regs c =
    let none : list_any (nat_lt 31) (take c.accepted_count-count.result c.to_le_bytes-bytes.result) ≡ false =
    rw (c.accepted_count-count.ensures.value, c.to_le_bytes-bytes.ensures) (well_formed c.args.regs.now c.requires).accepting_registers in
    rw c.padded-registers.ensures (padded_registers (take c.accepted_count-count.result c.to_le_bytes-bytes.result) _ (all_registers (take c.accepted_count-count.result c.to_le_bytes-bytes.result) none))

pub returns-clause-buffer : goal.returns-clause-buffer
returns-clause-buffer c = elim c.if-receives.branch [
  | then-receives w ↦ rw (w.accept-is, w.new-accept.ensures) ((well_formed c.args.regs.now c.requires).buffer (sym c.receives.ensures ∙ w.if-receives.true))
  | else-receives w ↦ rw (w.accept-is, w.new-accept-else-receives.ensures) (record { longest = omega arith; ends = omega arith })
]
