use Rattle.std.proofs.Common.{◌/◌}
use Rattle.tlb_model.proofs.Kept.{room_none}
use Rattle.tlb_model.proofs.tlb.Tlb.fill.Goals as goal

pub push-requires-clause-none : goal.push-requires-clause-none
push-requires-clause-none c = rw (c.make_room.ensures.entries, c.drop_page.ensures.entries) (room_none c.args.self.now c.args.root (c.args.va / 4096))
