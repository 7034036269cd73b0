use Rattle.machine_state.specs.Taking.{name_of}
use Rattle.state_parts.specs.Keys.{in_order}
use Rattle.state_parts.proofs.Places.{put_at}
use Rattle.state_parts.proofs.look.put_number.Goals as goal

pub returns : goal.returns
returns c = put_at (in_order c.args.sizes) (name_of c.args.name) c.place_of-place.result c.args.number c.args.numbers.now.items c.requires.many c.place_of-place.ensures
