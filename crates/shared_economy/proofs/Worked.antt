-- The worked values, by the walks themselves.
use Rattle.std.proofs.Common.{◌≡◌, refl}
use Rattle.walk_meaning.specs.Walk.{walk}
use Rattle.walk_meaning.specs.Trail.{trail_from}
use Rattle.producers.specs.Producer.{last_join}
use Rattle.fetch_economy.specs.Economy.{frames_needed as frames_apart}
use Rattle.shared_economy.specs.Need.{frames_needed}
use Rattle.shared_economy.specs.Worked.{FramesAreShared, apart, joined}

three : frames_needed joined ≡ 3
unfolding walk trail_from last_join
three = refl

four : frames_apart joined ≡ 4
unfolding walk trail_from
four = refl

none_shared : frames_needed apart ≡ 4
unfolding walk trail_from last_join
none_shared = refl

pub frames_are_shared : FramesAreShared
frames_are_shared = record { shared = three; unshared = four; narrow_guards = none_shared }
