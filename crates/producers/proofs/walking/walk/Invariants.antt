use Rattle.std.proofs.Common.{◌≡◌, ◌≤◌, ◌+◌, ◌*◌, true}
use Rattle.std.specs.Option.{option_or}
use Rattle.arrayvec.specs.ArrayVec.{array_vec_len}
use Rattle.cap_format.specs.Capability.{bare}
use Rattle.cap_format.specs.declared.kind.CapKind.TheVariants.{Gpt}
use Rattle.object_store.specs.Store.{size_of}
use Rattle.object_store.specs.Meaning.{is_live, meaning, map_of}
use Rattle.walk_meaning.specs.Bounds.{IsAt}
use Rattle.walk_engine.specs.OnWay.{IsOnWay}
use Rattle.producers.specs.Producer.{join_of, last_join, produced_by}
use Rattle.producers.proofs.walking.walk.Given as goal

abbrev pub invariant-way : goal.invariant-way
invariant-way g l = record {
  way : IsOnWay (map_of l.objects.items) (meaning l.objects.items l.fn.space) l.address l.kind l.left (bare l.cap) l.at l.trail.items l.fn.fetches l.fetches;
  joins : option_or (produced_by (map_of l.objects.items) (last_join (map_of l.objects.items) l.kind l.address l.left (bare l.cap) l.at l.trail.items)) l.produced
      ≡ produced_by (map_of l.objects.items) (join_of (map_of l.objects.items) (meaning l.objects.items l.fn.space) l.address l.kind);
  live : is_live l.objects.items l.cap ≡ true;
  at : IsAt (size_of l.objects.items Gpt) l.at;
  room : array_vec_len l.trail + 2 * l.left ≤ 64;
}

abbrev pub decreases-way : goal.decreases-way
decreases-way g l = l.left
