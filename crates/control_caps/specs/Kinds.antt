-- The kinds whose requests are done here, and what every request keeps.
use Rattle.std.specs.Prelude.{◌≡◌, Bool, true, false, length}
use Rattle.cap_format.specs.declared.kind.CapKind.{CapKind}
use Rattle.cap_format.specs.declared.kind.CapKind.TheVariants.{Null, Endpoint, Process, Schedule, Range, Discrim}
use Rattle.object_store.specs.Store.{Store, size_of}
use Rattle.object_store.specs.Ahead.{NoneAhead}
use Rattle.schedules.specs.Queues.{QueuesValue}
use Rattle.schedules.specs.Ready.{Agrees, runs_of}

-- Null and the kinds 6 and 8 to 11
abbrev pub is_control : CapKind → Bool
is_control Null = true
is_control Endpoint = true
is_control Process = true
is_control Schedule = true
is_control Range = true
is_control Discrim = true
is_control _ = false

-- no object, list of sleepers or hart comes or goes, states and places agree, and no capability is ahead
pub record Keeps (s : Store) (q : QueuesValue) (t : Store) (n : QueuesValue) : Type 0 where
  pub sizes : (kind : CapKind) → size_of t.items kind ≡ size_of s.items kind
  pub object_harts : t.harts ≡ s.harts
  pub sleepers : length n.sleepers ≡ length q.sleepers
  pub harts : length n.harts ≡ length q.harts
  pub agrees : Agrees (runs_of t n)
  pub behind : NoneAhead t
