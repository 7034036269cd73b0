-- Destruction, on the model's side: an object becomes empty, and every capability to it Null (Coyotos).
use Rattle.std.specs.Prelude.{ℕ, Bool, if◌then◌else◌, ◌&&◌, ◌==◌}
use Rattle.cap_format.specs.declared.kind.CapKind.{CapKind}
use Rattle.cap_format.specs.Kind.{is_counted, number_of, object_kind}
use Rattle.cap_format.specs.Capability.{Capability, null}
use Rattle.object_store.specs.Store.{Store, emptied}
use Rattle.object_store.specs.Meaning.{store_map}

-- whether a capability names object `n` of a kind
abbrev pub names : CapKind → ℕ → Capability → Bool
names kind n c = is_counted c.kind && (number_of (object_kind c.kind) == number_of kind) && (c.object == n)

-- Null in place of a capability that names the object
abbrev pub forget : CapKind → ℕ → Capability → Capability
forget kind n c = if names kind n c then null else c

-- The object is empty, its age one higher, and every capability to it in the whole map is Null. The queues are
-- not part of the map.
abbrev pub destruction : CapKind → ℕ → Store → Store
destruction kind n s = store_map (forget kind n) (emptied kind n s)
