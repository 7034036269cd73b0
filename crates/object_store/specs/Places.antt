-- The places in which objects hold capabilities. (Own.)
use Rattle.std.specs.Prelude.{ℕ, ◌-◌, nat_lt, if◌then◌else◌}
use Rattle.cap_format.specs.declared.kind.CapKind.{CapKind}
use Rattle.cap_format.specs.declared.kind.CapKind.TheVariants.{CapPage, Gpt, Endpoint, Process}
use Rattle.cap_format.specs.Capability.{Capability, null}
use Rattle.page_store.specs.CapPage.{cap_at}
use Rattle.process_objects.specs.Process.{capreg_of, slot_of}
use Rattle.object_store.specs.Store.{Store, slot_at, cappage_at, process_at, endpoint_at}

-- how many places for capabilities an object of a kind has
abbrev pub places_in : CapKind → ℕ
places_in CapPage = 256
places_in Gpt = 16
places_in Endpoint = 1
places_in Process = 35
places_in _ = 0

-- the capability in a place of an object, as it is stored: the slots of a process stand before its registers
abbrev pub cap_in : Store → CapKind → ℕ → ℕ → Capability
cap_in s CapPage n i = cap_at (cappage_at s n) i
cap_in s Gpt n i = slot_at s.items n i
cap_in s Endpoint n i = (endpoint_at s n).recipient
cap_in s Process n i = if nat_lt i 3 then slot_of (process_at s n) i else capreg_of (process_at s n) (i - 3)
cap_in s _ n i = null

-- how many slots of GPTs are read for one place of an object
abbrev pub reads_in : CapKind → ℕ
reads_in Gpt = 1
reads_in _ = 0

-- and for all of its places
abbrev pub object_reads : CapKind → ℕ
object_reads Gpt = 16
object_reads _ = 0
