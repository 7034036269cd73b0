-- The kinds of capabilities: their type numbers, and which fields each has.
use Rattle.std.specs.Prelude.{ℕ, ◌^◌, Bool, true, false, if◌then◌else◌, List, [], ◌∷◌, slice_get, Option}
use Rattle.cap_format.specs.declared.kind.CapKind.{CapKind}
use Rattle.cap_format.specs.declared.kind.CapKind.TheVariants.{Null, Page, CapPage, Gpt, Window, LocalWindow, Endpoint, Entry, Process, Schedule, Range, Discrim, KernLog, SysCtl}

-- the type number of a kind (this project's own)
abbrev pub number_of : CapKind → ℕ
number_of Null = 0
number_of Page = 1
number_of CapPage = 2
number_of Gpt = 3
number_of Window = 4
number_of LocalWindow = 5
number_of Endpoint = 6
number_of Entry = 7
number_of Process = 8
number_of Schedule = 9
number_of Range = 10
number_of Discrim = 11
number_of KernLog = 12
number_of SysCtl = 13

-- the kinds in the order of their numbers
unfoldable pub kinds : List CapKind
kinds = Null ∷ Page ∷ CapPage ∷ Gpt ∷ Window ∷ LocalWindow ∷ Endpoint ∷ Entry ∷ Process ∷ Schedule ∷ Range ∷ Discrim ∷ KernLog ∷ SysCtl ∷ []

-- the kind that has a type number, if there is one
abbrev pub kind_with : ℕ → Option CapKind
kind_with number = slice_get kinds number

-- the memory kinds, which a walk may meet: they alone have a guard and restrictions
abbrev pub is_memory : CapKind → Bool
is_memory Page = true
is_memory CapPage = true
is_memory Gpt = true
is_memory Window = true
is_memory LocalWindow = true
is_memory _ = false

-- the two windows, which have an offset
abbrev pub is_window : CapKind → Bool
is_window Window = true
is_window LocalWindow = true
is_window _ = false

-- the kinds that name an object, and so have an allocation count
abbrev pub is_counted : CapKind → Bool
is_counted Page = true
is_counted CapPage = true
is_counted Gpt = true
is_counted Endpoint = true
is_counted Entry = true
is_counted Process = true
is_counted _ = false

-- the five kinds of objects
abbrev pub is_object : CapKind → Bool
is_object Page = true
is_object CapPage = true
is_object Gpt = true
is_object Endpoint = true
is_object Process = true
is_object _ = false

-- the kind of the object that is named: an entry names an endpoint
abbrev pub object_kind : CapKind → CapKind
object_kind Entry = Endpoint
object_kind kind = kind

-- above every set of restrictions of the kind; 1 where it has none
abbrev pub restr_limit : CapKind → ℕ
restr_limit kind = if is_memory kind then 32 else 1

-- above every allocation count of the kind; 1 where it has none
abbrev pub count_limit : CapKind → ℕ
count_limit kind = if is_counted kind then 2 ^ 20 else 1

-- above every object number, offset or priority of the kind; 1 where it has none
abbrev pub object_limit : CapKind → ℕ
object_limit Page = 4096
object_limit CapPage = 256
object_limit Gpt = 1024
object_limit Window = 2 ^ 32
object_limit LocalWindow = 2 ^ 32
object_limit Endpoint = 1024
object_limit Entry = 1024
object_limit Process = 256
object_limit Schedule = 8
object_limit _ = 1

-- above every payload of the kind; 1 where it has none
abbrev pub payload_limit : CapKind → ℕ
payload_limit Entry = 2 ^ 32
payload_limit _ = 1

-- above every slot of the kind; 1 where it has none
abbrev pub slot_limit : CapKind → ℕ
slot_limit LocalWindow = 16
slot_limit _ = 1
