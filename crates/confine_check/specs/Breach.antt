-- What breaks a cut: the first capability that may not stand where it does, or the least process that sleeps on one of
-- the other side. (Own; the order is that in which a state is printed.)
use Rattle.std.specs.Prelude.{ℕ, zero, suc, ◌-◌, nat_lt, Bool, true, false, not, ◌&&◌, ◌||◌, if◌then◌else◌, length, slice_index, Option, Some, None}
use Rattle.std.specs.Option.{option_or}
use Rattle.cap_format.specs.declared.kind.CapKind.{CapKind}
use Rattle.cap_format.specs.declared.kind.CapKind.TheVariants.{CapPage, Gpt, Endpoint, Process, Range, KernLog, SysCtl}
use Rattle.cap_format.specs.Kind.{is_counted, object_kind}
use Rattle.cap_format.specs.Capability.{Capability, null}
use Rattle.cap_format.specs.Weakening.{is_harmless}
use Rattle.page_store.specs.CapPage.{cap_at}
use Rattle.process_objects.specs.Process.{capreg_of, slot_of}
use Rattle.object_store.specs.Store.{Store, size_of, slot_at, cappage_at, process_at, endpoint_at}
use Rattle.object_store.specs.Meaning.{live}
use Rattle.object_store.specs.Places.{places_in, cap_in}
use Rattle.schedules.specs.Queues.{QueuesValue, sleepers_of}
use Rattle.confinement.specs.declared.cut_side.CutSide.{CutSide}
use Rattle.confinement.specs.Cut.{Cut, side_of, same_side}
use Rattle.confine_check.specs.declared.verdict.Breach.{Breach}
use Rattle.confine_check.specs.declared.verdict.Verdict.{Verdict}
use Rattle.confine_check.specs.declared.verdict.Verdict.TheVariants.{Yes, Capability as CapabilityBreaks, Sleeper}

-- the first of `n` answers, from number `i` on
unfoldable pub first_from : {A : Type 0} → (ℕ → Option A) → ℕ → ℕ → Option A
first_from f i zero = None
first_from f i (suc n) = option_or (f i) (first_from f (suc i) n)

-- ---- capabilities

-- whether a capability is a Range
abbrev pub is_range : CapKind → Bool
is_range Range = true
is_range _ = false

-- whether it is SysCtl
abbrev pub is_sysctl : CapKind → Bool
is_sysctl SysCtl = true
is_sysctl _ = false

-- whether it is KernLog
abbrev pub is_kernlog : CapKind → Bool
is_kernlog KernLog = true
is_kernlog _ = false

-- whether an object of this side may hold a capability of this kind, as far as SysCtl and KernLog go
abbrev pub may_share : Cut → CutSide → CapKind → Bool
may_share cut side k = (cut.halts side || not (is_sysctl k)) && (cut.logs side || not (is_kernlog k))

-- whether an object of this side may hold a capability: one that names nothing, or what is of this side, or that is
-- harmless; no Range; and SysCtl and KernLog where the cut says so
abbrev pub may_hold : Cut → CutSide → Capability → Bool
may_hold cut side c =
    if is_range c.kind then false
    else (if may_share cut side c.kind then
    (if is_counted c.kind then same_side (side_of cut (object_kind c.kind) c.object) side || (cut.weakly side && is_harmless c)
    else true)
    else false)

-- a capability in this place of this object, which may not stand there
abbrev pub breach_with : CapKind → ℕ → ℕ → Capability → Breach
breach_with kind n i c = record { kind = kind; number = n; place = i; cap = c }

-- what a capability breaks that means this, where it may not stand there
abbrev pub breach_by : Cut → CapKind → ℕ → ℕ → Capability → Option Breach
breach_by cut kind n i c = if may_hold cut (side_of cut kind n) c then None else Some (breach_with kind n i c)

-- the same of the one that stands there
abbrev pub breach_at : Cut → Store → CapKind → ℕ → ℕ → Option Breach
breach_at cut s kind n i = breach_by cut kind n i (live s.items (cap_in s kind n i))

-- the first of an object
abbrev pub breach_of_object : Cut → Store → CapKind → ℕ → Option Breach
breach_of_object cut s kind n = first_from (breach_at cut s kind n) 0 (places_in kind)

-- the first of the objects of a kind
abbrev pub breach_of_kind : Cut → Store → CapKind → Option Breach
breach_of_kind cut s kind = first_from (breach_of_object cut s kind) 0 (size_of s.items kind)

-- the first of all objects; pages hold none
abbrev pub breach_of : Cut → Store → Option Breach
breach_of cut s =
    option_or (breach_of_kind cut s CapPage)
    (option_or (breach_of_kind cut s Gpt)
    (option_or (breach_of_kind cut s Endpoint) (breach_of_kind cut s Process)))

-- ---- sleepers

-- the lesser of two numbers, where there are two
abbrev pub lesser : Option ℕ → Option ℕ → Option ℕ
lesser None b = b
lesser (Some a) None = Some a
lesser (Some a) (Some b) = if nat_lt b a then Some b else Some a

-- the least of the first `n` answers
unfoldable pub least_below : (ℕ → Option ℕ) → ℕ → Option ℕ
least_below f zero = None
least_below f (suc n) = lesser (least_below f n) (f n)

-- process `p`, where it sleeps on process `on` of the other side
abbrev pub across : Cut → ℕ → ℕ → Option ℕ
across cut on p = if same_side (side_of cut Process p) (side_of cut Process on) then None else Some p

-- the sleeper at place `i` of process `on`, where it is of the other side
abbrev pub across_at : Cut → QueuesValue → ℕ → ℕ → Option ℕ
across_at cut q on i = across cut on (slice_index (sleepers_of q on) i)

-- the least of its sleepers that is
abbrev pub least_on : Cut → QueuesValue → ℕ → Option ℕ
least_on cut q on = least_below (across_at cut q on) (length (sleepers_of q on))

-- the least of all sleepers that is of the other side than the process on which it sleeps
abbrev pub sleeper_of : Cut → QueuesValue → Option ℕ
sleeper_of cut q = least_below (least_on cut q) (length q.sleepers)

-- ---- the verdict

-- a cut that this capability breaks
abbrev pub broken_by : Breach → Verdict
broken_by found = CapabilityBreaks found.kind found.number found.place found.cap

-- the capability that a verdict tells, if it tells one
abbrev pub breach_in : Verdict → Option Breach
breach_in Yes = None
breach_in (CapabilityBreaks kind n i c) = Some (breach_with kind n i c)
breach_in (Sleeper p) = None

-- a capability that breaks the cut, or else a sleeper that does, or that it holds
abbrev pub found_by : Option Breach → Option ℕ → Verdict
found_by (Some found) sleeper = broken_by found
found_by None (Some p) = Sleeper p
found_by None None = Yes

-- what is found of a cut, of stored objects and of who stands where: capabilities before sleepers
abbrev pub verdict_of : Cut → Store → QueuesValue → Verdict
verdict_of cut s q = found_by (breach_of cut s) (sleeper_of cut q)
