-- Kernel operations of the memory kinds: Page, CapPage, GPT, Window and LocalWindow. (Coyotos; the numbers, the order
-- of refusals and what each refuses are this project's.) One definition a row, and one table a kind.
use Rattle.std.specs.Prelude.{ℕ, ◌+◌, ◌-◌, ◌*◌, ◌/◌, ◌%◌, ◌^◌, ◌==◌, nat_lt, nat_le, Bool, true, false, not, ◌&&◌, ◌||◌, if◌then◌else◌, [], ◌∷◌, List}
use Rattle.cap_format.specs.declared.kind.CapKind.{CapKind}
use Rattle.cap_format.specs.declared.kind.CapKind.TheVariants.{Page, CapPage, Gpt}
use Rattle.cap_format.specs.declared.code.Code.{Code}
use Rattle.cap_format.specs.declared.code.Code.TheVariants.{Ok as OkCode}
use Rattle.cap_format.specs.declared.request.Request.{Request}
use Rattle.cap_format.specs.Kind.{number_of, is_window}
use Rattle.cap_format.specs.Restr.{has, RO, OP}
use Rattle.cap_format.specs.Guard.{guard_of}
use Rattle.cap_format.specs.Capability.{Capability, window, local_window, with_guard}
use Rattle.cap_format.specs.Weakening.{reduced}
use Rattle.gpt_objects.specs.Header.{header_of}
use Rattle.page_store.specs.Page.{empty_page}
use Rattle.page_store.specs.CapPage.{cap_at, with_cap, empty_cappage}
use Rattle.object_store.specs.Store.{Store, header_at, slot_at, page_at, cappage_at}
use Rattle.operations.specs.Weak.{read_through}
use Rattle.operations.specs.Change.{PageIs, CapPageIs, SlotIs, HeaderIs}
use Rattle.operations.specs.Row.{Row, Settled, tells, gives, does, always, unless_error, with_access, settled_in}
use Rattle.operations.specs.Request.{w1, w2, w3, w4}

-- ---- what the rows test

-- the restrictions that rows ask for
abbrev pub read_only : Capability → Bool
read_only c = has c.restr RO

-- whether OP is among the restrictions of a capability
abbrev pub opaque : Capability → Bool
opaque c = has c.restr OP

-- the two numbers are a guard's
unfoldable pub is_guard : ℕ → ℕ → Bool
is_guard l2g matches = nat_le 12 l2g && nat_le l2g 32 && nat_lt matches (2 ^ (32 - l2g))

-- the offset is a multiple of the size of what passes the guard
unfoldable pub is_multiple : ℕ → ℕ → Bool
is_multiple l2g offset = offset % 2 ^ l2g == 0

-- the two numbers are a guard that the capability may have
unfoldable pub may_have : Capability → ℕ → ℕ → Bool
may_have c l2g matches = is_guard l2g matches && (not (is_window c.kind) || is_multiple l2g c.object)

-- whether a capability is to a page
abbrev pub is_page : CapKind → Bool
is_page Page = true
is_page _ = false

-- 1 for a flag that is set
abbrev pub bit : Bool → ℕ
bit flag = if flag then 1 else 0

-- ---- all kinds but Null and Entry

-- 0 kind: w2 = the type number
unfoldable pub kind_row : Capability → Row
kind_row c = always (tells (number_of c.kind) 0 0)

-- ---- all memory kinds

-- 1 reduce: this capability with the restrictions w2 added
unfoldable pub reduce_row : Capability → Request → Row
reduce_row c r = unless_error (nat_lt 31 (w2 r)) (gives (reduced c (w2 r)))

-- 2 getguard: w2 = l2g, w3 = match
unfoldable pub getguard_row : Capability → Row
getguard_row c = always (tells c.guard.l2g c.guard.matches 0)

-- 3 setguard: this capability with the guard of w2 and w3
unfoldable pub setguard_row : Capability → Request → Row
setguard_row c r =
    with_access (opaque c) (not (may_have c (w2 r) (w3 r)))
    (gives (with_guard c (guard_of (w2 r) (w3 r))))

-- 4 getrestr: w2 = the restrictions
unfoldable pub getrestr_row : Capability → Row
getrestr_row c = always (tells c.restr 0 0)

-- ---- Page

-- 8 clear: the page becomes zeros
unfoldable pub clear_page_row : Capability → Row
clear_page_row c = with_access (read_only c) false (does (PageIs c.object empty_page ∷ []))

-- 9 copy: the bytes of the page that was sent
unfoldable pub copy_row : Store → Capability → Request → Row
copy_row s c r =
    with_access (read_only c) (not (is_page r.sent.kind))
    (does (PageIs c.object (page_at s r.sent.object) ∷ []))

-- ---- CapPage

-- 8 clear: all slots become Null
unfoldable pub clear_cappage_row : Capability → Row
clear_cappage_row c = with_access (read_only c) false (does (CapPageIs c.object empty_cappage ∷ []))

-- 9 get: the capability of slot w2, weakened where WK
unfoldable pub get_row : Store → Capability → Request → Row
get_row s c r = unless_error (nat_lt 255 (w2 r)) (gives (read_through c.restr (cap_at (cappage_at s c.object) (w2 r))))

-- 10 set: slot w2 becomes what was sent
unfoldable pub set_row : Store → Capability → Request → Row
set_row s c r =
    with_access (read_only c) (nat_lt 255 (w2 r))
    (does (CapPageIs c.object (with_cap (cappage_at s c.object) (w2 r) r.sent) ∷ []))

-- ---- GPT

-- 8 getslot: the capability of slot w2, weakened where WK
unfoldable pub getslot_row : Store → Capability → Request → Row
getslot_row s c r =
    with_access (opaque c) (nat_lt 15 (w2 r))
    (gives (read_through c.restr (slot_at s.items c.object (w2 r))))

-- 9 setslot: slot w2 becomes what was sent
unfoldable pub setslot_row : Capability → Request → Row
setslot_row c r = with_access (opaque c || read_only c) (nat_lt 15 (w2 r)) (does (SlotIs c.object (w2 r) r.sent ∷ []))

-- 10 getheader: w2 = l2v, w3 = 1 for ha plus 2 for bg
unfoldable pub getheader_row : Store → Capability → Row
getheader_row s c =
    let header = header_at s.items c.object in
    with_access (opaque c) false (tells header.l2v (bit header.ha + 2 * bit header.bg) 0)

-- 11 setheader: w2 = l2v, w3 = the flags
unfoldable pub setheader_row : Capability → Request → Row
setheader_row c r =
    with_access (opaque c || read_only c) (nat_lt (w2 r) 12 || nat_lt 31 (w2 r) || nat_lt 3 (w3 r))
    (does (HeaderIs c.object (header_of (w2 r) (w3 r % 2 == 1) (w3 r / 2 == 1)) ∷ []))

-- 12 setwindow: what w2 holds
abbrev pub window_slot : Request → ℕ
window_slot r = w2 r % 16

-- bit 4: whether it becomes a local window
abbrev pub window_is_local : Request → Bool
window_is_local r = w2 r / 16 % 2 == 1

-- bits 5 to 8: the slot of a local window
abbrev pub window_local_slot : Request → ℕ
window_local_slot r = w2 r / 32 % 16

-- bits 9 to 14: the size of its guard
abbrev pub window_l2g : Request → ℕ
window_l2g r = w2 r / 512 % 64

-- bits 15 to 19: its restrictions
abbrev pub window_restr : Request → ℕ
window_restr r = w2 r / 32768 % 32

-- bits 20 to 31 are set, a local slot stands there without the flag, the guard is out of range, or the offset is no
-- multiple
unfoldable pub window_error : Request → Bool
window_error r =
    nat_le (2 ^ 20) (w2 r)
    || (not (window_is_local r) && not (window_local_slot r == 0))
    || not (is_guard (window_l2g r) (w3 r))
    || not (is_multiple (window_l2g r) (w4 r))

-- the window that the slot becomes: a local one where the flag is set
unfoldable pub window_of : Request → Capability
window_of r =
    if window_is_local r then local_window (window_local_slot r) (window_restr r) (guard_of (window_l2g r) (w3 r)) (w4 r)
    else window (window_restr r) (guard_of (window_l2g r) (w3 r)) (w4 r)

-- 12 setwindow: w3 = match, w4 = offset
unfoldable pub setwindow_row : Capability → Request → Row
setwindow_row c r =
    with_access (opaque c || read_only c) (window_error r)
    (does (SlotIs c.object (window_slot r) (window_of r) ∷ []))

-- ---- the tables: the row that has a number, if there is one

-- a page
unfoldable pub page_table : Store → Capability → Request → List (ℕ × Row)
page_table s c r =
    (8, clear_page_row c)
    ∷ (9, copy_row s c r)
    ∷ []

-- a capability page
unfoldable pub cappage_table : Store → Capability → Request → List (ℕ × Row)
cappage_table s c r =
    (8, clear_cappage_row c)
    ∷ (9, get_row s c r)
    ∷ (10, set_row s c r)
    ∷ []

-- a GPT
unfoldable pub gpt_table : Store → Capability → Request → List (ℕ × Row)
gpt_table s c r =
    (8, getslot_row s c r)
    ∷ (9, setslot_row c r)
    ∷ (10, getheader_row s c)
    ∷ (11, setheader_row c r)
    ∷ (12, setwindow_row c r)
    ∷ []

-- what a kind has beyond what all memory kinds have
unfoldable pub own_table : Store → Capability → Request → CapKind → List (ℕ × Row)
own_table s c r Page = page_table s c r
own_table s c r CapPage = cappage_table s c r
own_table s c r Gpt = gpt_table s c r
own_table s c r _ = []

-- the rows of a memory kind
unfoldable pub memory_table : Store → Capability → Request → CapKind → List (ℕ × Row)
memory_table s c r kind =
    (0, kind_row c)
    ∷ (1, reduce_row c r)
    ∷ (2, getguard_row c)
    ∷ (3, setguard_row c r)
    ∷ (4, getrestr_row c)
    ∷ own_table s c r kind

-- whether a capability is to a GPT
abbrev pub is_gpt : CapKind → Bool
is_gpt Gpt = true
is_gpt _ = false

-- whether a code is Ok
abbrev pub is_granted : Code → Bool
is_granted OkCode = true
is_granted _ = false

-- how many slots of GPTs a request reads that ends with this code: one for a `getslot` that replies Ok
abbrev pub reads : CapKind → ℕ → Code → ℕ
reads kind number code = if is_gpt kind && number == 8 && is_granted code then 1 else 0

-- a request to a capability of a memory kind
unfoldable pub memory_operation : Store → Capability → Request → Settled
memory_operation s c r = settled_in (memory_table s c r c.kind) (w1 r)
