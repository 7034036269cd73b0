-- Where windows lead (Coyotos has the idea; the slots and refusals are this project's).
use Rattle.std.specs.Prelude.{ℕ, ◌+◌, Bool, true, not, ◌==◌, if◌then◌else◌, Option, Some, None, Result, Ok, Err}
use Rattle.cap_format.specs.Capability.{Capability}
use Rattle.cap_format.specs.declared.kind.CapKind.{CapKind}
use Rattle.cap_format.specs.declared.kind.CapKind.TheVariants.{Window, LocalWindow}
use Rattle.gpt_objects.specs.Header.{HeaderValue}
use Rattle.windows.specs.declared.context.Context.{Context}
use Rattle.windows.specs.declared.context.Next.{Next}

-- slot i of GPT g, at the window's offset and what its guard left of the address
abbrev pub next : ℕ → ℕ → Capability → ℕ → Next
next g i window r = record { gpt = g; slot = i; address = window.object + r }

-- a window leads into slot 14 of the background GPT, if there is one
abbrev pub through_background : Option ℕ → Capability → ℕ → Option Next
through_background None window r = None
through_background (Some g) window r = Some (next g 14 window r)

-- slot 15 is looked through where the GPT has no handler there, slot 14 where it has no background there, and any other
-- always
abbrev pub looks_through : HeaderValue → ℕ → Bool
looks_through h i = if i == 15 then not h.ha else (if i == 14 then not h.bg else true)

-- a local window leads into its slot of the holding GPT, if there is one and the slot is looked through
abbrev pub through_holding : Option (ℕ × HeaderValue) → Capability → ℕ → Option Next
through_holding None window r = None
through_holding (Some h) window r = if looks_through h.1 window.slot then Some (next h.0 window.slot window r) else None

-- where a window of this kind leads; None where it is malformed
abbrev pub resolution : CapKind → Capability → ℕ → Context → Option Next
resolution Window window r context = through_background context.background window r
resolution LocalWindow window r context = through_holding context.holding window r
resolution _ window r context = None

-- an answer, without the name of the refusal
abbrev pub next_if_any : {E : Type 0} → Result Next E → Option Next
next_if_any (Ok next) = Some next
next_if_any (Err e) = None
