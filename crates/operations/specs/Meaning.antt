-- What replies mean: a function of the capability in them, as the meaning is one.
use Rattle.std.specs.Prelude.{Option, Some, None}
use Rattle.cap_format.specs.declared.request.Reply.{Reply}
use Rattle.cap_format.specs.Capability.{Capability}

-- the function applied to the capability that is given, if there is one
abbrev pub cap_map : (Capability → Capability) → Option Capability → Option Capability
cap_map f None = None
cap_map f (Some c) = Some (f c)

-- a reply with the function applied to its capability
abbrev pub reply_map : (Capability → Capability) → Reply → Reply
reply_map f reply = record { code = reply.code; words = reply.words; cap = cap_map f reply.cap; changed = reply.changed }
