-- A walk's window rules as what windows come to: they are the last two cases of the walk.
use Rattle.std.specs.Prelude.{◌≡◌, ℕ, true, Option, Some, None}
use Rattle.cap_format.specs.Capability.{Capability}
use Rattle.cap_format.specs.Kind.{is_window}
use Rattle.cap_format.specs.declared.fault.FaultCode.TheVariants.{MalformedSpace}
use Rattle.gpt_objects.specs.Header.{HeaderValue}
use Rattle.object_store.specs.Store.{Items, header_at}
use Rattle.walk_meaning.specs.declared.at.At.{At}
use Rattle.walk_meaning.specs.declared.kind.Kind.{Kind}
use Rattle.walk_meaning.specs.declared.step.Step.{Step}
use Rattle.walk_meaning.specs.declared.step.Step.TheVariants.{Fault, Go}
use Rattle.walk_meaning.specs.Walk.{at_kind}
use Rattle.windows.specs.declared.context.Context.{Context}
use Rattle.windows.specs.declared.context.Next.{Next}
use Rattle.windows.specs.Resolve.{resolution}

-- the holding GPT with its header
abbrev pub held : Items → Option ℕ → Option (ℕ × HeaderValue)
held o None = None
held o (Some g) = Some (g, header_at o g)

-- what a window may look into where a walk stands
abbrev pub context_of : Items → At → Context
context_of o w = record { holding = held o w.holding; background = w.background }

-- the walk behind a window: malformed windows fault, and the others lead on, with their GPT as the holding one
abbrev pub step_through : At → Option Next → Step
step_through w None = Fault MalformedSpace w.handler
step_through w (Some next) = Go (record w { holding = Some next.gpt; address = next.address }) next.gpt next.slot

-- the two window rules of a walk are what windows come to
abbrev pub WindowLaw : Type 0
WindowLaw = (o : Items) (kind : Kind) (c : Capability) (w : At) → is_window c.kind ≡ true
    → at_kind o kind c.kind c w ≡ step_through w (resolution c.kind c w.address (context_of o w))
