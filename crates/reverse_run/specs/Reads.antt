-- How many slots of GPTs are read at most to remember an event, to undo it, and by a list of calls. (This project's.)
use Rattle.std.specs.Prelude.{ℕ, ◌+◌, ◌≤◌, List, [], ◌∷◌}
use Rattle.cap_format.specs.declared.kind.CapKind.TheVariants.{Gpt}
use Rattle.object_store.specs.Saved.{slots_copied}
use Rattle.kernel_core.specs.Event.{event_of}
use Rattle.event_reach.specs.Reads.{an_instruction, a_plain_look}
use Rattle.event_reach.specs.FreshWalks.{walked}
use Rattle.reverse_run.specs.declared.call.Call.{Call}
use Rattle.reverse_run.specs.declared.call.Call.TheVariants.{Perform, Undo}
use Rattle.reverse_run.specs.History.{History}
use Rattle.reverse_run.specs.Calls.{after_call}

-- by a copy of a GPT; a copy of any other object reads none
abbrev pub a_copy : ℕ
a_copy = slots_copied Gpt

-- to remember all that an event may change: by the look for it, and by a copy of one GPT
abbrev pub a_past : ℕ
a_past = an_instruction + a_copy

-- to remember an event: by the look for a plain instruction, and where it is none by that for all that it may change
abbrev pub a_memento : ℕ
a_memento = a_plain_look + a_past

-- to undo an event: by a copy of one GPT
abbrev pub an_undo : ℕ
an_undo = a_copy

-- what is fetched without a history was fetched, and at most so many slots beside it
pub record FetchesWithin (own beside fetches fetches' : ℕ) : Type 0 where
  pub least : fetches + own ≤ fetches'
  pub most : fetches' ≤ fetches + own + beside

-- ---- lists of calls

-- the most for a call: what its event reads so, and what is read to remember it; or to undo one
abbrev pub most_for : History → Call → ℕ
most_for h (Perform e) = walked (event_of h.present e).touches + a_memento
most_for h Undo = an_undo

-- and for calls, one after the other
unfoldable pub most_in : ℕ → History → List Call → ℕ
most_in depth h [] = 0
most_in depth h (call ∷ calls) = most_for h call + most_in depth (after_call depth h call) calls
