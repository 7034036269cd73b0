-- Lists of calls: what becomes of a history. (This project's.)
use Rattle.std.specs.Prelude.{◌≡◌, ℕ, ◌-◌, ◌<◌, ◌≤◌, List, [], ◌∷◌, ◌++◌, map, take, length, replicate}
use Rattle.machine_state.specs.declared.event.Event.{Event}
use Rattle.machine_state.specs.Machine.{hart_in}
use Rattle.reverse_run.specs.declared.call.Call.{Call}
use Rattle.reverse_run.specs.declared.call.Call.TheVariants.{Perform, Undo}
use Rattle.reverse_run.specs.History.{History, remembered, after_event, after_undo}

-- the history after a call, of which so many events are remembered
abbrev pub after_call : ℕ → History → Call → History
after_call depth h (Perform e) = after_event depth h e
after_call depth h Undo = after_undo h

-- the history after calls, one after the other
unfoldable pub history_after : ℕ → History → List Call → History
history_after depth h [] = h
history_after depth h (call ∷ calls) = history_after depth (after_call depth h call) calls

-- the event of a call, if it is one, is of one of so many harts
abbrev pub IsOfHart : ℕ → Call → Type 0
IsOfHart harts (Perform e) = hart_in e < harts
IsOfHart harts Undo = Unit {0}

-- ---- a law

-- these events, and then as many undos
abbrev pub there_and_back : List Event → List Call
there_and_back events = map Perform events ++ replicate (length events) Undo

-- Where all of them are remembered, the state is as before them; and of the events before them so many are forgotten.
abbrev pub UndoesAll : Type 0
UndoesAll = (depth : ℕ) (h : History) (events : List Event) → remembered h ≤ depth → length events ≤ depth
    → history_after depth h (there_and_back events) ≡ record { present = h.present; before = take (depth - length events) h.before }
