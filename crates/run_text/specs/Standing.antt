-- Where processes stand: on harts, in ready queues, asleep on another.
use Rattle.std.specs.Prelude.{ℕ, ◌<◌, List, [], ◌∷◌, ◌++◌, length, codes, decimal, flat_map, Option, Some, None}
use Rattle.schedules.specs.Queues.{QueuesValue, priorities, ready_queue, sleepers_of}
use Rattle.coy_io.specs.Lines.{line_feed}
use Rattle.run_text.specs.declared.standing.Queue.{Queue}
use Rattle.run_text.specs.declared.standing.Queue.TheVariants.{Ready, Sleepers}

-- the process of a hart, if it has one
abbrev pub occupant_text : Option ℕ → List ℕ
occupant_text (Some p) = codes " " ++ decimal p
occupant_text None = codes " idle"

-- the line of a hart
unfoldable pub hart_text : ℕ → Option ℕ → List ℕ
hart_text hart occupant = codes "hart " ++ decimal hart ++ occupant_text occupant ++ line_feed

-- a process behind others
abbrev pub member_text : ℕ → List ℕ
member_text p = codes " " ++ decimal p

-- what a list of processes is called
abbrev pub queue_name : Queue → List ℕ
queue_name (Ready priority) = codes "ready " ++ decimal priority
queue_name (Sleepers on) = codes "sleepers " ++ decimal on

-- the processes that are in it, in their order
abbrev pub members : QueuesValue → Queue → List ℕ
members q (Ready priority) = ready_queue q priority
members q (Sleepers on) = sleepers_of q on

-- the line of a list of processes, first process first, unless it is empty
unfoldable pub queue_text : List ℕ → List ℕ → List ℕ
queue_text name [] = []
queue_text name (p ∷ ps) = name ++ (flat_map member_text (p ∷ ps) ++ line_feed)

-- there is such a list
abbrev pub IsQueue : QueuesValue → Queue → Type 0
IsQueue q (Ready priority) = priority < priorities
IsQueue q (Sleepers on) = on < length q.sleepers
