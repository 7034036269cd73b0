-- The queues of a machine: who waits where, as lists of processes. (Coyotos; the code has lists of fixed room.)
use Rattle.std.specs.Prelude.{ℕ, zero, suc, ◌==◌, Bool, if◌then◌else◌, List, [], ◌∷◌, ◌++◌, map, length, Option, Some, None, slice_index_or, slice_set}
use Rattle.std.specs.List.{list_any}
use Rattle.cap_format.specs.declared.kind.CapKind.TheVariants.{Schedule}
use Rattle.cap_format.specs.Kind.{object_limit}

-- how many priorities there are: as many as schedules may have
abbrev pub priorities : ℕ
priorities = object_limit Schedule

-- a ready queue for each priority, the sleepers of each process, and each hart's process
pub record QueuesValue : Type 0 where
  pub ready : List (List ℕ)
  pub sleepers : List (List ℕ)
  pub harts : List (Option ℕ)

-- the ready queue of a priority, first process first
abbrev pub ready_queue : QueuesValue → ℕ → List ℕ
ready_queue q priority = slice_index_or q.ready priority []

-- the processes that sleep on this one, first to be woken first
abbrev pub sleepers_of : QueuesValue → ℕ → List ℕ
sleepers_of q process = slice_index_or q.sleepers process []

-- the process on a hart
abbrev pub hart_of : QueuesValue → ℕ → Option ℕ
hart_of q hart = slice_index_or q.harts hart None

-- the process is in the list
abbrev pub stands_in : List ℕ → ℕ → Bool
stands_in xs p = list_any (λ x. x == p) xs

-- the first of a list
abbrev pub first_of : List ℕ → Option ℕ
first_of [] = None
first_of (x ∷ xs) = Some x

-- a list without its first
abbrev pub rest_of : List ℕ → List ℕ
rest_of [] = []
rest_of (x ∷ xs) = xs

-- a list without the process, wherever it stands there
abbrev pub without : ℕ → List ℕ → List ℕ
without p [] = []
without p (x ∷ xs) = if x == p then without p xs else x ∷ without p xs

-- a hart without the process
abbrev pub hart_without : ℕ → Option ℕ → Option ℕ
hart_without p None = None
hart_without p (Some x) = if x == p then None else Some x

-- the process is put last in the ready queue of this priority
abbrev pub enqueued : QueuesValue → ℕ → ℕ → QueuesValue
enqueued q priority p = record { ready = slice_set q.ready priority (ready_queue q priority ++ p ∷ []); sleepers = q.sleepers; harts = q.harts }

-- the process becomes the last sleeper of another
abbrev pub asleep : QueuesValue → ℕ → ℕ → QueuesValue
asleep q p on = record { ready = q.ready; sleepers = slice_set q.sleepers on (sleepers_of q on ++ p ∷ []); harts = q.harts }

-- the process leaves whatever place it stands in
abbrev pub left : QueuesValue → ℕ → QueuesValue
left q p = record { ready = map (without p) q.ready; sleepers = map (without p) q.sleepers; harts = map (hart_without p) q.harts }

-- the highest priority below n whose ready queue is not empty
unfoldable pub highest_below : List (List ℕ) → ℕ → Option ℕ
highest_below ready zero = None
highest_below ready (suc k) = if length (slice_index_or ready k []) == 0 then highest_below ready k else Some k

-- the hart takes the first of the ready queue of this priority
abbrev pub taken_from : QueuesValue → ℕ → Option ℕ → QueuesValue
taken_from q hart None = q
taken_from q hart (Some priority) = record { ready = slice_set q.ready priority (rest_of (ready_queue q priority)); sleepers = q.sleepers; harts = slice_set q.harts hart (first_of (ready_queue q priority)) }

-- a hart that has a process keeps it
abbrev pub dispatched_by : QueuesValue → ℕ → Option ℕ → QueuesValue
dispatched_by q hart None = taken_from q hart (highest_below q.ready priorities)
dispatched_by q hart (Some p) = q

-- a hart without a process takes the first of the highest ready queue that is not empty
abbrev pub dispatched : QueuesValue → ℕ → QueuesValue
dispatched q hart = dispatched_by q hart (hart_of q hart)
