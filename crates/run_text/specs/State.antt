-- The state of a machine as text: who stands where, then every object that is not empty.
use Rattle.std.specs.Prelude.{ℕ, ◌-◌, Bool, if◌then◌else◌, List, [], ◌∷◌, ◌++◌, codes}
use Rattle.cap_format.specs.declared.kind.CapKind.{CapKind}
use Rattle.cap_format.specs.declared.kind.CapKind.TheVariants.{Page, CapPage, Gpt, Endpoint, Process}
use Rattle.object_store.specs.Store.{Store, size_of}
use Rattle.schedules.specs.Queues.{QueuesValue, priorities, hart_of}
use Rattle.machine_state.specs.State.{State}
use Rattle.run_text.specs.declared.standing.Queue.{Queue}
use Rattle.run_text.specs.declared.standing.Queue.TheVariants.{Ready, Sleepers}
use Rattle.coy_io.specs.Lines.{line_feed}
use Rattle.run_text.specs.Each.{each_below}
use Rattle.run_text.specs.Objects.{object_text}
use Rattle.run_text.specs.Standing.{hart_text, queue_name, queue_text, members}

-- the line of a list of processes of these queues
abbrev pub queue_line : QueuesValue → Queue → List ℕ
queue_line q queue = queue_text (queue_name queue) (members q queue)

-- each hart
abbrev pub harts_text : QueuesValue → ℕ → List ℕ
harts_text q harts = each_below (λ hart. hart_text hart (hart_of q hart)) harts

-- each ready queue, from the highest priority down to 0
abbrev pub ready_text : QueuesValue → List ℕ
ready_text q = each_below (λ k. queue_line q (Ready (priorities - 1 - k))) priorities

-- the sleepers of each process
abbrev pub sleepers_text : QueuesValue → ℕ → List ℕ
sleepers_text q processes = each_below (λ on. queue_line q (Sleepers on)) processes

-- whether the machine is halted
abbrev pub halted_text : Bool → List ℕ
halted_text halted = if halted then codes "halted" ++ line_feed else []

-- the kinds of objects, in the order in which they are written
abbrev pub kinds : List CapKind
kinds = Page ∷ CapPage ∷ Gpt ∷ Endpoint ∷ Process ∷ []

-- all objects of a kind, by their numbers
abbrev pub kind_text : Store → CapKind → List ℕ
kind_text s kind = each_below (object_text s kind) (size_of s.items kind)

-- who stands where, of a machine with so many harts and processes
unfoldable pub standing_text : ℕ → ℕ → QueuesValue → List ℕ
standing_text harts processes q = harts_text q harts ++ (ready_text q ++ sleepers_text q processes)

-- what stands before the objects: who stands where, and whether the machine is halted
unfoldable pub front_text : ℕ → ℕ → QueuesValue → Bool → List ℕ
front_text harts processes q halted =
    (codes "state" ++ line_feed) ++ (standing_text harts processes q ++ halted_text halted)

-- all objects
unfoldable pub objects_text : Store → List ℕ
objects_text s =
    kind_text s Page ++ (kind_text s CapPage ++ (kind_text s Gpt ++ (kind_text s Endpoint ++ kind_text s Process)))

-- the state: who stands where, whether it is halted, and all objects
unfoldable pub state_text : State → List ℕ
state_text s =
    front_text s.store.harts (size_of s.store.items Process) s.queues s.halted ++
    (objects_text s.store ++ (codes "end" ++ line_feed))
