-- Equality of states, as it is computed.
use Rattle.std.specs.Prelude.{ℕ, ◌==◌, Bool, ◌&&◌, List, Option, nat_eq}
use Rattle.std.specs.Bool.{beq}
use Rattle.std.specs.Option.{option_eq}
use Rattle.std.specs.Cmp.Lexicographic.{pointwise}
use Rattle.object_store.specs.Store.{CountsValue, Contents, Store}
use Rattle.schedules.specs.Queues.{QueuesValue}
use Rattle.machine_state.specs.State.{State}
use Rattle.object_parts.specs.Same.{same_numbers, same_caps, same_gpt, same_process, same_endpoint}

-- lists of lists of numbers
abbrev pub same_lists : List (List ℕ) → List (List ℕ) → Bool
same_lists a b = pointwise same_numbers a b

-- the counts of objects
abbrev pub same_counts : CountsValue → CountsValue → Bool
same_counts a b = same_numbers a.pages b.pages && (same_numbers a.cappages b.cappages && (same_numbers a.gpts b.gpts && (same_numbers a.processes b.processes && same_numbers a.endpoints b.endpoints)))

-- the objects that no walk reads
abbrev pub same_contents : Contents → Contents → Bool
same_contents a b = same_lists a.pages b.pages && (pointwise same_caps a.cappages b.cappages && (pointwise same_process a.processes b.processes && pointwise same_endpoint a.endpoints b.endpoints))

-- all objects
abbrev pub same_store : Store → Store → Bool
same_store a b = (a.harts == b.harts) && (same_counts a.items.counts b.items.counts && (pointwise same_gpt a.items.gpts b.items.gpts && same_contents a.contents b.contents))

-- harts, each with its process or none
abbrev pub same_harts : List (Option ℕ) → List (Option ℕ) → Bool
same_harts a b = pointwise (option_eq nat_eq) a b

-- queues with harts
abbrev pub same_queues : QueuesValue → QueuesValue → Bool
same_queues a b = same_lists a.ready b.ready && (same_lists a.sleepers b.sleepers && same_harts a.harts b.harts)

-- states
abbrev pub same_state : State → State → Bool
same_state a b = same_store a.store b.store && (same_queues a.queues b.queues && beq a.halted b.halted)
