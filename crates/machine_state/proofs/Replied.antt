-- A reply to a process, as it means, and what it leaves.
use Rattle.std.proofs.Common.{◌≡◌, ℕ, ◌==◌, Bool, true, false, if◌then◌else◌, refl, ap, ◌∙◌, slice_index, Option, Some, None, IfSome}
use Rattle.std.specs.List.{All}
use Rattle.cap_format.specs.declared.request.Reply.{Reply}
use Rattle.cap_format.specs.Capability.{Capability, null}
use Rattle.process_objects.specs.Accept.{AcceptValue}
use Rattle.process_objects.specs.Process.{ProcessValue, with_capreg}
use Rattle.object_store.specs.Meaning.{process_map}
use Rattle.object_store.proofs.Means.{process_map-with_capreg}
use Rattle.object_store.proofs.Each.{capreg_set-each}
use Rattle.operations.specs.Meaning.{cap_map, reply_map}
use Rattle.machine_state.specs.Reply.{answered, replied_with, replied}

-- what a reply tells is no capability
answered-map : (f : Capability → Capability) (q : ProcessValue) (number : ℕ) (reply : Reply) → process_map f (answered q number reply) ≡ answered (process_map f q) number (reply_map f reply)
unfolding answered
answered-map f q number reply = refl

-- a function of each capability of a process with a reply is the reply, of which it is a function too
pub replied_map : (f : Capability → Capability) → f null ≡ null → (q : ProcessValue) (accept : AcceptValue) (reply : Reply) → process_map f (replied q accept reply) ≡ replied (process_map f q) accept (reply_map f reply)
unfolding replied
replied_map f null_is q accept reply = on reply.cap
  where
    by : (c : Capability) (b : Bool) → process_map f (if b then answered q 0 reply else with_capreg (answered q 1 reply) (slice_index accept.regs 0) c) ≡ (if b then answered (process_map f q) 0 (reply_map f reply) else with_capreg (answered (process_map f q) 1 (reply_map f reply)) (slice_index accept.regs 0) (f c))
    by c true = answered-map f q 0 reply
    by c false = process_map-with_capreg f null_is (answered q 1 reply) (slice_index accept.regs 0) c ∙ ap (λ (z : ProcessValue). with_capreg z (slice_index accept.regs 0) (f c)) (answered-map f q 1 reply)

    on : (cap : Option Capability) → process_map f (replied_with q accept reply cap) ≡ replied_with (process_map f q) accept (reply_map f reply) (cap_map f cap)
    on None = answered-map f q 0 reply
    on (Some c) = by c (accept.caps == 0)

-- what a process keeps behind a reply: a fact of each register that the capability of the reply has too, its slots and
-- its state
pub record KeepsReply (P : Capability → Type 0) (q r : ProcessValue) : Type 0 where
  pub capregs : All P r.capregs
  pub slots : r.slots ≡ q.slots
  pub state : r.state ≡ q.state

answered-keeps : (P : Capability → Type 0) (q : ProcessValue) (number : ℕ) (reply : Reply) → All P q.capregs → KeepsReply P q (answered q number reply)
unfolding answered
answered-keeps P q number reply all = record { capregs = all; slots = refl; state = refl }

pub replied_keeps : (P : Capability → Type 0) → P null → (q : ProcessValue) (accept : AcceptValue) (reply : Reply) → All P q.capregs → IfSome reply.cap P → KeepsReply P q (replied q accept reply)
unfolding replied
replied_keeps P of_null q accept reply all given = on reply.cap given
  where
    by : (c : Capability) → P c → (b : Bool) → KeepsReply P q (if b then answered q 0 reply else with_capreg (answered q 1 reply) (slice_index accept.regs 0) c)
    by c h true = answered-keeps P q 0 reply all
    by c h false =
        let told = answered-keeps P q 1 reply all in
        record { capregs = capreg_set-each P of_null (answered q 1 reply).capregs (slice_index accept.regs 0) c h told.capregs; slots = told.slots; state = told.state }

    on : (cap : Option Capability) → IfSome cap P → KeepsReply P q (replied_with q accept reply cap)
    on None h = answered-keeps P q 0 reply all
    on (Some c) h = by c h (accept.caps == 0)
