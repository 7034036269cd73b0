-- Lists of names that cover what a part of an event changes.
use Rattle.std.proofs.Common.{◌≡◌, ℕ, ◌⊎◌, inl, inr, Bool, true, false, if◌then◌else◌, ◌&&◌, ◌==◌, List, [], ◌∷◌, ◌++◌, Option, Some, None}
use Rattle.cap_format.specs.declared.code.Code.TheVariants.{RequestError}
use Rattle.cap_format.specs.declared.kind.CapKind.{CapKind}
use Rattle.cap_format.specs.declared.kind.CapKind.TheVariants.{Endpoint, Process}
use Rattle.cap_format.specs.Capability.{Capability}
use Rattle.object_store.specs.Object.{ObjectName, object_name, IsAmong}
use Rattle.schedules.specs.Ready.{process_names}
use Rattle.fault_path.specs.Fault.{fault_names}
use Rattle.invocation.specs.Answerer.{Answer}
use Rattle.invocation.specs.Answerer.Answer.{Dead, Open, Busy}
use Rattle.invocation.specs.Invocation.{InvocationValue}
use Rattle.operations.specs.Row.{refused, reply_of, settled_in}
use Rattle.string_move.specs.declared.piece.Piece.{Piece}
use Rattle.string_move.specs.Move.{page_names}
use Rattle.machine_state.specs.State.{State}
use Rattle.machine_state.specs.Outcome.{process_name, names_on}
use Rattle.messages.specs.Followed.{followed}
use Rattle.messages.specs.Waiting.{listen}
use Rattle.kernel_core.specs.KernelOperation.{asked_number, answered_call, is_no_log, log_string, kind_table, kernlog_op}
use Rattle.kernel_core.specs.SystemCall.{Sending, received_after}
use Rattle.event_reach.specs.Reach.{Covers, heard_names}

-- nothing is named
pub covers_none : (found : List ObjectName) → Covers found []
covers_none found = record { each = λ kind n among. elim among [ ] }

-- nothing but what is found is named
pub covers_same : (found : List ObjectName) → Covers found found
covers_same found = record { each = λ kind n among. inr among }

-- a process is named in front
pub covers_process : (found names : List ObjectName) (p : ℕ) → Covers found names → Covers found (process_name p ∷ names)
covers_process found names p rest = record { each = by }
  where
    by : (kind : CapKind) (n : ℕ) → IsAmong kind n (process_name p ∷ names) → (kind ≡ Process) ⊎ IsAmong kind n found
    by kind n (inl here) = inl here.0
    by kind n (inr later) = rest.each kind n later

-- the first that is found is named in front
pub covers_front : (found names : List ObjectName) (name : ObjectName) → Covers (name ∷ found) names → Covers (name ∷ found) (name ∷ names)
covers_front found names name rest = record { each = by }
  where
    by : (kind : CapKind) (n : ℕ) → IsAmong kind n (name ∷ names) → (kind ≡ Process) ⊎ IsAmong kind n (name ∷ found)
    by kind n (inl here) = inr (inl here)
    by kind n (inr later) = rest.each kind n later

-- the names of one part, and those of another behind them
pub covers_both : (found names more : List ObjectName) → Covers found names → Covers found more → Covers found (names ++ more)
covers_both found [] more first second = second
covers_both found (name ∷ names) more first second = by (covers_both found names more (record { each = λ kind n among. first.each kind n (inr among) }) second)
  where
    by : Covers found (names ++ more) → Covers found (name ∷ names ++ more)
    by rest = record { each = each }
      where
        each : (kind : CapKind) (n : ℕ) → IsAmong kind n (name ∷ names ++ more) → (kind ≡ Process) ⊎ IsAmong kind n found
        each kind n (inl here) = first.each kind n (inl here)
        each kind n (inr later) = rest.each kind n later

-- processes alone are named
pub covers_processes : (found : List ObjectName) (ps : List ℕ) → Covers found (process_names ps)
covers_processes found [] = covers_none found
covers_processes found (p ∷ ps) = covers_process found (process_names ps) p (covers_processes found ps)

-- the process of a hart alone is named
pub covers_on : (found : List ObjectName) (on : Option ℕ) → Covers found (names_on on)
covers_on found None = covers_none found
covers_on found (Some p) = covers_process found [] p (covers_none found)

-- what is found behind more
pub covers_more : (found names : List ObjectName) (name : ObjectName) → Covers found names → Covers (name ∷ found) names
covers_more found names name covers = record { each = λ kind n among. by kind n (covers.each kind n among) }
  where
    by : (kind : CapKind) (n : ℕ) → (kind ≡ Process) ⊎ IsAmong kind n found → (kind ≡ Process) ⊎ IsAmong kind n (name ∷ found)
    by kind n (inl process) = inl process
    by kind n (inr among) = inr (inr among)

-- the endpoint through which a fault is heard is all that it changes besides processes
pub covers_fault : (p : ℕ) (answer : Answer) → Covers (heard_names answer) (fault_names p answer)
covers_fault p Dead = covers_process [] [] p (covers_none [])
covers_fault p (Busy q) = covers_process [] [] p (covers_none [])
covers_fault p (Open e q) =
    let found : List ObjectName = object_name Endpoint e ∷ [] in
    covers_process found (object_name Endpoint e ∷ process_name q ∷ []) p
    (covers_front [] (process_name q ∷ []) (object_name Endpoint e) (covers_process found [] q (covers_none found)))

-- a receive phase behind a send phase changes processes alone
pub covers_received : (found : List ObjectName) (p : ℕ) (inv : InvocationValue) (sending : Sending) → Covers found sending.outcome.changed → Covers found (received_after p inv sending).changed
unfolding listen
covers_received found p inv sending covers = by (sending.delivers && inv.receive)
  where
    by : (b : Bool) → Covers found (if b then followed sending.outcome (listen sending.outcome.state p inv) else sending.outcome).changed
    by true = covers_both found _ _ covers (covers_processes found _)
    by false = covers

-- a message that is told changes its endpoint, the pages of its string and processes
pub covers_delivery : (e q : ℕ) (into : List Piece) → Covers (object_name Endpoint e ∷ page_names into) (page_names into ++ object_name Endpoint e ∷ process_name q ∷ [])
covers_delivery e q into =
    let found : List ObjectName = object_name Endpoint e ∷ page_names into in
    covers_both found (page_names into) (object_name Endpoint e ∷ process_name q ∷ []) (covers_more (page_names into) (page_names into) (object_name Endpoint e) (covers_same (page_names into)))
    (covers_front (page_names into) (process_name q ∷ []) (object_name Endpoint e) (covers_process found [] q (covers_none found)))

-- a request to KernLog changes what the string changes that it may log
pub covers_log : (found : List ObjectName) (s : State) (p : ℕ) (inv : InvocationValue) (c : Capability) → Covers found (log_string s p inv).changed → Covers found (kernlog_op s p inv c).changed
unfolding kernlog_op
covers_log found s p inv c covers = by (asked_number inv == 8) (is_no_log inv.length)
  where
    by : (asks none : Bool)
        → Covers found (if asks then (if none then answered_call s p inv (reply_of (refused RequestError)) else log_string s p inv) else answered_call s p inv (reply_of (settled_in (kind_table c) (asked_number inv)))).changed
    by true true = covers_none found
    by true false = covers
    by false none = covers_none found
