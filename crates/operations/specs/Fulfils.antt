-- What it is to do what a row says: which reply is given, and what is left, as it is stored.
use Rattle.std.specs.Prelude.{◌≡◌}
use Rattle.cap_format.specs.declared.request.Reply.{Reply}
use Rattle.object_store.specs.Store.{Store}
use Rattle.schedules.specs.Queues.{QueuesValue}
use Rattle.operations.specs.System.{Stored, system}
use Rattle.operations.specs.Change.{applied_all}
use Rattle.operations.specs.Row.{Settled, reply_of}

-- A request that comes to `settled` is done to the objects `s` alone: its reply is given, and its changes lead to the
-- objects `t`, whoever stands where.
pub record Fulfils (settled : Settled) (s : Store) (given : Reply) (t : Store) : Type 0 where
  pub reply : given ≡ reply_of settled
  pub changes : (q : QueuesValue) → applied_all Stored (system s q) settled.answer.changes ≡ system t q

-- It is done to objects and queues: its reply is given, and its changes lead from the objects `s` with the queues `q`
-- to the objects `t` with the queues `n`.
pub record FulfilsAll (settled : Settled) (s : Store) (q : QueuesValue)
    (given : Reply) (t : Store) (n : QueuesValue) : Type 0 where
  pub reply : given ≡ reply_of settled
  pub changes : applied_all Stored (system s q) settled.answer.changes ≡ system t n
