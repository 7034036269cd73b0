-- What is left to show of requests that change places, once they are done.
use Rattle.std.proofs.Common.{◌≡◌, ◌<◌, ◌==◌, ℕ, Bool, true, false, true≢false, Option, Some, [], ◌∷◌, if◌then◌else◌, length, get_or, refl, sym, ap, ◌∙◌, subst}
use Rattle.std.proofs.lemmas.List.{get_or-set_same}
use Rattle.cap_format.specs.declared.kind.CapKind.{CapKind}
use Rattle.cap_format.specs.declared.kind.CapKind.TheVariants.{Process}
use Rattle.cap_format.specs.declared.item.Item.{Item}
use Rattle.cap_format.specs.declared.item.Item.TheVariants.{Header}
use Rattle.cap_format.specs.declared.request.Reply.{Reply}
use Rattle.cap_format.specs.Kind.{is_object}
use Rattle.cap_format.specs.Capability.{Capability}
use Rattle.process_objects.specs.declared.state.State.{State}
use Rattle.process_objects.specs.declared.state.State.TheVariants.{Running, Receiving, Faulted}
use Rattle.process_objects.specs.Process.{ProcessValue, with_state, stopped, empty_process}
use Rattle.object_store.specs.Store.{Store, process_at, with_process, count_of, emptied}
use Rattle.object_store.specs.Object.{Stays}
use Rattle.schedules.specs.Queues.{QueuesValue, left, sleepers_of}
use Rattle.schedules.specs.Standing.{standing}
use Rattle.schedules.specs.Ready.{runs_of, places_due, process_names, Agrees}
use Rattle.operations.specs.System.{system, Stored}
use Rattle.operations.specs.Change.{Change, Left, ProcessIs, Woken, Destroyed, applied_all, item_in}
use Rattle.operations.specs.Row.{settled, granted, nothing, reply_of}
use Rattle.operations.specs.Control.{stop_row, destroy_row, destruction_of, is_faulted, is_process}
use Rattle.operations.proofs.Placed.{nowhere_stopped, agrees_emptied, process_stays}

-- a process that is faulted asks for no place
pub faulted_due : (state : State) → is_faulted state ≡ true → places_due state ≡ 0
faulted_due Running e = absurd (true≢false (sym e))
faulted_due (Receiving accept) e = absurd (true≢false (sym e))
faulted_due (Faulted code address) e = refl

-- one that is stopped has left its place, and has another state
pub stop_done : (s : Store) (q : QueuesValue) (c : Capability) (t : Store) (n : QueuesValue) → is_faulted (process_at s c.object).state ≡ false
    → t ≡ with_process s c.object (with_state (process_at s c.object) stopped) → n ≡ left q c.object
    → applied_all Stored (system s q) (settled (stop_row s c)).answer.changes ≡ system t n
unfolding stop_row
stop_done s q c t n running objects queues = rw (running, objects, queues) refl

-- and is told no item
pub stop_reply : (s : Store) (c : Capability) → is_faulted (process_at s c.object).state ≡ false → reply_of (settled (stop_row s c)) ≡ reply_of (granted nothing)
unfolding stop_row
stop_reply s c running = rw running refl

-- a destruction is of the header of its object
destruction_item : (s : Store) (kind : CapKind) (n : ℕ) → item_in (destruction_of s kind n) ≡ Some (Header kind n)
unfolding destruction_of
destruction_item s kind n = by (is_process kind)
  where
    by : (b : Bool) → item_in (if b then Left n ∷ ProcessIs n (with_state (process_at s n) stopped) ∷ Woken n ∷ Destroyed kind n ∷ [] else Destroyed kind n ∷ []) ≡ Some (Header kind n)
    by true = refl
    by false = refl

-- and tells it
pub destroy_reply : (s : Store) (sent : Capability) → is_object sent.kind ≡ true → (count_of s.items sent.kind sent.object == 1048575) ≡ false
    → reply_of (settled (destroy_row s sent)) ≡ record (reply_of (granted nothing)) { changed = Some (Header sent.kind sent.object) }
unfolding destroy_row
destroy_reply s sent object count = rw (object, count, destruction_item s sent.kind sent.object) refl

-- and its changes are those of the object
pub destroy_changes : (s : Store) (sent : Capability) → is_object sent.kind ≡ true → (count_of s.items sent.kind sent.object == 1048575) ≡ false
    → (settled (destroy_row s sent)).answer.changes ≡ destruction_of s sent.kind sent.object
unfolding destroy_row
destroy_changes s sent object count = rw (object, count) refl

-- a process that was stopped, whose sleepers were woken, and that is destroyed: states and places agree
pub ended : (s : Store) (p : ℕ) (v : ProcessValue) (q : QueuesValue) (t : Store) (n : QueuesValue) → places_due v.state ≡ 0 → p < length s.contents.processes → p < length q.sleepers → p < length t.contents.processes
    → standing q p ≡ 0 → Stays (process_names (sleepers_of q p)) (with_process s p v) t → Agrees (runs_of t n) → Agrees (runs_of (emptied Process p t) n)
ended s p v q t n due there listed after nowhere stays agrees =
    let same : process_at t p ≡ v = process_stays (with_process s p v) t q p p listed nowhere stays ∙ get_or-set_same s.contents.processes p v empty_process there in
    let none : standing n p ≡ 0 = nowhere_stopped (runs_of t n) p agrees after (ap (λ (z : ProcessValue). places_due z.state) same ∙ due) in
    agrees_emptied t n p after none agrees
