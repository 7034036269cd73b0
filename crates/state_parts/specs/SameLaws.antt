-- Each of these tests answers true exactly where both are equal.
use Rattle.std.proofs.Common.{◌≡◌, ℕ, ◌==◌, ◌&&◌, List, Option, Some, None, nat_eq, refl, ap}
use Rattle.std.specs.Bool.{beq, Decides}
use Rattle.std.specs.Option.{option_eq}
use Rattle.std.specs.Cmp.{unsigned_Decides, booleans_Decides}
use Rattle.std.specs.Cmp.Lexicographic.{pointwise, pointwise_decides}
use Rattle.std.proofs.lemmas.Bool.Decides.{Decides-and, Decides-like}
use Rattle.object_store.specs.Store.{CountsValue, Contents, Store, counts_by_kind}
use Rattle.schedules.specs.Queues.{QueuesValue}
use Rattle.machine_state.specs.State.{State}
use Rattle.object_parts.specs.Same.{same_numbers, same_caps, same_gpt, same_process, same_endpoint}
use Rattle.object_parts.specs.SameLaws.{numbers_decide, caps_decide, gpt_decides, process_decides, endpoint_decides}
use Rattle.state_parts.specs.Same.{same_lists, same_counts, same_contents, same_store, same_harts, same_queues, same_state}

-- lists of lists are the same where each is
pub lists_decide : (a b : List (List ℕ)) → Decides (same_lists a b) (a ≡ b)
lists_decide a b = pointwise_decides numbers_decide a b

counts_decide : (a b : CountsValue) → Decides (same_counts a b) (a ≡ b)
counts_decide a b =
    Decides-like (same_counts a b) whole parts
    (Decides-and (same_numbers a.pages b.pages) (same_numbers a.cappages b.cappages && (same_numbers a.gpts b.gpts && (same_numbers a.processes b.processes && same_numbers a.endpoints b.endpoints))) (numbers_decide a.pages b.pages)
    (Decides-and (same_numbers a.cappages b.cappages) (same_numbers a.gpts b.gpts && (same_numbers a.processes b.processes && same_numbers a.endpoints b.endpoints)) (numbers_decide a.cappages b.cappages)
    (Decides-and (same_numbers a.gpts b.gpts) (same_numbers a.processes b.processes && same_numbers a.endpoints b.endpoints) (numbers_decide a.gpts b.gpts)
    (Decides-and (same_numbers a.processes b.processes) (same_numbers a.endpoints b.endpoints) (numbers_decide a.processes b.processes) (numbers_decide a.endpoints b.endpoints)))))
  where
    by : (x : CountsValue) → CountsValue
    by x = counts_by_kind x.pages x.cappages x.gpts x.processes x.endpoints

    whole : (a.pages ≡ b.pages) × ((a.cappages ≡ b.cappages) × ((a.gpts ≡ b.gpts) × ((a.processes ≡ b.processes) × (a.endpoints ≡ b.endpoints)))) → by a ≡ by b
    whole e = rw (e.0, e.1.0, e.1.1.0, e.1.1.1.0, e.1.1.1.1) refl

    parts : a ≡ b → (a.pages ≡ b.pages) × ((a.cappages ≡ b.cappages) × ((a.gpts ≡ b.gpts) × ((a.processes ≡ b.processes) × (a.endpoints ≡ b.endpoints))))
    parts e = (ap (λ (x : CountsValue). x.pages) e, (ap (λ (x : CountsValue). x.cappages) e, (ap (λ (x : CountsValue). x.gpts) e, (ap (λ (x : CountsValue). x.processes) e, ap (λ (x : CountsValue). x.endpoints) e))))

contents_decide : (a b : Contents) → Decides (same_contents a b) (a ≡ b)
contents_decide a b =
    Decides-like (same_contents a b) whole parts
    (Decides-and (same_lists a.pages b.pages) (pointwise same_caps a.cappages b.cappages && (pointwise same_process a.processes b.processes && pointwise same_endpoint a.endpoints b.endpoints)) (lists_decide a.pages b.pages)
    (Decides-and (pointwise same_caps a.cappages b.cappages) (pointwise same_process a.processes b.processes && pointwise same_endpoint a.endpoints b.endpoints) (pointwise_decides caps_decide a.cappages b.cappages)
    (Decides-and (pointwise same_process a.processes b.processes) (pointwise same_endpoint a.endpoints b.endpoints) (pointwise_decides process_decides a.processes b.processes) (pointwise_decides endpoint_decides a.endpoints b.endpoints))))
  where
    by : (x : Contents) → Contents
    by x = record { pages = x.pages; cappages = x.cappages; processes = x.processes; endpoints = x.endpoints }

    whole : (a.pages ≡ b.pages) × ((a.cappages ≡ b.cappages) × ((a.processes ≡ b.processes) × (a.endpoints ≡ b.endpoints))) → by a ≡ by b
    whole e = rw (e.0, e.1.0, e.1.1.0, e.1.1.1) refl

    parts : a ≡ b → (a.pages ≡ b.pages) × ((a.cappages ≡ b.cappages) × ((a.processes ≡ b.processes) × (a.endpoints ≡ b.endpoints)))
    parts e = (ap (λ (x : Contents). x.pages) e, (ap (λ (x : Contents). x.cappages) e, (ap (λ (x : Contents). x.processes) e, ap (λ (x : Contents). x.endpoints) e)))

store_decides : (a b : Store) → Decides (same_store a b) (a ≡ b)
store_decides a b =
    Decides-like (same_store a b) whole parts
    (Decides-and (a.harts == b.harts) (same_counts a.items.counts b.items.counts && (pointwise same_gpt a.items.gpts b.items.gpts && same_contents a.contents b.contents)) (unsigned_Decides a.harts b.harts)
    (Decides-and (same_counts a.items.counts b.items.counts) (pointwise same_gpt a.items.gpts b.items.gpts && same_contents a.contents b.contents) (counts_decide a.items.counts b.items.counts)
    (Decides-and (pointwise same_gpt a.items.gpts b.items.gpts) (same_contents a.contents b.contents) (pointwise_decides gpt_decides a.items.gpts b.items.gpts) (contents_decide a.contents b.contents))))
  where
    by : (x : Store) → Store
    by x = record { harts = x.harts; items = record { counts = x.items.counts; gpts = x.items.gpts }; contents = x.contents }

    whole : (a.harts ≡ b.harts) × ((a.items.counts ≡ b.items.counts) × ((a.items.gpts ≡ b.items.gpts) × (a.contents ≡ b.contents))) → by a ≡ by b
    whole e = rw (e.0, e.1.0, e.1.1.0, e.1.1.1) refl

    parts : a ≡ b → (a.harts ≡ b.harts) × ((a.items.counts ≡ b.items.counts) × ((a.items.gpts ≡ b.items.gpts) × (a.contents ≡ b.contents)))
    parts e = (ap (λ (x : Store). x.harts) e, (ap (λ (x : Store). x.items.counts) e, (ap (λ (x : Store). x.items.gpts) e, ap (λ (x : Store). x.contents) e)))

on_decides : (a b : Option ℕ) → Decides (option_eq nat_eq a b) (a ≡ b)
on_decides None None = (λ e. refl, λ e. refl)
on_decides None (Some y) = (λ e. cc, λ e. cc)
on_decides (Some x) None = (λ e. cc, λ e. cc)
on_decides (Some x) (Some y) = Decides-like (nat_eq x y) (λ e. ap Some e) (λ e. cc) (unsigned_Decides x y)

pub harts_decide : (a b : List (Option ℕ)) → Decides (same_harts a b) (a ≡ b)
harts_decide a b = pointwise_decides on_decides a b

pub queues_decide : (a b : QueuesValue) → Decides (same_queues a b) (a ≡ b)
queues_decide a b =
    Decides-like (same_queues a b) whole parts
    (Decides-and (same_lists a.ready b.ready) (same_lists a.sleepers b.sleepers && same_harts a.harts b.harts) (lists_decide a.ready b.ready)
    (Decides-and (same_lists a.sleepers b.sleepers) (same_harts a.harts b.harts) (lists_decide a.sleepers b.sleepers) (harts_decide a.harts b.harts)))
  where
    by : (x : QueuesValue) → QueuesValue
    by x = record { ready = x.ready; sleepers = x.sleepers; harts = x.harts }

    whole : (a.ready ≡ b.ready) × ((a.sleepers ≡ b.sleepers) × (a.harts ≡ b.harts)) → by a ≡ by b
    whole e = rw (e.0, e.1.0, e.1.1) refl

    parts : a ≡ b → (a.ready ≡ b.ready) × ((a.sleepers ≡ b.sleepers) × (a.harts ≡ b.harts))
    parts e = (ap (λ (x : QueuesValue). x.ready) e, (ap (λ (x : QueuesValue). x.sleepers) e, ap (λ (x : QueuesValue). x.harts) e))

pub state_decides : (a b : State) → Decides (same_state a b) (a ≡ b)
state_decides a b =
    Decides-like (same_state a b) whole parts
    (Decides-and (same_store a.store b.store) (same_queues a.queues b.queues && beq a.halted b.halted) (store_decides a.store b.store)
    (Decides-and (same_queues a.queues b.queues) (beq a.halted b.halted) (queues_decide a.queues b.queues) (booleans_Decides a.halted b.halted)))
  where
    by : (x : State) → State
    by x = record { store = x.store; queues = x.queues; halted = x.halted }

    whole : (a.store ≡ b.store) × ((a.queues ≡ b.queues) × (a.halted ≡ b.halted)) → by a ≡ by b
    whole e = rw (e.0, e.1.0, e.1.1) refl

    parts : a ≡ b → (a.store ≡ b.store) × ((a.queues ≡ b.queues) × (a.halted ≡ b.halted))
    parts e = (ap (λ (x : State). x.store) e, (ap (λ (x : State). x.queues) e, ap (λ (x : State). x.halted) e))
