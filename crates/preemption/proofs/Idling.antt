-- Harts that are idle, and of which no event is, change nothing.
use Rattle.std.proofs.Common.{◌≡◌, ℕ, zero, suc, ◌<◌, Bool, true, false, if◌then◌else◌, List, [], ◌∷◌, ◌++◌, get_or, set, map, replicate, length, Option, Some, None, refl, sym, ap, ap₂, ◌∙◌, subst, arith}
use Rattle.std.proofs.lemmas.List.{map-append, length-map, length-set}
use Rattle.std.proofs.lemmas.List.Elements.{All-tail}
use Rattle.object_store.proofs.Lists.{map-replicate}
use Rattle.schedules.specs.Queues.{QueuesValue, priorities, ready_queue, hart_of, first_of, rest_of, without, hart_without, enqueued, asleep, left, highest_below, taken_from, dispatched_by, dispatched}
use Rattle.schedules.specs.Ready.{unslept}
use Rattle.machine_state.specs.declared.event.Event.{Event}
use Rattle.machine_state.specs.declared.event.Event.TheVariants.{Step, Tick}
use Rattle.machine_state.specs.declared.record.Record.{Record}
use Rattle.machine_state.specs.Machine.{hart_in}
use Rattle.machine_state.specs.State.{State}
use Rattle.machine_state.specs.Setters.{set_queues, dispatch}
use Rattle.machine_state.specs.Outcome.{Outcome, done}
use Rattle.kernel_core.specs.Event.{stepped, tick_of, event_by, event_of}
use Rattle.kernel_core.specs.Run.{run_state, run_records}
use Rattle.machine_state.specs.Home.{widened}
use Rattle.preemption.specs.Begun.{idle_added, with_idle}
use Rattle.preemption.specs.Laws.{AreOf, MoreLaw}
use Rattle.preemption.proofs.Systems.{AreKept}
use Rattle.preemption.proofs.States.{Beside, Alike, done-alike, ticked-beside}
use Rattle.preemption.proofs.Instructions.{instruction-alike}

-- ---- lists with others behind them

get-front : {A : Type 0} (xs ys : List A) (i : ℕ) (d : A) → i < length xs
    → get_or (xs ++ ys) i d ≡ get_or xs i d
get-front [] ys i d there = absurd (omega (arith, there))
get-front (x ∷ xs) ys zero d there = refl
get-front (x ∷ xs) ys (suc i) d there = get-front xs ys i d (omega (arith, there))

set-front : {A : Type 0} (xs ys : List A) (i : ℕ) (x : A) → i < length xs
    → set (xs ++ ys) i x ≡ set xs i x ++ ys
set-front [] ys i x there = absurd (omega (arith, there))
set-front (y ∷ xs) ys zero x there = refl
set-front (y ∷ xs) ys (suc i) x there =
    ap (λ zs. y ∷ zs) (set-front xs ys i x (omega (arith, there)))

-- ---- queues

-- queues with so many harts, and the same with more that are idle
pub record IdleAdded (few more : ℕ) (q r : QueuesValue) : Type 0 where
  pub size : length q.harts ≡ few
  pub same : r ≡ idle_added more q

module _ (few more : ℕ) where
  idle-left : (q : QueuesValue) (p : ℕ) → left (idle_added more q) p ≡ idle_added more (left q p)
  idle-left q p =
      ap (λ (harts : List (Option ℕ)). record {
        ready = map (without p) q.ready;
        sleepers = map (without p) q.sleepers;
        harts = harts;
      })
      (map-append (hart_without p) q.harts (replicate more None)
      ∙ ap (λ (idle : List (Option ℕ)). map (hart_without p) q.harts ++ idle)
      (map-replicate (hart_without p) more None))

  pub idle-kept : AreKept (IdleAdded few more)
  idle-kept = record {
    same_sleepers = λ q r added. ap (λ (u : QueuesValue). u.sleepers) (sym added.same);
    when_ready = λ q r priority p added. record {
      size = added.size;
      same = ap (λ u. enqueued u priority p) added.same;
    };
    when_asleep = λ q r p on added. record {
      size = added.size;
      same = ap (λ u. asleep u p on) added.same;
    };
    when_left = λ q r p added. record {
      size = length-map q.harts (hart_without p) ∙ added.size;
      same = ap (λ u. left u p) added.same ∙ idle-left q p;
    };
    when_woken = λ q r on added. record {
      size = added.size;
      same = ap (λ u. unslept u on) added.same;
    };
  }

  -- a hart that isn't one of those takes the same
  module _ (q : QueuesValue) (hart : ℕ) (there : hart < length q.harts) where
    pub hart-added : hart_of (idle_added more q) hart ≡ hart_of q hart
    hart-added = get-front q.harts (replicate more None) hart None there

    taken-added : (next : Option ℕ)
        → taken_from (idle_added more q) hart next ≡ idle_added more (taken_from q hart next)
    taken-added None = refl
    taken-added (Some k) =
        ap (λ (harts : List (Option ℕ)). record {
          ready =
              set q.ready k (rest_of (ready_queue q k));
          sleepers = q.sleepers;
          harts = harts;
        })
        (set-front q.harts (replicate more None) hart (first_of (ready_queue q k)) there)

    by-added : (on : Option ℕ) → dispatched_by (idle_added more q) hart on ≡ idle_added more
        (dispatched_by q hart on)
    by-added None = taken-added (highest_below q.ready priorities)
    by-added (Some p) = refl

    pub dispatched-added : dispatched (idle_added more q) hart ≡ idle_added more
        (dispatched q hart)
    dispatched-added = ap (dispatched_by (idle_added more q) hart) hart-added
        ∙ by-added (hart_of q hart)

    taken-size : (next : Option ℕ) → length (taken_from q hart next).harts ≡ length q.harts
    taken-size None = refl
    taken-size (Some k) = length-set q.harts hart (first_of (ready_queue q k))

    by-size : (on : Option ℕ) → length (dispatched_by q hart on).harts ≡ length q.harts
    by-size None = taken-size (highest_below q.ready priorities)
    by-size (Some p) = refl

    pub dispatched-size : length (dispatched q hart).harts ≡ length q.harts
    dispatched-size = by-size (hart_of q hart)

  -- ---- events

  module _ (many : ℕ) where
    abbrev Two : State → State → Type 0
    Two s w = Beside many (IdleAdded few more) idle-kept s w

    abbrev Same : Outcome → Outcome → Type 0
    Same o u = Alike many (IdleAdded few more) idle-kept o u

    module _ (s w : State) (b : Two s w) where
      inside : (hart : ℕ) → hart < few → hart < length s.queues.harts
      inside hart there = let added = b.queues in omega (arith, there, added.size)

      added-on : (hart : ℕ) → hart < few → hart_of w.queues hart ≡ hart_of s.queues hart
      added-on hart there = let added = b.queues in ap (λ q. hart_of q hart) added.same
          ∙ hart-added s.queues hart (inside hart there)

      dispatch-two : (hart : ℕ) → hart < few → Two (dispatch s hart) (dispatch w hart)
      dispatch-two hart there =
          let added = b.queues in
          record {
            same = ap (λ u. set_queues u (dispatched w.queues hart)) b.same;
            queues = record {
              size = dispatched-size s.queues hart (inside hart there) ∙ added.size;
              same = ap (λ q. dispatched q hart) added.same
                  ∙ dispatched-added s.queues hart (inside hart there);
            };
          }

      stepped-same : (x y : State) → Two x y → (on : Option ℕ) → Same (stepped x on) (stepped y on)
      stepped-same x y two None = done-alike many (IdleAdded few more) idle-kept x y two
      stepped-same x y two (Some p) =
          instruction-alike many (IdleAdded few more) idle-kept p x y two

      tick-same : (on : Option ℕ) → Same (tick_of s on) (tick_of w on)
      tick-same None = record { records = refl; state = b }
      tick-same (Some p) = record {
        records = refl;
        state = ticked-beside many (IdleAdded few more) idle-kept p s w b;
      }

      by-same : (e : Event) → hart_in e < few → Same (event_by s e) (event_by w e)
      unfolding event_by
      by-same (Step hart) there =
          let two = dispatch-two hart there in
          let on : hart_of (dispatch s hart).queues hart ≡ hart_of (dispatch w hart).queues hart =
          (let added = two.queues in sym
          (ap (λ q. hart_of q hart) added.same
          ∙ hart-added (dispatch s hart).queues hart (omega (arith, there, added.size)))) in
          subst (λ on. Same (stepped (dispatch s hart) (hart_of (dispatch s hart).queues hart))
          (stepped (dispatch w hart) on)) on
          (stepped-same (dispatch s hart) (dispatch w hart) two
          (hart_of (dispatch s hart).queues hart))
      by-same (Tick hart) there =
          subst (λ on. Same (tick_of s (hart_of s.queues hart)) (tick_of w on))
          (sym (added-on hart there)) (tick-same (hart_of s.queues hart))

      pub event-same : (e : Event) → hart_in e < few → Same (event_of s e) (event_of w e)
      event-same e there = by s.halted w.halted (ap (λ (u : State). u.halted) b.same)
        where
          by : (halted other : Bool) → other ≡ halted
              → Same (if halted then done s else event_by s e)
              (if other then done w else event_by w e)
          by true other same = subst
              (λ other. Same (done s) (if other then done w else event_by w e)) (sym same)
              (done-alike many (IdleAdded few more) idle-kept s w b)
          by false other same = subst
              (λ other. Same (event_by s e) (if other then done w else event_by w e)) (sym same)
              (by-same e there)

    -- ---- runs

    record RunSame (s w : State) (es : List Event) : Type 0 where
      records : run_records w es ≡ run_records s es
      state : Two (run_state s es) (run_state w es)

    run-same : (s w : State) (es : List Event) → Two s w → AreOf few es → RunSame s w es
    unfolding run_state run_records
    run-same s w [] b there = record { records = refl; state = b }
    run-same s w (e ∷ es) b there =
        let one = event-same s w b e (there 0 e (omega arith)) in
        let rest = run-same (event_of s e).state (event_of w e).state es one.state
        (All-tail (λ (f : Event). hart_in f < few) e es there) in
        record {
          records = ap₂ (λ (told more : List Record). told ++ more)
              one.records rest.records;
          state = rest.state;
        }

pub more : MoreLaw
more many added s es there =
    let few = length s.queues.harts in
    let same = run-same few added many s (with_idle many added s) es
    (record { same = refl; queues = record { size = refl; same = refl } }) there in
    let end = same.state in
    let queues = end.queues in
    record {
      state = end.same ∙ ap (widened many (run_state s es)) queues.same;
      records = same.records;
    }
