-- Events and runs: by induction on the events before.
use Rattle.std.proofs.Common.{◌≡◌, ◌≢◌, ℕ, ◌<◌, inl, Bool, true, false, if◌then◌else◌, List, [], ◌∷◌, length, get_or, Option, Some, None, refl, sym, ◌∙◌, ap, subst}
use Rattle.cap_format.specs.declared.kind.CapKind.{CapKind}
use Rattle.cap_format.specs.declared.kind.CapKind.TheVariants.{CapPage, Gpt, Endpoint, Process}
use Rattle.cap_format.specs.Capability.{Capability}
use Rattle.gpt_objects.specs.Gpt.{GptValue, slot_of as gpt_slot_of}
use Rattle.page_store.specs.CapPage.{cap_at}
use Rattle.process_objects.specs.Process.{ProcessValue, capreg_of, slot_of}
use Rattle.endpoint_objects.specs.declared.endpoint.Endpoint.{Endpoint as EndpointValue}
use Rattle.object_store.specs.Store.{Store, gpt_at, slot_at, cappage_at, process_at, endpoint_at}
use Rattle.operations.specs.System.{System}
use Rattle.machine_state.specs.declared.event.Event.{Event}
use Rattle.machine_state.specs.declared.event.Event.TheVariants.{Step, Tick}
use Rattle.machine_state.specs.Machine.{hart_in}
use Rattle.machine_state.specs.State.{State}
use Rattle.machine_state.specs.Setters.{dispatch}
use Rattle.machine_state.specs.Outcome.{done}
use Rattle.schedules.specs.Queues.{sleepers_of, hart_of}
use Rattle.kernel_core.specs.Event.{instruction, stepped, tick_of, performer_by, performer, event_by, event_of}
use Rattle.kernel_core.specs.Run.{run_state}
use Rattle.confinement.specs.declared.cut_side.CutSide.{CutSide}
use Rattle.confinement.specs.Cut.{Cut, side_of, same_side, MayHold, EachMayHold, AllOn, Holds, HoldsFor}
use Rattle.confinement.specs.Acts.{Spares, SparesSleepers, SparesPlaces, KeepsApart, Acts, system_of}
use Rattle.confinement.specs.Laws.{ReachLaw}
use Rattle.confinement.specs.Separation.{Kept, Separation}
use Rattle.confinement.proofs.Sides.{same_side-tells, same_side-not}
use Rattle.confinement.proofs.Placing.{dispatched-none, harts-dispatched}
use Rattle.confinement.proofs.Own.{own-sleep, none-beyond}
use Rattle.confinement.proofs.Plain.{plain_law}
use Rattle.confinement.proofs.Sleeping.{sleepers-dispatched, each_on, on_each}
use Rattle.confinement.proofs.Machine.{acts-next, acts-ticked, acts-dispatch}
use Rattle.confinement.proofs.Events.{leaves-instruction}

-- ---- where nobody performs an event

still-by : (s : State) (e : Event) → performer_by s e ≡ None → hart_in e < length s.queues.harts → (event_by s e).state.queues ≡ s.queues
unfolding event_by
still-by s (Step hart) none there = ap (λ (on : Option ℕ). (stepped (dispatch s hart) on).state.queues) none ∙ dispatched-none s.queues hart there none
still-by s (Tick hart) none there = ap (λ (on : Option ℕ). (tick_of s on).state.queues) none

-- all stand where they stood
pub event_still : (s : State) (e : Event) → performer s e ≡ None → hart_in e < length s.queues.harts → (event_of s e).state.queues ≡ s.queues
event_still s e = by s.halted
  where
    by : (b : Bool) → (if b then None else performer_by s e) ≡ None → hart_in e < length s.queues.harts → (if b then done s else event_by s e).state.queues ≡ s.queues
    by true none there = refl
    by false none there = still-by s e none there

-- objects and sleepers are the same, and there are as many harts
pub record Idles (s t : State) : Type 0 where
  pub store : t.store ≡ s.store
  pub sleepers : t.queues.sleepers ≡ s.queues.sleepers
  pub harts : length t.queues.harts ≡ length s.queues.harts

idle-by : (s : State) (e : Event) → performer_by s e ≡ None → Idles s (event_by s e).state
unfolding event_by
idle-by s (Step hart) none =
    subst (λ (on : Option ℕ). Idles s (stepped (dispatch s hart) on).state) (sym none) (record { store = refl; sleepers = sleepers-dispatched s.queues hart; harts = sym (harts-dispatched s.queues hart) })
idle-by s (Tick hart) none = subst (λ (on : Option ℕ). Idles s (tick_of s on).state) (sym none) (record { store = refl; sleepers = refl; harts = refl })

-- nothing happens to anybody
pub event-idle : (s : State) (e : Event) → performer s e ≡ None → Idles s (event_of s e).state
event-idle s e = by s.halted
  where
    by : (b : Bool) → (if b then None else performer_by s e) ≡ None → Idles s (if b then done s else event_by s e).state
    by true none = record { store = refl; sleepers = refl; harts = refl }
    by false none = idle-by s e none

-- ---- an event that a process of one side performs

pub unless-halted : (b : Bool) (by : Option ℕ) (p : ℕ) → (if b then None else by) ≡ Some p → (b ≡ false) × (by ≡ Some p)
unless-halted true by p e = absurd (cc (e))
unless-halted false by p e = (refl, e)

module _ (cut : Cut) (side : CutSide) (p : ℕ) (own : side_of cut Process p ≡ side) where
  acts-stepped : (s : State) (hart : ℕ) → hart_of (dispatch s hart).queues hart ≡ Some p → HoldsFor cut side (system_of s) → Acts cut side (system_of s) (system_of (instruction (dispatch s hart) p).state)
  acts-stepped s hart performs holds =
      acts-next cut side s (dispatch s hart) (instruction (dispatch s hart) p).state
      (acts-dispatch cut side s hart p own performs holds) (λ h. leaves-instruction cut side p own (dispatch s hart) h)

  acts-by : (s : State) (e : Event) → performer_by s e ≡ Some p → HoldsFor cut side (system_of s) → Acts cut side (system_of s) (system_of (event_by s e).state)
  unfolding event_by
  acts-by s (Step hart) performs holds =
      subst (λ (on : Option ℕ). Acts cut side (system_of s) (system_of (stepped (dispatch s hart) on).state)) (sym performs) (acts-stepped s hart performs holds)
  acts-by s (Tick hart) performs holds =
      subst (λ (on : Option ℕ). Acts cut side (system_of s) (system_of (tick_of s on).state)) (sym performs) (acts-ticked cut side p own s holds)

  -- it stays on its side, where the cut holds for that side
  pub event-acts : (s : State) (e : Event) → performer s e ≡ Some p → HoldsFor cut side (system_of s) → Acts cut side (system_of s) (system_of (event_of s e).state)
  event-acts s e performs holds =
      let is = unless-halted s.halted (performer_by s e) p performs in
      subst (λ (b : Bool). Acts cut side (system_of s) (system_of (if b then done s else event_by s e).state)) (sym is.0) (acts-by s e is.1 holds)

-- the law of how far a side reaches
pub reach_law : ReachLaw
reach_law cut side s e p own performs holds = event-acts cut side p own s e performs holds

-- ---- both sides

module _ (cut : Cut) where
  -- a cut that holds holds for each side
  pub holds-for : (side : CutSide) (w : System) → Holds cut w → HoldsFor cut side w
  holds-for side w holds = let each = holds.each in record {
    each = record {
      slots = λ g i own. subst (λ b. MayHold cut b (slot_at w.store.items g i)) own (each.slots g i);
      cappages = λ n i own. subst (λ b. MayHold cut b (cap_at (cappage_at w.store n) i)) own (each.cappages n i);
      capregs = λ p i own. subst (λ b. MayHold cut b (capreg_of (process_at w.store p) i)) own (each.capregs p i);
      process_slots = λ p i own. subst (λ b. MayHold cut b (slot_of (process_at w.store p) i)) own (each.process_slots p i);
      recipients = λ e own. subst (λ b. MayHold cut b (endpoint_at w.store e).recipient) own (each.recipients e);
    };
    sleepers = λ on p there. inl (on_each cut (side_of cut Process on) (sleepers_of w.queues on) (holds.sleepers on) p there);
    beyond = none-beyond cut holds.closed side w.store;
  }

  -- what may be held in an object: by this side as it is now, and by the other as it was
  each-after : {A : Type 0} (side : CutSide) (kind : CapKind) (n : ℕ) (cap : A → Capability) (x y : A) → (side_of cut kind n ≡ side → MayHold cut side (cap y))
      → (side_of cut kind n ≢ side → x ≡ y) → MayHold cut (side_of cut kind n) (cap x) → MayHold cut (side_of cut kind n) (cap y)
  each-after side kind n cap x y mine same old = on (same_side (side_of cut kind n) side) refl
    where
      on : (b : Bool) → same_side (side_of cut kind n) side ≡ b → MayHold cut (side_of cut kind n) (cap y)
      on true e = let own = same_side-tells _ _ e in subst (λ b. MayHold cut b (cap y)) (sym own) (mine own)
      on false e = subst (λ v. MayHold cut (side_of cut kind n) (cap v)) (same (same_side-not _ _ e)) old

  -- a cut that holds does so after what one side does
  pub holds-after : (side : CutSide) (w v : System) → Holds cut w → KeepsApart cut side w v → Holds cut v
  holds-after side w v holds acts =
      let each = holds.each in
      let now = acts.holds.each in
      record {
        each = record {
          slots = λ g i. each-after side Gpt g (λ (gpt : GptValue). gpt_slot_of gpt i) (gpt_at w.store.items g) (gpt_at v.store.items g)
              (now.slots g i) (λ other. let e = acts.spares Gpt g other in cc (e)) (each.slots g i);
          cappages = λ n i. each-after side CapPage n (λ (page : List Capability). cap_at page i) (cappage_at w.store n) (cappage_at v.store n)
              (now.cappages n i) (λ other. let e = acts.spares CapPage n other in cc (e)) (each.cappages n i);
          capregs = λ p i. each-after side Process p (λ (x : ProcessValue). capreg_of x i) (process_at w.store p) (process_at v.store p)
              (now.capregs p i) (λ other. let e = acts.spares Process p other in cc (e)) (each.capregs p i);
          process_slots = λ p i. each-after side Process p (λ (x : ProcessValue). slot_of x i) (process_at w.store p) (process_at v.store p)
              (now.process_slots p i) (λ other. let e = acts.spares Process p other in cc (e)) (each.process_slots p i);
          recipients = λ n. each-after side Endpoint n (λ (x : EndpointValue). x.recipient) (endpoint_at w.store n) (endpoint_at v.store n)
              (now.recipients n) (λ other. let e = acts.spares Endpoint n other in cc (e)) (each.recipients n);
        };
        sleepers = λ on. each_on cut (side_of cut Process on) (sleepers_of v.queues on) (λ p there. own-sleep cut holds.closed p on (acts.holds.sleepers on p there));
        closed = holds.closed;
      }

  holds-idle : (s t : State) → Holds cut (system_of s) → Idles s t → Holds cut (system_of t)
  holds-idle s t holds same = record {
    each = subst (λ (store : Store). EachMayHold cut store) (sym same.store) holds.each;
    sleepers = λ p. subst (λ (xs : List (List ℕ)). AllOn cut (side_of cut Process p) (get_or xs p [])) (sym same.sleepers) (holds.sleepers p);
    closed = holds.closed;
  }

  -- ---- each event

  -- what an event does that a process performs, or nobody
  abbrev pub Does : State → Option ℕ → State → Type 0
  Does s None t = Holds cut (system_of t) × Idles s t
  Does s (Some p) t = Holds cut (system_of t) × KeepsApart cut (side_of cut Process p) (system_of s) (system_of t)

  -- each event
  pub event_does : (s : State) (e : Event) → Holds cut (system_of s) → Does s (performer s e) (event_of s e).state
  event_does s e holds = on (performer s e) refl
    where
      on : (by : Option ℕ) → performer s e ≡ by → Does s by (event_of s e).state
      on None is = let same = event-idle s e is in (holds-idle s (event_of s e).state holds same, same)
      on (Some p) is =
          let side = side_of cut Process p in
          let before = holds-for side (system_of s) holds in
          let acts = plain_law cut side (system_of s) (system_of (event_of s e).state) holds.closed before (event-acts cut side p refl s e is before) in
          (holds-after side (system_of s) (system_of (event_of s e).state) holds acts, acts)

  kept : (s : State) (e : Event) (t : State) (by : Option ℕ) → performer s e ≡ by → Does s by t → (performer s e ≡ None → hart_in e < length s.queues.harts → t.queues ≡ s.queues)
      → Kept cut s e t
  kept s e t None is does still = record {
    holds = does.0;
    spares = λ p by. let no = sym is ∙ by in absurd (cc (no));
    sleepers = λ p by. let no = sym is ∙ by in absurd (cc (no));
    places = λ p by. let no = sym is ∙ by in absurd (cc (no));
    idle = λ by. let same = does.1 in (same.store, same.sleepers);
    still = still;
    harts = let same = does.1 in same.harts;
  }
  kept s e t (Some p) is does still = let acts = does.1 in record {
    holds = does.0;
    spares = λ q by. let same : p ≡ q = cc (is, by) in subst (λ (n : ℕ). Spares cut (side_of cut Process n) s.store t.store) same acts.spares;
    sleepers = λ q by. let same : p ≡ q = cc (is, by) in subst (λ (n : ℕ). SparesSleepers cut (side_of cut Process n) s.queues t.queues) same acts.sleepers;
    places = λ q by. let same : p ≡ q = cc (is, by) in subst (λ (n : ℕ). SparesPlaces cut (side_of cut Process n) s.queues t.queues) same acts.places;
    idle = λ by. let no = sym is ∙ by in absurd (cc (no));
    still = still;
    harts = let places = acts.places in sym places.size;
  }

  pub event_kept : (s : State) (e : Event) → Holds cut (system_of s) → Kept cut s e (event_of s e).state
  event_kept s e holds = kept s e (event_of s e).state (performer s e) refl (event_does s e holds) (event_still s e)

  -- the cut holds after each event
  pub holds-event : (s : State) (e : Event) → Holds cut (system_of s) → Holds cut (system_of (event_of s e).state)
  holds-event s e holds = let kept = event_kept s e holds in kept.holds

  -- the cut holds after each run
  pub holds-run : (s : State) (es : List Event) → Holds cut (system_of s) → Holds cut (system_of (run_state s es))
  unfolding run_state
  holds-run s [] holds = holds
  holds-run s (e ∷ es) holds = holds-run (event_of s e).state es (holds-event s e holds)

-- the theorem
pub separation : Separation
separation cut s holds before e = event_kept cut (run_state s before) e (holds-run cut s before holds)
