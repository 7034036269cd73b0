-- Runs, by one event more.
use Rattle.std.proofs.Common.{◌≡◌, ◌<◌, ◌≤◌, ◌+◌, ◌∙◌, ◌∷◌, ◌++◌, [], ℕ, zero, suc, List, length, get_or, replicate, take, drop, refl, sym, ap, subst, append-nil, arith}
use Rattle.std.proofs.Math.Seq.{take-add}
use Rattle.std.proofs.lemmas.List.{drop-drop, drop_more, length-drop, replicate_more, take_more}
use Rattle.std.proofs.lemmas.List.Elements.{filter-append}
use Rattle.cap_format.specs.Capability.{Capability}
use Rattle.cap_format.specs.declared.item.Item.{Item}
use Rattle.object_store.specs.declared.sizes.Sizes.{Sizes}
use Rattle.object_store.specs.Store.{Items, sizes_of}
use Rattle.walk_meaning.specs.declared.kind.Kind.{Kind}
use Rattle.machine_state.specs.declared.event.Event.{Event}
use Rattle.machine_state.specs.declared.event.Event.TheVariants.{Step}
use Rattle.machine_state.specs.declared.record.Record.{Record}
use Rattle.machine_state.specs.Machine.{MachineValue}
use Rattle.machine_state.specs.Outcome.{spent, kept_after}
use Rattle.machine_state.specs.State.{State, state_of}
use Rattle.kernel_core.specs.Event.{event_of}
use Rattle.kernel_core.specs.Run.{run_state, run_records, run_touches}
use Rattle.kernel_core.proofs.Ran.{run_state-nil, run_state-cons, run_state-append, run_records-nil, run_records-cons, run_records-append, run_touches-nil, run_touches-cons, run_touches-append, spent-append, kept_after-append}
use Rattle.machine_state.specs.Noted.{untraced}
use Rattle.untraced_steps.specs.HartSteps.{OfHarts}
use Rattle.untraced_steps.specs.KeptSteps.{CameKept, IsAlike, IsLeft}
use Rattle.untraced_steps.specs.Untraced.{CameUntraced, RanUntraced}

-- ---- the next of some events

at-next : (all : List Event) (done : ℕ) (e : Event) (rest : List Event) → done < length all → drop done all ≡ e ∷ rest → get_or all done e ∷ drop (done + 1) all ≡ e ∷ rest
at-next all done e rest within is = sym (drop_more all done e within) ∙ is

pub take-next : (all : List Event) (done : ℕ) (e : Event) (rest : List Event) → done < length all → drop done all ≡ e ∷ rest → take (done + 1) all ≡ take done all ++ e ∷ []
take-next all done e rest within is =
    let next = at-next all done e rest within is in
    let here : get_or all done e ≡ e = cc in
    take_more all done e within ∙ ap (λ x. take done all ++ x ∷ []) here

pub drop-next : (all : List Event) (done : ℕ) (e : Event) (rest : List Event) → done < length all → drop done all ≡ e ∷ rest → drop (done + 1) all ≡ rest
drop-next all done e rest within is = let next = at-next all done e rest within is in cc

-- how many are left behind some of the events that were left
pub left-behind : (more : ℕ) (e f : Event) (left left1 : List Event) → more ≤ length left → e ∷ left1 ≡ drop more (f ∷ left) → more + length left1 ≡ length left
left-behind more e f left left1 most behind =
    let size = ap length behind ∙ length-drop more (f ∷ left) in
    omega (arith, size, most)

-- those that are left are of harts that are there
pub harts-behind : (harts more : ℕ) (events : List Event) → OfHarts harts events → OfHarts harts (drop more events)
harts-behind harts zero events there = there
harts-behind harts (suc more) [] there = there
harts-behind harts (suc more) (event ∷ events) there = harts-behind harts more events there.1

-- a step that is kept leaves as many objects
sizes-alike : (p : ℕ) (s n : State) → IsAlike p s n → sizes_of n.store ≡ sizes_of s.store
sizes-alike p s n alike = ap (λ harts. by harts n.store.items) alike.harts ∙ ap (by s.store.harts) alike.items
  where
    by : ℕ → Items → Sizes
    by harts o = record {
      harts = harts;
      pages = length o.counts.pages;
      cappages = length o.counts.cappages;
      gpts = length o.counts.gpts;
      processes = length o.counts.processes;
      endpoints = length o.counts.endpoints;
    }

-- ---- an event behind others

state-behind : (s : State) (events : List Event) (e : Event) → run_state s (events ++ e ∷ []) ≡ (event_of (run_state s events) e).state
state-behind s events e =
    let t = run_state s events in
    run_state-append s events (e ∷ []) ∙ (run_state-cons t e [] ∙ run_state-nil (event_of t e).state)

records-behind : (s : State) (events : List Event) (e : Event) → run_records s (events ++ e ∷ []) ≡ run_records s events ++ (event_of (run_state s events) e).records
records-behind s events e =
    let t = run_state s events in
    let o = event_of t e in
    run_records-append s events (e ∷ [])
    ∙ ap (λ more. run_records s events ++ more) (run_records-cons t e [] ∙ (ap (λ more. o.records ++ more) (run_records-nil o.state) ∙ append-nil o.records))

pub touches-behind : (s : State) (events : List Event) (e : Event) → run_touches s (events ++ e ∷ []) ≡ run_touches s events ++ (event_of (run_state s events) e).touches
touches-behind s events e =
    let t = run_state s events in
    let o = event_of t e in
    run_touches-append s events (e ∷ [])
    ∙ ap (λ more. run_touches s events ++ more) (run_touches-cons t e [] ∙ (ap (λ more. o.touches ++ more) (run_touches-nil o.state) ∙ append-nil o.touches))

module _ {T K : Type 0} (kept : T → K) (cost : K → Items → Capability → ℕ → Kind → ℕ) (after : K → Items → Capability → ℕ → Kind → K) (without : K → Item → K) where
  -- no event
  pub ran-none : (m : MachineValue T) (fetches : ℕ) → RanUntraced kept cost after without [] m fetches m [] fetches
  ran-none m fetches =
      let none = ap (spent cost after without (kept m.translator)) (run_touches-nil (state_of m)) in
      record {
        state = sym (run_state-nil (state_of m));
        records = ap untraced (sym (run_records-nil (state_of m)));
        counted = omega (arith, none);
        keeps = ap (kept_after cost after without (kept m.translator)) (sym (run_touches-nil (state_of m)));
        harts = refl;
        sizes = refl;
      }

  -- one event more, behind some that told nothing
  ran-more : (events : List Event) (e : Event) (m : MachineValue T) (fetches0 : ℕ) (n : MachineValue T) (fetches : ℕ) (n1 : MachineValue T) (told : List Record) (fetches1 : ℕ)
      → RanUntraced kept cost after without events m fetches0 n [] fetches → CameUntraced kept cost after without (event_of (state_of n) e) n fetches n1 told fetches1
      → RanUntraced kept cost after without (events ++ e ∷ []) m fetches0 n1 told fetches1
  ran-more events e m fetches0 n fetches n1 told fetches1 r c =
      let s : State = state_of m in
      let k : K = kept m.translator in
      let o = event_of (run_state s events) e in
      let same : event_of (state_of n) e ≡ o = ap (λ t. event_of t e) r.state in
      let touches = touches-behind s events e in
      let sum = ap (spent cost after without k) touches ∙ spent-append cost after without k (run_touches s events) o.touches in
      let first = r.counted in
      let more = c.counted ∙ ap (λ j. fetches + spent cost after without j (event_of (state_of n) e).touches) r.keeps
      ∙ ap (λ (x : _). fetches + spent cost after without (kept_after cost after without k (run_touches s events)) x.touches) same in
      record {
        state = c.state ∙ (ap (λ x. x.state) same ∙ sym (state-behind s events e));
        records =
            c.records ∙ ap (λ x. untraced x.records) same
            ∙ sym (ap untraced (records-behind s events e) ∙ filter-append _ (run_records s events) o.records ∙ ap (λ before. before ++ untraced o.records) (sym r.records));
        counted = omega (arith, sum, first, more);
        keeps =
            c.keeps ∙ ap (λ j. kept_after cost after without j (event_of (state_of n) e).touches) r.keeps
            ∙ ap (λ x. kept_after cost after without (kept_after cost after without k (run_touches s events)) x.touches) same
            ∙ sym (kept_after-append cost after without k (run_touches s events) o.touches)
            ∙ ap (kept_after cost after without k) (sym touches);
        harts = c.harts ∙ r.harts;
        sizes = c.sizes ∙ r.sizes;
      }

  -- the next of some events
  pub ran-next : (all : List Event) (done : ℕ) (e : Event) (rest : List Event) (m : MachineValue T) (fetches0 : ℕ) (n : MachineValue T) (fetches : ℕ) (n1 : MachineValue T) (told : List Record) (fetches1 : ℕ)
      → done < length all → drop done all ≡ e ∷ rest
      → RanUntraced kept cost after without (take done all) m fetches0 n [] fetches → CameUntraced kept cost after without (event_of (state_of n) e) n fetches n1 told fetches1
      → RanUntraced kept cost after without (take (done + 1) all) m fetches0 n1 told fetches1
  ran-next all done e rest m fetches0 n fetches n1 told fetches1 within is r c =
      subst (λ events. RanUntraced kept cost after without events m fetches0 n1 told fetches1) (sym (take-next all done e rest within is))
      (ran-more (take done all) e m fetches0 n fetches n1 told fetches1 r c)

  -- a step more whose accesses are all kept
  pub ran-kept : (hart p done fetches : ℕ) (m n n1 : MachineValue T)
      → RanUntraced kept cost after without (replicate done (Step hart)) m fetches n [] fetches → CameKept kept cost after without p (event_of (state_of n) (Step hart)) n n1
      → RanUntraced kept cost after without (replicate (done + 1) (Step hart)) m fetches n1 [] fetches
  ran-kept hart p done fetches m n n1 r c =
      let free = c.free in
      subst (λ events. RanUntraced kept cost after without events m fetches n1 [] fetches) (replicate_more done (Step hart))
      (ran-more (replicate done (Step hart)) (Step hart) m fetches n fetches n1 [] fetches r (record {
        state = c.state;
        records = sym c.records;
        counted = omega (arith, free);
        keeps = c.keeps ∙ sym c.stays;
        harts = c.alike.harts;
        sizes = sizes-alike p (state_of n) (state_of n1) c.alike;
      }))

  -- a machine of which nothing else can be told
  pub ran-left : (events : List Event) (fetches0 fetches : ℕ) (m n n1 : MachineValue T) (told : List Record)
      → RanUntraced kept cost after without events m fetches0 n told fetches → IsLeft kept cost after without n n1
      → RanUntraced kept cost after without events m fetches0 n1 told fetches
  ran-left events fetches0 fetches m n n1 told r left = record {
    state = left.state ∙ r.state;
    records = r.records;
    counted = r.counted;
    keeps = left.keeps ∙ r.keeps;
    harts = ap (λ (s : State). s.store.harts) left.state ∙ r.harts;
    sizes = ap (λ (s : State). sizes_of s.store) left.state ∙ r.sizes;
  }

  -- events behind some that told nothing
  ran-both : (events more : List Event) (m n n1 : MachineValue T) (fetches0 fetches fetches1 : ℕ) (told : List Record)
      → RanUntraced kept cost after without events m fetches0 n [] fetches → RanUntraced kept cost after without more n fetches n1 told fetches1
      → RanUntraced kept cost after without (events ++ more) m fetches0 n1 told fetches1
  ran-both events more m n n1 fetches0 fetches fetches1 told r c =
      let s : State = state_of m in
      let k : K = kept m.translator in
      let t : State = run_state s events in
      let touches = run_touches-append s events more in
      let sum = ap (spent cost after without k) touches ∙ spent-append cost after without k (run_touches s events) (run_touches t more) in
      let first = r.counted in
      let second = c.counted ∙ ap (λ j. fetches + spent cost after without j (run_touches (state_of n) more)) r.keeps
      ∙ ap (λ u. fetches + spent cost after without (kept_after cost after without k (run_touches s events)) (run_touches u more)) r.state in
      record {
        state = c.state ∙ (ap (λ u. run_state u more) r.state ∙ sym (run_state-append s events more));
        records =
            c.records ∙ ap (λ u. untraced (run_records u more)) r.state
            ∙ sym (ap untraced (run_records-append s events more) ∙ filter-append _ (run_records s events) (run_records t more) ∙ ap (λ before. before ++ untraced (run_records t more)) (sym r.records));
        counted = omega (arith, sum, first, second);
        keeps =
            c.keeps ∙ ap (λ j. kept_after cost after without j (run_touches (state_of n) more)) r.keeps
            ∙ ap (λ u. kept_after cost after without (kept_after cost after without k (run_touches s events)) (run_touches u more)) r.state
            ∙ sym (kept_after-append cost after without k (run_touches s events) (run_touches t more))
            ∙ ap (kept_after cost after without k) (sym touches);
        harts = c.harts ∙ r.harts;
        sizes = c.sizes ∙ r.sizes;
      }

  -- where a run stands before its next event, of which nothing was told so far
  pub record IsAt (all : List Event) (done next : ℕ) (left : List Event) (m : MachineValue T) (fetches0 : ℕ) (n : MachineValue T) (fetches : ℕ) : Type 0 where
    pub ran : RanUntraced kept cost after without (take done all) m fetches0 n [] fetches
    pub rest : drop done all ≡ Step next ∷ left

  -- behind some of the events that are left
  pub ran-ahead : (all : List Event) (done more next : ℕ) (left left1 : List Event) (m n n1 : MachineValue T) (fetches0 fetches : ℕ)
      → RanUntraced kept cost after without (take done all) m fetches0 n [] fetches → drop done all ≡ Step next ∷ left
      → RanUntraced kept cost after without (take more (Step next ∷ left)) n fetches n1 [] fetches → Step next ∷ left1 ≡ drop more (Step next ∷ left)
      → IsAt all (done + more) next left1 m fetches0 n1 fetches
  ran-ahead all done more next left left1 m n n1 fetches0 fetches r rest c behind = record {
    ran =
        subst (λ events. RanUntraced kept cost after without events m fetches0 n1 [] fetches) (sym (take-add done more all))
        (ran-both (take done all) (take more (drop done all)) m n n1 fetches0 fetches fetches [] r
        (subst (λ events. RanUntraced kept cost after without (take more events) n fetches n1 [] fetches) (sym rest) c));
    rest = sym (drop-drop more done all) ∙ (ap (drop more) rest ∙ sym behind);
  }

  -- the same from a machine of which nothing else could be told
  pub ran-from : (events : List Event) (fetches0 fetches : ℕ) (m n n1 : MachineValue T) (told : List Record)
      → IsLeft kept cost after without m n → RanUntraced kept cost after without events n fetches0 n1 told fetches
      → RanUntraced kept cost after without events m fetches0 n1 told fetches
  ran-from events fetches0 fetches m n n1 told left r =
      ran-both [] events m n n1 fetches0 fetches0 fetches told (ran-left [] fetches0 fetches0 m m n [] (ran-none m fetches0) left) r
