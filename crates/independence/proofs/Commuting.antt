-- Quiet steps and events of others in either order.
use Rattle.std.proofs.Common.{◌≡◌, ◌≢◌, ℕ, Bool, false, if◌then◌else◌, List, [], ◌∷◌, get_or, inl, inr, Option, Some, None, refl, sym, ◌∙◌, ap, subst}
use Rattle.std.proofs.lemmas.List.{get_or-set_other}
use Rattle.cap_format.specs.declared.kind.CapKind.{CapKind}
use Rattle.cap_format.specs.declared.kind.CapKind.TheVariants.{Process}
use Rattle.cap_format.specs.Capability.{Capability, null}
use Rattle.process_objects.specs.declared.state.State.TheVariants.{Running}
use Rattle.process_objects.specs.Process.{ProcessValue, capreg_of, slot_of, empty_process}
use Rattle.object_store.specs.Store.{Items, slot_at}
use Rattle.object_store.proofs.Lists.{get_or-set}
use Rattle.page_store.specs.CapPage.{cap_at, empty_cappage}
use Rattle.endpoint_objects.specs.declared.endpoint.Endpoint.{Endpoint as EndpointValue}
use Rattle.endpoint_objects.specs.Endpoint.{empty_endpoint}
use Rattle.schedules.specs.Queues.{QueuesValue, priorities, ready_queue, hart_of, first_of, highest_below, taken_from, dispatched_by, dispatched}
use Rattle.machine_state.specs.declared.event.Event.{Event}
use Rattle.machine_state.specs.declared.event.Event.TheVariants.{Step, Tick}
use Rattle.machine_state.specs.State.{State}
use Rattle.kernel_core.specs.Event.{performer_by, performer, event_of}
use Rattle.confinement.specs.declared.cut_side.CutSide.{CutSide}
use Rattle.confinement.specs.declared.cut_side.CutSide.TheVariants.{Left, Right}
use Rattle.confinement.specs.Cut.{Cut, side_of, MayHold, AllOn}
use Rattle.confinement.proofs.Sleeping.{each_set}
use Rattle.independence.specs.Seclusion.{OnHarts, Secluded}
use Rattle.independence.specs.Rewrite.{Rewrite, ProcessIs, PageIs, IsPrivate, ArePrivate, rewritten, rewritten_all, SameButData, DifferOnLeft}
use Rattle.independence.specs.Settled.{SparesPage, IsSettled, AreSettled}
use Rattle.independence.specs.Quiet.{IsQuietBy}
use Rattle.independence.specs.Laws.{IsOfOthers, IndependenceLaw, HartsApart}
use Rattle.independence.proofs.Shape.{shape-sym}
use Rattle.independence.proofs.Runs.{left_law, blind_law, keeps-harts}
use Rattle.independence.proofs.Settling.{settled_law}
use Rattle.independence.proofs.Quieting.{quiet_law}

module _ (cut : Cut) where
  -- ---- what is kept where data alone change

  -- what is on the left stays theirs alone
  secluded-shape : (s t : State) → SameButData s t → Secluded cut s → Secluded cut t
  secluded-shape s t same secluded = let apart = secluded.apart in record {
    apart = record {
      strictly = apart.strictly;
      closed = apart.closed;
      slots = λ g i right. subst (λ (o : Items). MayHold cut Right (slot_at o g i)) same.items (apart.slots g i right);
      cappages = λ n i. subst (λ (xs : List (List Capability)). MayHold cut Right (cap_at (get_or xs n empty_cappage) i)) same.cappages (apart.cappages n i);
      capregs = λ p i right. let one = same.processes p in subst (λ (cs : List Capability). MayHold cut Right (get_or cs i null)) one.capregs (apart.capregs p i right);
      process_slots = λ p i right. let one = same.processes p in subst (λ (cs : List Capability). MayHold cut Right (get_or cs i null)) one.slots (apart.process_slots p i right);
    };
    running = λ p left. let one = same.processes p in sym one.state ∙ secluded.running p left;
    harts = subst (OnHarts cut) same.queues secluded.harts;
  }

  -- ---- what is kept where something is rewritten

  not-left : (kind : CapKind) (p q : ℕ) → side_of cut kind p ≡ Left → side_of cut kind q ≡ Right → q ≢ p
  not-left kind p q left right same = let e : Left ≡ Right = sym left ∙ (ap (λ (n : ℕ). side_of cut kind n) (sym same) ∙ right) in cc (e)

  secluded-rewritten : (s : State) (rewrite : Rewrite) → IsPrivate cut rewrite → Secluded cut s → Secluded cut (rewritten s rewrite)
  secluded-rewritten s (PageIs n page) own secluded = let apart = secluded.apart in record {
    apart = record { strictly = apart.strictly; closed = apart.closed; slots = apart.slots; cappages = apart.cappages; capregs = apart.capregs; process_slots = apart.process_slots };
    running = secluded.running;
    harts = secluded.harts;
  }
  secluded-rewritten s (ProcessIs p value) own secluded = let apart = secluded.apart in record {
    apart = record {
      strictly = apart.strictly;
      closed = apart.closed;
      slots = apart.slots;
      cappages = apart.cappages;
      capregs = λ q i right. subst (λ (x : ProcessValue). MayHold cut Right (capreg_of x i)) (sym (get_or-set_other s.store.contents.processes p q value empty_process (not-left Process p q own.0 right))) (apart.capregs q i right);
      process_slots = λ q i right. subst (λ (x : ProcessValue). MayHold cut Right (slot_of x i)) (sym (get_or-set_other s.store.contents.processes p q value empty_process (not-left Process p q own.0 right))) (apart.process_slots q i right);
    };
    running = each_set (λ (n : ℕ) (x : ProcessValue). side_of cut Process n ≡ Left → x.state ≡ Running) s.store.contents.processes p value empty_process (λ left. own.1) (λ n. secluded.running n);
    harts = secluded.harts;
  }

  others-rewritten : (s : State) (e : Event) (rewrite : Rewrite) → performer (rewritten s rewrite) e ≡ performer s e
  others-rewritten s (Step hart) (ProcessIs p value) = refl
  others-rewritten s (Step hart) (PageIs n page) = refl
  others-rewritten s (Tick hart) (ProcessIs p value) = refl
  others-rewritten s (Tick hart) (PageIs n page) = refl

  performer-rewritten : (s : State) (e : Event) (rewrites : List Rewrite) → performer (rewritten_all s rewrites) e ≡ performer s e
  performer-rewritten s e [] = refl
  performer-rewritten s e (rewrite ∷ rewrites) = performer-rewritten (rewritten s rewrite) e rewrites ∙ others-rewritten s e rewrite

  -- an event of others does the same whatever is rewritten
  record Blind (s : State) (e : Event) (rewrites : List Rewrite) : Type 0 where
    records : (event_of (rewritten_all s rewrites) e).records ≡ (event_of s e).records
    state : (event_of (rewritten_all s rewrites) e).state ≡ rewritten_all (event_of s e).state rewrites

  blind-all : (s : State) (e : Event) (rewrites : List Rewrite) → ArePrivate cut rewrites → Secluded cut s → IsOfOthers cut s e → Blind s e rewrites
  blind-all s e [] own secluded others = record { records = refl; state = refl }
  blind-all s e (rewrite ∷ rewrites) own secluded others =
      let one = blind_law cut s e rewrite secluded others own.0 in
      let rest = blind-all (rewritten s rewrite) e rewrites own.1 (secluded-rewritten s rewrite own.0 secluded) (λ p by. others p (sym (others-rewritten s e rewrite) ∙ by)) in
      record {
        records = rest.records ∙ one.records;
        state = rest.state ∙ ap (λ (t : State). rewritten_all t rewrites) one.state;
      }

-- ---- a quiet step and an event of others

-- either may come first
pub independence_law : IndependenceLaw
independence_law cut settled p s hart e quiet others =
    let does = quiet_law cut settled p s hart quiet in
    let still = settled_law settled s e quiet.still in
    let doing = does.does in
    let t = (event_of s e).state in
    let left = left_law cut s e quiet.secluded others in
    let blind = blind-all cut s e does.rewrites does.own quiet.secluded others in
    let on = keeps-harts cut s e quiet.secluded others hart p quiet.own quiet.on in
    let behind : (event_of (event_of s (Step hart)).state e).state ≡ rewritten_all t does.rewrites = ap (λ (u : State). (event_of u e).state) doing.state ∙ blind.state in
    record {
      others = λ q by. others q (sym (ap (λ (u : State). performer u e) doing.state ∙ performer-rewritten cut s e does.rewrites) ∙ by);
      told = ap (λ (u : State). (event_of u e).records) doing.state ∙ blind.records;
      differs = subst (λ (u : State). DifferOnLeft cut t u) (sym behind) (does.differs t left.spares);
      quiet = λ unhalted. let alike = does.alike t unhalted left.secluded left.spares on still.stay still.bytes in alike.by;
      either = λ unhalted. let alike = does.alike t unhalted left.secluded left.spares on still.stay still.bytes in let there = alike.does in behind ∙ sym there.state;
    }

-- ---- steps of two harts

module _ (cut : Cut) (p : ℕ) (s : State) (hart other : ℕ) (secluded : Secluded cut s) (own : side_of cut Process p ≡ Left) (alone : (q : ℕ) → side_of cut Process q ≡ Left → q ≡ p)
    (on_hart : hart_of s.queues hart ≡ Some p) (runs : s.halted ≡ false) (apart : other ≢ hart) where
  harts : OnHarts cut s.queues
  harts = secluded.harts

  first-right : (ps : List ℕ) (q : ℕ) → AllOn cut Right ps → first_of ps ≡ Some q → side_of cut Process q ≡ Right
  first-right [] q all e = absurd (cc (e))
  first-right (x ∷ xs) q all e = let same : x ≡ q = cc (e) in subst (λ (n : ℕ). side_of cut Process n ≡ Right) same all.0

  -- whom a hart has or takes that is not the process's
  here-right : (q : ℕ) → hart_of s.queues other ≡ Some q → side_of cut Process q ≡ Right
  here-right q on = by (side_of cut Process q) refl
    where
      by : (side : CutSide) → side_of cut Process q ≡ side → side_of cut Process q ≡ Right
      by Right is = is
      by Left is = let same = alone q is in absurd (apart (harts.once p other hart own (on ∙ ap (λ (n : ℕ). Some n) same) on_hart))

  dispatched-right : (q : ℕ) → hart_of (dispatched s.queues other) other ≡ Some q → side_of cut Process q ≡ Right
  dispatched-right q = on (hart_of s.queues other) refl
    where
      taken : hart_of s.queues other ≡ None → (next : Option ℕ) → hart_of (taken_from s.queues other next) other ≡ Some q → side_of cut Process q ≡ Right
      taken none None is = here-right q is
      taken none (Some k) is = elim (get_or-set s.queues.harts other other (first_of (ready_queue s.queues k)) None) [
        | inl new ↦ first-right (ready_queue s.queues k) q (harts.ready k) (sym new.1 ∙ is)
        | inr old ↦ here-right q (sym old ∙ is)
      ]

      on : (h : Option ℕ) → hart_of s.queues other ≡ h → hart_of (dispatched_by s.queues other h) other ≡ Some q → side_of cut Process q ≡ Right
      on None e is = taken e (highest_below s.queues.ready priorities) is
      on (Some x) e is = here-right q is

  -- a step of another hart is of others
  step-of-others : IsOfOthers cut s (Step other)
  step-of-others q performs = dispatched-right q (ap (λ (b : Bool). if b then None else performer_by s (Step other)) (sym runs) ∙ performs)

-- what is settled is so where data alone differ
settled-shape : (n : ℕ) (s t : State) → SameButData s t → IsSettled s.store n → IsSettled t.store n
settled-shape n s t same settled = record {
  slots = λ g i. subst (λ (o : Items). SparesPage n (slot_at o g i)) same.items (settled.slots g i);
  cappages = λ c i. subst (λ (xs : List (List Capability)). SparesPage n (cap_at (get_or xs c empty_cappage) i)) same.cappages (settled.cappages c i);
  capregs = λ p i. let one = same.processes p in subst (λ (cs : List Capability). SparesPage n (get_or cs i null)) one.capregs (settled.capregs p i);
  process_slots = λ p i. let one = same.processes p in subst (λ (cs : List Capability). SparesPage n (get_or cs i null)) one.slots (settled.process_slots p i);
  recipients = λ e. subst (λ (xs : List EndpointValue). SparesPage n (get_or xs e empty_endpoint).recipient) same.endpoints (settled.recipients e);
}

-- what is quiet after a quiet step of another hart was so before it
pub quiet-before : (cut own : Cut) (settled seen : ℕ → Bool) (p q : ℕ) (s : State) (hart other : ℕ) → IsQuietBy own seen q s other → other ≢ hart
    → IsQuietBy cut settled p (event_of s (Step other)).state hart → IsQuietBy cut settled p s hart
quiet-before cut own settled seen p q s hart other first apart second =
    let does = quiet_law own seen q s other first in
    let doing = does.does in
    let t = (event_of s (Step other)).state in
    let differ : DifferOnLeft own s t = subst (λ (u : State). DifferOnLeft own s u) (sym doing.state) (does.differs s (λ kind n right. refl)) in
    let shape = differ.same in
    let back = shape-sym s t shape in
    let secluded = secluded-shape cut t s back second.secluded in
    let on = ap (λ (r : QueuesValue). hart_of r hart) shape.queues ∙ second.on in
    let others : IsOfOthers cut s (Step other) = step-of-others cut p s hart other secluded second.own second.alone on first.runs apart in
    let left = left_law cut s (Step other) secluded others in
    let still : AreSettled settled s.store = λ n is. settled-shape n t s back (second.still n is) in
    let stay = settled_law settled s (Step other) still in
    let again = quiet_law cut settled p t hart second in
    let alike = again.alike s first.runs secluded (λ kind n right. sym (left.spares kind n right)) on still (λ n is. sym (stay.bytes n is)) in
    alike.by

-- a step of another hart than that of a quiet one
pub others_of_harts : (cut : Cut) (settled : ℕ → Bool) (p : ℕ) (s : State) (hart other : ℕ) → IsQuietBy cut settled p s hart → other ≢ hart → IsOfOthers cut s (Step other)
others_of_harts cut settled p s hart other quiet apart = step-of-others cut p s hart other quiet.secluded quiet.own quiet.alone quiet.on quiet.runs apart

-- the laws of two harts
pub harts_apart : HartsApart
harts_apart = record {
  others = others_of_harts;
  before = quiet-before;
}
