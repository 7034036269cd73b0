-- What a process of one side may make of objects and queues: one law for each write.
use Rattle.std.proofs.Common.{◌≡◌, ◌≢◌, ℕ, ◌==◌, ◌⊎◌, inl, inr, Bool, true, false, List, [], ◌∷◌, ◌++◌, length, get_or, Option, None, refl, sym, ◌∙◌, ap, ap₂, subst, length-set, get_or-set_other}
use Rattle.std.proofs.Math.ListN.{get_or-map}
use Rattle.std.proofs.lemmas.Bool.{or_left, or_right, eq-eqb}
use Rattle.cap_format.specs.declared.kind.CapKind.{CapKind}
use Rattle.cap_format.specs.declared.kind.CapKind.TheVariants.{Page, CapPage, Gpt, Endpoint, Process, Schedule}
use Rattle.cap_format.specs.Capability.{Capability, null}
use Rattle.gpt_objects.specs.Header.{HeaderValue}
use Rattle.gpt_objects.specs.Gpt.{GptValue, slot_of as gpt_slot_of, empty_gpt}
use Rattle.page_store.specs.Page.{empty_page}
use Rattle.page_store.specs.CapPage.{cap_at, empty_cappage}
use Rattle.process_objects.specs.declared.state.State.{State as RunState}
use Rattle.process_objects.specs.Process.{ProcessValue, capreg_of, slot_of, empty_process}
use Rattle.endpoint_objects.specs.declared.endpoint.Endpoint.{Endpoint as EndpointValue}
use Rattle.endpoint_objects.specs.Endpoint.{empty_endpoint}
use Rattle.object_store.specs.Store.{Store, count_of, gpt_at, page_at, process_at, endpoint_at, set_gpt, set_slot, set_header, with_items, with_page, with_cappage, with_process, with_endpoint}
use Rattle.object_store.specs.Object.{ObjectName, object_name, object_at, SameObject, IsAmong, Stays}
use Rattle.object_store.specs.Object.ObjectValue.{OfPage}
use Rattle.object_store.proofs.Stays.{stays_process, stays_page, stays_cappage, stays_endpoint, stays_gpt}
use Rattle.schedules.specs.Queues.{QueuesValue, ready_queue, sleepers_of, hart_of, stands_in, without, left, asleep}
use Rattle.schedules.specs.Ready.{readied, readied_process, readied_state, readied_queues, readied_all, unslept, woken, runs_of}
use Rattle.schedules.proofs.Waking.{sleepers-readied}
use Rattle.invocation.specs.Answerer.{answered_by, asked}
use Rattle.invocation.specs.Answerer.Answer.{Open}
use Rattle.invocation.specs.Delivery.{accepted}
use Rattle.invocation.specs.Target.{is_receiving}
use Rattle.operations.specs.System.{System, system, with_store, with_runs}
use Rattle.confinement.specs.declared.cut_side.CutSide.{CutSide}
use Rattle.confinement.specs.Cut.{Cut, side_of, same_side, MayHold, MaySleep, TakesFrom, MayLead, EachHeldBy, Beyond, HoldsFor}
use Rattle.confinement.specs.Acts.{Spares, SparesPlaces, SameSizes, others_in, other_on, Told, Given, Met, Filled, Rung, ProcessMoves, EndpointMoves, ObjectMoves, AllMet, Joins, Moves, Acts, ProcessHeld}
use Rattle.confinement.proofs.Sides.{same_side-tells, same_side-not}
use Rattle.confinement.proofs.Answering.{open-receives, asked-takes}
use Rattle.confinement.proofs.Placing.{others-without, others-last, places-left, places-readied, joins-none, joins-then, ready-readied, harts-readied}
use Rattle.confinement.proofs.Sleeping.{each_set, length-map_lists, asleep-left, asleep-unslept, asleep-asleep, asleep-same}

-- ---- sizes

-- a write of one list leaves all of them
sizes-by : (w v : System) → length w.store.contents.pages ≡ length v.store.contents.pages → length w.store.contents.cappages ≡ length v.store.contents.cappages → length w.store.items.gpts ≡ length v.store.items.gpts
    → length w.store.contents.processes ≡ length v.store.contents.processes → length w.store.contents.endpoints ≡ length v.store.contents.endpoints → length w.queues.sleepers ≡ length v.queues.sleepers → SameSizes w v
sizes-by w v pages cappages gpts processes endpoints sleepers =
    record { pages = pages; cappages = cappages; gpts = gpts; processes = processes; endpoints = endpoints; sleepers = sleepers }

sizes-same : (w : System) → SameSizes w w
sizes-same w = sizes-by w w refl refl refl refl refl refl

sizes-then : (w v u : System) → SameSizes w v → SameSizes v u → SameSizes w u
sizes-then w v u first second = record {
  pages = first.pages ∙ second.pages;
  cappages = first.cappages ∙ second.cappages;
  gpts = first.gpts ∙ second.gpts;
  processes = first.processes ∙ second.processes;
  endpoints = first.endpoints ∙ second.endpoints;
  sleepers = first.sleepers ∙ second.sleepers;
}

module _ (cut : Cut) (side : CutSide) where
  -- these names are of objects of this side
  abbrev pub AllNamed : List ObjectName → Type 0
  AllNamed [] = Unit {0}
  AllNamed (name ∷ names) = (side_of cut name.kind name.number ≡ side) × AllNamed names

  named_own : (names : List ObjectName) (kind : CapKind) (n : ℕ) → AllNamed names → IsAmong kind n names → side_of cut kind n ≡ side
  named_own [] kind n all among = absurd among
  named_own (name ∷ names) kind n all (inl is) = ap (λ (k : CapKind). side_of cut k n) is.0 ∙ (ap (λ (m : ℕ). side_of cut name.kind m) is.1 ∙ all.0)
  named_own (name ∷ names) kind n all (inr rest) = named_own names kind n all.1 rest

  -- where only objects of this side change, the others are spared
  pub spares-stays : (names : List ObjectName) (s t : Store) → AllNamed names → Stays names s t → Spares cut side s t
  spares-stays names s t all stays kind n other = elim (stays.same kind n) [
    | inl among ↦ absurd (other (named_own names kind n all among))
    | inr same ↦ same
  ]

  -- ---- what isn't of this side

  process-same : (base : System) (p : ℕ) (x y : ProcessValue) → x ≡ y → ProcessMoves cut side base p x y
  process-same base p x y same = record {
    pc = ap (λ (z : ProcessValue). z.pc) same;
    slots = ap (λ (z : ProcessValue). z.slots) same;
    capregs = inl (ap (λ (z : ProcessValue). z.capregs) same);
    given = λ i. inl (ap (λ (z : ProcessValue). capreg_of z i) same);
    regs = inl (ap (λ (z : ProcessValue). z.regs) same);
    state = inl (ap (λ (z : ProcessValue). z.state) same);
  }

  endpoint-same : (base : System) (e : ℕ) (x y : EndpointValue) → x ≡ y → EndpointMoves cut side base e x y
  endpoint-same base e x y same = record {
    recipient = ap (λ (z : EndpointValue). z.recipient) same;
    id = ap (λ (z : EndpointValue). z.id) same;
    matching = ap (λ (z : EndpointValue). z.matching) same;
    payload = inl (ap (λ (z : EndpointValue). z.payload) same);
  }

  -- what becomes of all objects that aren't of this side
  abbrev pub OthersMove : System → Store → Store → Type 0
  OthersMove base s t = (kind : CapKind) (n : ℕ) → side_of cut kind n ≢ side → ObjectMoves cut side base kind n s t

  -- where they are the same
  others-same : (base : System) (s t : Store) → Spares cut side s t → OthersMove base s t
  others-same base s t spares Page n other = inl (spares Page n other)
  others-same base s t spares Process p other = process-same base p (process_at s p) (process_at t p) (let e = spares Process p other in cc (e))
  others-same base s t spares Endpoint n other = endpoint-same base n (endpoint_at s n) (endpoint_at t n) (let e = spares Endpoint n other in cc (e))
  others-same base s t spares kind n other = spares kind n other

  state-then : (base : System) (p : ℕ) (x y z : RunState) → (x ≡ y) ⊎ ((is_receiving y ≡ false) × Met cut side base p) → (y ≡ z) ⊎ ((is_receiving z ≡ false) × Met cut side base p)
      → (x ≡ z) ⊎ ((is_receiving z ≡ false) × Met cut side base p)
  state-then base p x y z first (inr met) = inr met
  state-then base p x y z (inl same) (inl same2) = inl (same ∙ same2)
  state-then base p x y z (inr met) (inl same2) = inr (ap is_receiving (sym same2) ∙ met.0, met.1)

  either-then : {A : Type 0} (B : Type 0) (x y z : A) → (x ≡ y) ⊎ B → (y ≡ z) ⊎ B → (x ≡ z) ⊎ B
  either-then B x y z (inl same) (inl same2) = inl (same ∙ same2)
  either-then B x y z (inl same) (inr b) = inr b
  either-then B x y z (inr b) second = inr b

  given-then : (x y z : Capability) → (x ≡ y) ⊎ MayHold cut side y → (y ≡ z) ⊎ MayHold cut side z → (x ≡ z) ⊎ MayHold cut side z
  given-then x y z first (inr may) = inr may
  given-then x y z (inl same) (inl same2) = inl (same ∙ same2)
  given-then x y z (inr may) (inl same2) = inr (subst (λ (c : Capability). MayHold cut side c) same2 may)

  others-then : (base : System) (s t u : Store) → OthersMove base s t → OthersMove base t u → OthersMove base s u
  others-then base s t u first second Page n other =
      either-then (Filled cut side base n) (object_at s Page n) (object_at t Page n) (object_at u Page n) (first Page n other) (second Page n other)
  others-then base s t u first second Process p other =
      let a = first Process p other in
      let b = second Process p other in
      record {
        pc = a.pc ∙ b.pc;
        slots = a.slots ∙ b.slots;
        capregs = either-then (Given cut side base p) (process_at s p).capregs (process_at t p).capregs (process_at u p).capregs a.capregs b.capregs;
        given = λ i. given-then (capreg_of (process_at s p) i) (capreg_of (process_at t p) i) (capreg_of (process_at u p) i) (a.given i) (b.given i);
        regs = either-then (Told cut side base p) (process_at s p).regs (process_at t p).regs (process_at u p).regs a.regs b.regs;
        state = state-then base p (process_at s p).state (process_at t p).state (process_at u p).state a.state b.state;
      }
  others-then base s t u first second Endpoint e other =
      let a = first Endpoint e other in
      let b = second Endpoint e other in
      record {
        recipient = a.recipient ∙ b.recipient;
        id = a.id ∙ b.id;
        matching = a.matching ∙ b.matching;
        payload = either-then (Rung cut side base e) (endpoint_at s e).payload (endpoint_at t e).payload (endpoint_at u e).payload a.payload b.payload;
      }
  others-then base s t u first second kind n other = first kind n other ∙ second kind n other

  -- whoever takes now took before, and what it accepts is the same
  pub takes-since : (base : System) (s t : Store) (e q : ℕ) → OthersMove base s t → side_of cut Endpoint e ≢ side → side_of cut Process q ≢ side → TakesFrom t e q
      → TakesFrom s e q × ((process_at s q).state ≡ (process_at t q).state)
  takes-since base s t e q objects away other takes =
      let at = asked-takes t e e (endpoint_at t e).recipient.kind (endpoint_at t e).recipient.object q takes in
      let endpoint = objects Endpoint e away in
      let process = objects Process q other in
      by (ap (λ (c : Capability). c.kind) endpoint.recipient ∙ at.0) (ap (λ (c : Capability). c.object) endpoint.recipient ∙ at.1.0) endpoint.id
      (ap₂ (λ (kind : CapKind) (m : ℕ). asked t e kind m) (sym at.0) (sym at.1.0) ∙ takes) process.state
    where
      by : (endpoint_at s e).recipient.kind ≡ Process → (endpoint_at s e).recipient.object ≡ q → (endpoint_at s e).id ≡ (endpoint_at t e).id
          → answered_by (process_at t q).state (endpoint_at t e).id e q ≡ Open e q
          → ((process_at s q).state ≡ (process_at t q).state) ⊎ ((is_receiving (process_at t q).state ≡ false) × Met cut side base q)
          → TakesFrom s e q × ((process_at s q).state ≡ (process_at t q).state)
      by k n id takes (inl same) = (
        ap₂ (λ (kind : CapKind) (m : ℕ). asked s e kind m) k n
            ∙ (ap₂ (λ (state : RunState) (i : ℕ). answered_by state i e q) same id ∙ takes),
        same,
      )
      by k n id takes (inr met) = let receives = open-receives (process_at t q).state (endpoint_at t e).id e q e q takes in absurd (cc (receives, met.0))

  -- the recipient through whom somebody takes may be told
  pub taker-heard : (s : Store) (e q : ℕ) → Beyond cut side s → cut.calls side e ≡ true → TakesFrom s e q → cut.hears side q ≡ true
  taker-heard s e q beyond calls takes =
      let at = asked-takes s e e (endpoint_at s e).recipient.kind (endpoint_at s e).recipient.object q takes in
      subst (λ (m : ℕ). cut.hears side m ≡ true) at.1.0 (beyond.heard e calls at.0)

  -- what is beyond stays so
  pub beyond-after : (base : System) (s t : Store) → OthersMove base s t → Beyond cut side s → Beyond cut side t
  beyond-after base s t objects beyond = record {
    away = beyond.away;
    heard = heard;
    others = beyond.others;
    spaces = λ q hears. let process = objects Process q (beyond.others q hears) in
        subst (λ (cs : List Capability). MayLead (cut.realm q) (get_or cs 0 null)) process.slots (beyond.spaces q hears);
    apart = beyond.apart;
    slots = λ q g i hears own.
        let same : SameObject Gpt g s t = objects Gpt g (beyond.apart q g hears own) in
        let gpt : gpt_at s.items g ≡ gpt_at t.items g = cc (same) in
        subst (λ (x : GptValue). MayLead (cut.realm q) (gpt_slot_of x i)) gpt (beyond.slots q g i hears own);
  }
    where
      heard : (e : ℕ) → cut.calls side e ≡ true → (endpoint_at t e).recipient.kind ≡ Process → cut.hears side (endpoint_at t e).recipient.object ≡ true
      heard e calls k = let endpoint = objects Endpoint e (beyond.away e calls) in
          subst (λ (c : Capability). cut.hears side c.object ≡ true) endpoint.recipient (beyond.heard e calls (ap (λ (c : Capability). c.kind) endpoint.recipient ∙ k))

  -- ---- one thing after another

  -- objects change, and nobody moves
  moves-store : (base w : System) (t : Store) → EachHeldBy cut side t → OthersMove base w.store t → SameSizes w (with_store w t) → w.store.items.counts ≡ t.items.counts → HoldsFor cut side w
      → Moves cut side base w (with_store w t)
  moves-store base w t each objects sizes ages holds = record {
    holds = record { each = each; sleepers = holds.sleepers; beyond = beyond-after base w.store t objects holds.beyond };
    objects = objects;
    sleepers = λ on other. refl;
    asleep = λ on p other there. there;
    ready = λ k. joins-none cut side base _ _ refl;
    harts = λ h. refl;
    size = refl;
    sizes = sizes;
    ages = ages;
  }

  -- nothing happens
  pub acts-same : (w : System) → HoldsFor cut side w → Acts cut side w w
  acts-same w holds = moves-store w w w.store holds.each (others-same w w.store w.store (λ kind n other. refl)) (sizes-same w) refl holds

  -- one after another, where the same says who may be told
  pub moves-then : (base w v u : System) → Moves cut side base w v → (HoldsFor cut side v → Moves cut side base v u) → Moves cut side base w u
  moves-then base w v u first second =
      let last = second first.holds in
      record {
        holds = last.holds;
        objects = others-then base w.store v.store u.store first.objects last.objects;
        sleepers = λ on other. first.sleepers on other ∙ last.sleepers on other;
        asleep = λ on p other there. first.asleep on p other (last.asleep on p other there);
        ready = λ k. joins-then cut side base _ _ _ (first.ready k) (last.ready k);
        harts = λ h. first.harts h ∙ last.harts h;
        size = first.size ∙ last.size;
        sizes = sizes-then w v u first.sizes last.sizes;
        ages = first.ages ∙ last.ages;
      }

  -- who may be told or is asleep now could be told or slept before
  module _ (base w : System) (first : Acts cut side base w) where
    taken-since : (e q : ℕ) → cut.calls side e ≡ true → TakesFrom w.store e q
        → TakesFrom base.store e q × ((process_at base.store q).state ≡ (process_at w.store q).state)
    taken-since e q calls takes = let beyond = first.holds.beyond in
        takes-since base base.store w.store e q first.objects (beyond.away e calls) (beyond.others q (taker-heard w.store e q beyond calls takes)) takes

    took-since : (e q : ℕ) → cut.calls side e ≡ true → TakesFrom w.store e q → TakesFrom base.store e q
    took-since e q calls takes = (taken-since e q calls takes).0

    told-since : (q : ℕ) → Told cut side w q → Told cut side base q
    told-since q told = record { through = told.through; calls = told.calls; takes = took-since told.through q told.calls told.takes }

    given-since : (q : ℕ) → Given cut side w q → Given cut side base q
    given-since q given = let told = given.told in record {
      told = told-since q told;
      accepts = λ none. given.accepts (subst (λ (state : RunState). (accepted state).caps ≡ 0) (taken-since told.through q told.calls told.takes).1 none);
    }

    met-since : (q : ℕ) → Met cut side w q → Met cut side base q
    met-since q (inl told) = inl (told-since q told)
    met-since q (inr slept) = inr (record { other = slept.other; on = slept.on; own = slept.own; sleeps = first.asleep slept.on q slept.other slept.sleeps })

    all_met-since : (ps : List ℕ) → AllMet cut side w ps → AllMet cut side base ps
    all_met-since [] all = tt
    all_met-since (p ∷ ps) all = (met-since p all.0, all_met-since ps all.1)

    others-since : (s t : Store) → OthersMove w s t → OthersMove base s t
    others-since s t objects Page n other = elim (objects Page n other) [
      | inl same ↦ inl same
      | inr filled ↦ inr (record { taker = filled.taker; told = told-since filled.taker filled.told; writes = filled.writes })
    ]
    others-since s t objects Process p other = let a = objects Process p other in record {
      pc = a.pc;
      slots = a.slots;
      capregs = elim a.capregs [ inl same ↦ inl same | inr given ↦ inr (given-since p given) ];
      given = a.given;
      regs = elim a.regs [ inl same ↦ inl same | inr told ↦ inr (told-since p told) ];
      state = elim a.state [ inl same ↦ inl same | inr met ↦ inr (met.0, met-since p met.1) ];
    }
    others-since s t objects Endpoint e other = let a = objects Endpoint e other in record {
      recipient = a.recipient;
      id = a.id;
      matching = a.matching;
      payload = elim a.payload [
        | inl same ↦ inl same
        | inr rung ↦ inr (record {
          taker = rung.taker;
          calls = rung.calls;
          takes = took-since e rung.taker rung.calls rung.takes;
        })
      ];
    }
    others-since s t objects kind n other = objects kind n other

    pub moves-since : (v : System) → Acts cut side w v → Moves cut side base w v
    moves-since v moves = record {
      holds = moves.holds;
      objects = others-since w.store v.store moves.objects;
      sleepers = moves.sleepers;
      asleep = moves.asleep;
      ready = λ k. let joins = moves.ready k in record { joined = joins.joined; order = joins.order; met = all_met-since joins.joined joins.met };
      harts = moves.harts;
      size = moves.size;
      sizes = moves.sizes;
      ages = moves.ages;
    }

  -- one thing after another
  pub acts-then : (w v u : System) → Acts cut side w v → (HoldsFor cut side v → Acts cut side v u) → Acts cut side w u
  acts-then w v u first second = moves-then w w v u first (λ h. moves-since w v first u (second h))

  -- ---- one object

  -- objects of this side change
  acts-own : (w : System) (t : Store) → EachHeldBy cut side t → Spares cut side w.store t → SameSizes w (with_store w t) → w.store.items.counts ≡ t.items.counts → HoldsFor cut side w
      → Acts cut side w (with_store w t)
  acts-own w t each spares sizes ages holds = moves-store w w t each (others-same w w.store t spares) sizes ages holds

  -- a process, which may hold what it has
  pub acts-process : (w : System) (p : ℕ) (v : ProcessValue) → side_of cut Process p ≡ side → ProcessHeld cut side v → HoldsFor cut side w
      → Acts cut side w (with_store w (with_process w.store p v))
  acts-process w p v own held holds =
      acts-own w (with_process w.store p v)
      (record {
        slots = holds.each.slots;
        cappages = holds.each.cappages;
        capregs = λ n i. each_set (λ n (v : ProcessValue). side_of cut Process n ≡ side → MayHold cut side (capreg_of v i)) w.store.contents.processes p v empty_process
            (λ on. held.capregs i) (λ n. holds.each.capregs n i) n;
        process_slots = λ n i. each_set (λ n (v : ProcessValue). side_of cut Process n ≡ side → MayHold cut side (slot_of v i)) w.store.contents.processes p v empty_process
            (λ on. held.slots i) (λ n. holds.each.process_slots n i) n;
        recipients = holds.each.recipients;
      })
      (spares-stays (object_name Process p ∷ []) w.store (with_process w.store p v) (own, tt) (stays_process [] w.store p v))
      (sizes-by w (with_store w (with_process w.store p v)) refl refl refl (sym (length-set w.store.contents.processes p v)) refl refl) refl holds

  -- a page
  pub acts-page : (w : System) (n : ℕ) (page : List ℕ) → side_of cut Page n ≡ side → HoldsFor cut side w → Acts cut side w (with_store w (with_page w.store n page))
  acts-page w n page own holds =
      acts-own w (with_page w.store n page)
      (record {
        slots = holds.each.slots;
        cappages = holds.each.cappages;
        capregs = holds.each.capregs;
        process_slots = holds.each.process_slots;
        recipients = holds.each.recipients;
      })
      (spares-stays (object_name Page n ∷ []) w.store (with_page w.store n page) (own, tt) (stays_page [] w.store n page))
      (sizes-by w (with_store w (with_page w.store n page)) (sym (length-set w.store.contents.pages n page)) refl refl refl refl refl) refl holds

  -- a capability page
  pub acts-cappage : (w : System) (n : ℕ) (page : List Capability) → side_of cut CapPage n ≡ side → ((i : ℕ) → MayHold cut side (cap_at page i)) → HoldsFor cut side w
      → Acts cut side w (with_store w (with_cappage w.store n page))
  acts-cappage w n page own held holds =
      acts-own w (with_cappage w.store n page)
      (record {
        slots = holds.each.slots;
        cappages = λ m i. each_set (λ m (page : List Capability). side_of cut CapPage m ≡ side → MayHold cut side (cap_at page i)) w.store.contents.cappages n page empty_cappage
            (λ on. held i) (λ m. holds.each.cappages m i) m;
        capregs = holds.each.capregs;
        process_slots = holds.each.process_slots;
        recipients = holds.each.recipients;
      })
      (spares-stays (object_name CapPage n ∷ []) w.store (with_cappage w.store n page) (own, tt) (stays_cappage [] w.store n page))
      (sizes-by w (with_store w (with_cappage w.store n page)) refl (sym (length-set w.store.contents.cappages n page)) refl refl refl refl) refl holds

  -- a GPT
  pub acts-gpt : (w : System) (g : ℕ) (gpt : GptValue) → side_of cut Gpt g ≡ side → ((i : ℕ) → MayHold cut side (gpt_slot_of gpt i)) → HoldsFor cut side w
      → Acts cut side w (with_store w (with_items w.store (set_gpt w.store.items g gpt)))
  acts-gpt w g gpt own held holds =
      acts-own w (with_items w.store (set_gpt w.store.items g gpt))
      (record {
        slots = λ h i. each_set (λ h (gpt : GptValue). side_of cut Gpt h ≡ side → MayHold cut side (gpt_slot_of gpt i)) w.store.items.gpts g gpt empty_gpt
            (λ on. held i) (λ h. holds.each.slots h i) h;
        cappages = holds.each.cappages;
        capregs = holds.each.capregs;
        process_slots = holds.each.process_slots;
        recipients = holds.each.recipients;
      })
      (spares-stays (object_name Gpt g ∷ []) w.store (with_items w.store (set_gpt w.store.items g gpt)) (own, tt) (stays_gpt [] w.store g gpt))
      (sizes-by w (with_store w (with_items w.store (set_gpt w.store.items g gpt))) refl refl (sym (length-set w.store.items.gpts g gpt)) refl refl refl) refl holds

  -- an endpoint
  pub acts-endpoint : (w : System) (e : ℕ) (v : EndpointValue) → side_of cut Endpoint e ≡ side → MayHold cut side v.recipient → HoldsFor cut side w
      → Acts cut side w (with_store w (with_endpoint w.store e v))
  acts-endpoint w e v own held holds =
      acts-own w (with_endpoint w.store e v)
      (record {
        slots = holds.each.slots;
        cappages = holds.each.cappages;
        capregs = holds.each.capregs;
        process_slots = holds.each.process_slots;
        recipients = λ f. each_set (λ f (v : EndpointValue). side_of cut Endpoint f ≡ side → MayHold cut side v.recipient) w.store.contents.endpoints e v empty_endpoint
            (λ on. held) holds.each.recipients f;
      })
      (spares-stays (object_name Endpoint e ∷ []) w.store (with_endpoint w.store e v) (own, tt) (stays_endpoint [] w.store e v))
      (sizes-by w (with_store w (with_endpoint w.store e v)) refl refl refl refl (sym (length-set w.store.contents.endpoints e v)) refl) refl holds

  -- what is held of a process that stands in the map
  pub held-process : (w : System) (p : ℕ) → side_of cut Process p ≡ side → HoldsFor cut side w → ProcessHeld cut side (process_at w.store p)
  held-process w p own holds = record {
    capregs = λ i. holds.each.capregs p i own;
    slots = λ i. holds.each.process_slots p i own;
  }

  -- a slot of a GPT
  pub acts-slot : (w : System) (g i : ℕ) (c : Capability) → side_of cut Gpt g ≡ side → MayHold cut side c → HoldsFor cut side w
      → Acts cut side w (with_store w (with_items w.store (set_slot w.store.items g i c)))
  acts-slot w g i c own may holds = acts-gpt w g _ own
      (each_set (λ j (c : Capability). MayHold cut side c) (gpt_at w.store.items g).slots i c null may (λ j. holds.each.slots g j own)) holds

  -- the header of a GPT
  pub acts-header : (w : System) (g : ℕ) (h : HeaderValue) → side_of cut Gpt g ≡ side → HoldsFor cut side w
      → Acts cut side w (with_store w (with_items w.store (set_header w.store.items g h)))
  acts-header w g h own holds = acts-gpt w g _ own (λ j. holds.each.slots g j own) holds

  -- ---- objects that aren't of this side

  -- a process, of which becomes what may
  pub moves-process : (base w : System) (p : ℕ) (v : ProcessValue) → side_of cut Process p ≢ side → ProcessMoves cut side base p (process_at w.store p) v → HoldsFor cut side w
      → Moves cut side base w (with_store w (with_process w.store p v))
  moves-process base w p v other moves holds =
      moves-store base w (with_process w.store p v)
      (record {
        slots = holds.each.slots;
        cappages = holds.each.cappages;
        capregs = λ n i. each_set (λ n (v : ProcessValue). side_of cut Process n ≡ side → MayHold cut side (capreg_of v i)) w.store.contents.processes p v empty_process
            (λ on. absurd (other on)) (λ n. holds.each.capregs n i) n;
        process_slots = λ n i. each_set (λ n (v : ProcessValue). side_of cut Process n ≡ side → MayHold cut side (slot_of v i)) w.store.contents.processes p v empty_process
            (λ on. absurd (other on)) (λ n. holds.each.process_slots n i) n;
        recipients = holds.each.recipients;
      })
      objects (sizes-by w (with_store w (with_process w.store p v)) refl refl refl (sym (length-set w.store.contents.processes p v)) refl refl) refl holds
    where
      objects : OthersMove base w.store (with_process w.store p v)
      objects Page n away = inl refl
      objects Process n away = each_set (λ n (x : ProcessValue). ProcessMoves cut side base n (process_at w.store n) x) w.store.contents.processes p v empty_process moves
          (λ n. process-same base n _ _ refl) n
      objects Endpoint n away = endpoint-same base n _ _ refl
      objects kind n away = refl

  -- an endpoint, of which becomes what may
  pub moves-endpoint : (base w : System) (e : ℕ) (v : EndpointValue) → side_of cut Endpoint e ≢ side → EndpointMoves cut side base e (endpoint_at w.store e) v → HoldsFor cut side w
      → Moves cut side base w (with_store w (with_endpoint w.store e v))
  moves-endpoint base w e v other moves holds =
      moves-store base w (with_endpoint w.store e v)
      (record {
        slots = holds.each.slots;
        cappages = holds.each.cappages;
        capregs = holds.each.capregs;
        process_slots = holds.each.process_slots;
        recipients = λ f. each_set (λ f (v : EndpointValue). side_of cut Endpoint f ≡ side → MayHold cut side v.recipient) w.store.contents.endpoints e v empty_endpoint
            (λ on. absurd (other on)) holds.each.recipients f;
      })
      objects (sizes-by w (with_store w (with_endpoint w.store e v)) refl refl refl refl (sym (length-set w.store.contents.endpoints e v)) refl) refl holds
    where
      objects : OthersMove base w.store (with_endpoint w.store e v)
      objects Page n away = inl refl
      objects Process n away = process-same base n _ _ refl
      objects Endpoint n away = each_set (λ n (x : EndpointValue). EndpointMoves cut side base n (endpoint_at w.store n) x) w.store.contents.endpoints e v empty_endpoint moves
          (λ n. endpoint-same base n _ _ refl) n
      objects kind n away = refl

  -- a page where one who is told takes a string
  pub moves-page : (base w : System) (n : ℕ) (page : List ℕ) → Filled cut side base n → HoldsFor cut side w → Moves cut side base w (with_store w (with_page w.store n page))
  moves-page base w n page filled holds =
      moves-store base w (with_page w.store n page)
      (record {
        slots = holds.each.slots;
        cappages = holds.each.cappages;
        capregs = holds.each.capregs;
        process_slots = holds.each.process_slots;
        recipients = holds.each.recipients;
      })
      objects (sizes-by w (with_store w (with_page w.store n page)) (sym (length-set w.store.contents.pages n page)) refl refl refl refl refl) refl holds
    where
      objects : OthersMove base w.store (with_page w.store n page)
      objects Page m away = each_set (λ m (x : List ℕ). (OfPage (count_of w.store.items Page m) (page_at w.store m) ≡ OfPage (count_of w.store.items Page m) x) ⊎ Filled cut side base m)
          w.store.contents.pages n page empty_page (inr filled) (λ m. inl refl) m
      objects Process m away = process-same base m _ _ refl
      objects Endpoint m away = endpoint-same base m _ _ refl
      objects kind m away = refl

  -- ---- queues

  -- other queues, in which whoever sleeps did so, or is of this side and may
  pub moves-queues : (base w : System) (q : QueuesValue)
      → ((on x : ℕ) → stands_in (sleepers_of q on) x ≡ true → (stands_in (sleepers_of w.queues on) x ≡ true) ⊎ ((side_of cut Process x ≡ side) × MaySleep cut x on))
      → ((on : ℕ) → side_of cut Process on ≢ side → others_in cut side (sleepers_of w.queues on) ≡ others_in cut side (sleepers_of q on))
      → ((k : ℕ) → Joins cut side base (others_in cut side (ready_queue w.queues k)) (others_in cut side (ready_queue q k)))
      → ((h : ℕ) → other_on cut side (hart_of w.queues h) ≡ other_on cut side (hart_of q h)) → length w.queues.harts ≡ length q.harts → length w.queues.sleepers ≡ length q.sleepers
      → HoldsFor cut side w
      → Moves cut side base w (system w.store q)
  moves-queues base w q asleep sleepers ready harts size long holds = record {
    holds = record {
      each = holds.each;
      sleepers = λ on x there. elim (asleep on x there) [ inl before ↦ holds.sleepers on x before | inr may ↦ may.1 ];
      beyond = holds.beyond;
    };
    objects = others-same base w.store w.store (λ kind n other. refl);
    sleepers = sleepers;
    asleep = λ on p other there. elim (asleep on p there) [ inl before ↦ before | inr may ↦ absurd (other may.0) ];
    ready = ready;
    harts = harts;
    size = size;
    sizes = sizes-by w (system w.store q) refl refl refl refl refl long;
    ages = refl;
  }

  -- and where those that aren't of this side stand where they stood
  pub acts-queues : (w : System) (q : QueuesValue)
      → ((on x : ℕ) → stands_in (sleepers_of q on) x ≡ true → (stands_in (sleepers_of w.queues on) x ≡ true) ⊎ ((side_of cut Process x ≡ side) × MaySleep cut x on))
      → ((on : ℕ) → side_of cut Process on ≢ side → others_in cut side (sleepers_of w.queues on) ≡ others_in cut side (sleepers_of q on))
      → SparesPlaces cut side w.queues q → length w.queues.sleepers ≡ length q.sleepers → HoldsFor cut side w
      → Acts cut side w (system w.store q)
  acts-queues w q asleep sleepers places long holds =
      moves-queues w w q asleep sleepers (λ k. joins-none cut side w _ _ (places.ready k)) places.harts places.size long holds

module _ (cut : Cut) (side : CutSide) where
  -- ---- made ready

  held-readied : (k : CapKind) (v : ProcessValue) → ProcessHeld cut side v → ProcessHeld cut side (readied_process k v)
  held-readied k v held = record { capregs = held.capregs; slots = held.slots }

  -- a process is made ready, under whatever schedule
  pub acts-readied : (w : System) (schedule : Capability) (p : ℕ) → side_of cut Process p ≡ side → HoldsFor cut side w
      → Acts cut side w (with_runs w (readied schedule p (runs_of w.store w.queues)))
  acts-readied w schedule p own holds =
      let same = sleepers-readied schedule.kind schedule.object w.queues p in
      let v = with_store w (with_process w.store p (readied_process schedule.kind (process_at w.store p))) in
      acts-then cut side w v (with_runs w (readied schedule p (runs_of w.store w.queues)))
      (acts-process cut side w p (readied_process schedule.kind (process_at w.store p)) own (held-readied schedule.kind (process_at w.store p) (held-process cut side w p own holds)) holds)
      (λ h. acts-queues cut side v (readied_queues schedule.kind schedule.object w.queues p)
      (λ on x there. inl (asleep-same w.queues (readied_queues schedule.kind schedule.object w.queues p) same on x there))
      (λ on other. ap (λ (xs : List (List ℕ)). others_in cut side (get_or xs on [])) (sym same)) (places-readied cut side schedule.kind schedule.object w.queues p own) (ap (λ (xs : List (List ℕ)). length xs) (sym same)) h)

  readied-idle : (k : CapKind) (pc : ℕ) → is_receiving (readied_state k pc) ≡ false
  readied-idle Schedule pc = refl
  readied-idle _ pc = refl

  -- and so is one that isn't of this side, where it may be
  pub moves-readied : (base w : System) (schedule : Capability) (p : ℕ) → side_of cut Process p ≢ side → Met cut side base p → HoldsFor cut side w
      → Moves cut side base w (with_runs w (readied schedule p (runs_of w.store w.queues)))
  moves-readied base w schedule p other met holds =
      let value = readied_process schedule.kind (process_at w.store p) in
      let same = sleepers-readied schedule.kind schedule.object w.queues p in
      let harts = harts-readied schedule.kind schedule.object w.queues p in
      let v = with_store w (with_process w.store p value) in
      moves-then cut side base w v (with_runs w (readied schedule p (runs_of w.store w.queues)))
      (moves-process cut side base w p value other (record { pc = refl; slots = refl; capregs = inl refl; given = λ i. inl refl; regs = inl refl; state = inr (readied-idle schedule.kind (process_at w.store p).pc, met) }) holds)
      (λ h. moves-queues cut side base v (readied_queues schedule.kind schedule.object w.queues p)
      (λ on x there. inl (asleep-same w.queues (readied_queues schedule.kind schedule.object w.queues p) same on x there))
      (λ on away. ap (λ (xs : List (List ℕ)). others_in cut side (get_or xs on [])) (sym same)) (ready-readied cut side base schedule.kind schedule.object w.queues p other met)
      (λ h. ap (λ (hs : List (Option ℕ)). other_on cut side (get_or hs h None)) (sym harts)) (ap (λ (hs : List (Option ℕ)). length hs) (sym harts)) (ap (λ (xs : List (List ℕ)). length xs) (sym same)) h)

  -- each of these is of this side, or may be made ready
  abbrev pub AllWake : System → List ℕ → Type 0
  AllWake base [] = Unit {0}
  AllWake base (p ∷ ps) = ((side_of cut Process p ≡ side) ⊎ ((side_of cut Process p ≢ side) × Met cut side base p)) × AllWake base ps

  -- several are, one after the other
  pub acts-readied_all : (base w : System) (f : ℕ → Capability) (ps : List ℕ) → AllWake base ps → Acts cut side base w
      → Acts cut side base (with_runs w (readied_all f ps (runs_of w.store w.queues)))
  unfolding readied_all
  acts-readied_all base w f [] all first = first
  acts-readied_all base w f (p ∷ ps) all first =
      let v = with_runs w (readied (f p) p (runs_of w.store w.queues)) in
      acts-readied_all base v f ps all.1 (elim all.0 [
        | inl own ↦ acts-then cut side base w v first (λ h. acts-readied w (f p) p own h)
        | inr other ↦ moves-then cut side base base w v first (λ h. moves-readied base w (f p) p other.0 other.1 h)
      ])

  -- all that sleep on a process of this side are such
  all-wake : (w : System) (on : ℕ) → side_of cut Process on ≡ side → (ps : List ℕ) → ((x : ℕ) → stands_in ps x ≡ true → stands_in (sleepers_of w.queues on) x ≡ true) → AllWake w ps
  all-wake w on own [] there = tt
  all-wake w on own (p ∷ ps) there = (
    by (same_side (side_of cut Process p) side) refl,
    all-wake w on own ps (λ x later. there x (or_right (p == x) (stands_in ps x) later)),
  )
    where
      by : (b : Bool) → same_side (side_of cut Process p) side ≡ b → (side_of cut Process p ≡ side) ⊎ ((side_of cut Process p ≢ side) × Met cut side w p)
      by true e = inl (same_side-tells _ _ e)
      by false e = let other = same_side-not _ _ e in
          inr (other, inr (record { other = other; on = on; own = own; sleeps = there p (or_left (p == p) (stands_in ps p) (eq-eqb p p refl)) }))

  -- those who sleep on a process are woken
  pub acts-woken : (w : System) (f : ℕ → Capability) (on : ℕ) → side_of cut Process on ≡ side → HoldsFor cut side w
      → Acts cut side w (with_runs w (woken f on (runs_of w.store w.queues)))
  acts-woken w f on own holds =
      let v = system w.store (unslept w.queues on) in
      acts-readied_all w v f (sleepers_of w.queues on) (all-wake w on own (sleepers_of w.queues on) (λ x there. there))
      (acts-queues cut side w (unslept w.queues on) (λ at x there. inl (asleep-unslept w.queues on at x there))
      (λ n other. ap (others_in cut side) (sym (get_or-set_other w.queues.sleepers on n [] [] (λ same. other (ap (λ m. side_of cut Process m) same ∙ own)))))
      (record { ready = λ k. refl; harts = λ h. refl; size = refl }) (sym (length-set w.queues.sleepers on [])) holds)

  -- a process leaves its place
  pub acts-left : (w : System) (p : ℕ) → side_of cut Process p ≡ side → HoldsFor cut side w → Acts cut side w (system w.store (left w.queues p))
  acts-left w p own holds =
      acts-queues cut side w (left w.queues p) (λ on x there. inl (asleep-left w.queues p on x there))
      (λ on other. others-without cut side p (sleepers_of w.queues on) own ∙ ap (others_in cut side) (sym (get_or-map (without p) w.queues.sleepers on [])))
      (places-left cut side w.queues p own) (sym (length-map_lists (without p) w.queues.sleepers)) holds

  -- a process of this side sleeps on one on which it may
  pub acts-asleep : (w : System) (p on : ℕ) → side_of cut Process p ≡ side → MaySleep cut p on → HoldsFor cut side w → Acts cut side w (system w.store (asleep w.queues p on))
  acts-asleep w p on own may holds =
      acts-queues cut side w (asleep w.queues p on)
      (λ at x there. elim (asleep-asleep w.queues p on at x there) [
        | inl before ↦ inl before
        | inr last ↦ inr (subst (λ (n : ℕ). side_of cut Process n ≡ side) last.0 own, subst (λ (n : ℕ). MaySleep cut n at) last.0 (subst (λ (n : ℕ). MaySleep cut p n) last.1 may))
      ])
      (λ at other. each_set (λ n (xs : List ℕ). others_in cut side (sleepers_of w.queues n) ≡ others_in cut side xs) w.queues.sleepers on (sleepers_of w.queues on ++ p ∷ []) []
      (others-last cut side p (sleepers_of w.queues on) own) (λ n. refl) at)
      (record { ready = λ k. refl; harts = λ h. refl; size = refl }) (sym (length-set w.queues.sleepers on (sleepers_of w.queues on ++ p ∷ []))) holds
