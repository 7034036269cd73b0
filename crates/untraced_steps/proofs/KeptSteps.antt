-- Steps whose accesses are all kept: what they leave as it is, and what comes of one.
use Rattle.std.proofs.Common.{◌≡◌, ◌<◌, ◌/◌, ◌%◌, ℕ, Bool, true, false, if◌then◌else◌, Some, Result, Ok, Err, refl, sym, ap, ◌∙◌, subst, arith}
use Rattle.std.proofs.lemmas.Bool.{true≢false}
use Rattle.cap_format.specs.Capability.{Capability, IsCapability}
use Rattle.cap_format.specs.declared.item.Item.{Item}
use Rattle.cap_format.specs.declared.kind.CapKind.TheVariants.{Page}
use Rattle.object_store.specs.Store.{Items, size_of}
use Rattle.object_store.specs.Ranges.{IsRanged}
use Rattle.walk_meaning.specs.declared.kind.Kind.{Kind}
use Rattle.walk_meaning.specs.declared.kind.Kind.TheVariants.{Fetch}
use Rattle.walk_meaning.specs.declared.place.Place.{Place}
use Rattle.walk_meaning.specs.declared.place.WalkFault.{WalkFault}
use Rattle.walk_meaning.specs.Walk.{access}
use Rattle.walk_meaning.specs.Laws.{PageLaw, WalkedAlike}
use Rattle.walk_engine.specs.declared.hit.Hit.{Hit}
use Rattle.walk_engine.specs.Answer.{hit_of}
use Rattle.kept_pages.specs.Found.{CostsNothing, IsReached}
use Rattle.rv32_decode.specs.declared.insn.Insn.{Insn}
use Rattle.rv32_decode.specs.Table.{insn_at}
use Rattle.schedules.specs.Queues.{hart_of, dispatched_by}
use Rattle.machine_state.specs.declared.event.Event.TheVariants.{Step}
use Rattle.machine_state.specs.Machine.{MachineValue}
use Rattle.machine_state.specs.State.{State, state_of, pc_of, space_of}
use Rattle.machine_state.specs.Setters.{set_queues}
use Rattle.machine_state.specs.declared.record.Record.TheVariants.{Insn as InsnRead}
use Rattle.machine_state.specs.DataAccess.{data_access, data_touch, reached, number_at}
use Rattle.machine_state.specs.Outcome.{Outcome, process_name, done, recorded, touched, changing, spent, kept_after}
use Rattle.machine_state.specs.Noted.{untraced}
use Rattle.kernel_core.specs.Event.{event_of, event_by, instruction, stepped, fetched_from, decoded_to}
use Rattle.kernel_core.specs.Instruction.{perform}
use Rattle.untraced_steps.specs.KeptSteps.{CameIf, IsAlike, IsCode}

-- ---- what comes of a step

-- a step of a hart that has a process is an instruction of that process
step_is : (s : State) (hart p : ℕ) → s.halted ≡ false → hart_of s.queues hart ≡ Some p → event_of s (Step hart) ≡ instruction s p
unfolding event_by
step_is s hart p running here =
    let stays : dispatched_by s.queues hart (hart_of s.queues hart) ≡ s.queues = ap (dispatched_by s.queues hart) here in
    ap (λ (b : Bool). if b then done s else event_by s (Step hart)) running
    ∙ ap (λ q. stepped (set_queues s q) (hart_of q hart)) stays
    ∙ ap (stepped s) here

-- what comes of an instruction whose fetch ended at this place
begun : State → ℕ → Hit → Insn → Outcome
begun s p hit insn =
    changing (process_name p)
    (touched (data_touch s p (pc_of s p) Fetch)
    (recorded (reached p Fetch (pc_of s p) hit) (recorded (InsnRead p (pc_of s p) insn) (perform s p insn))))

instruction_is : (s : State) (p : ℕ) (hit : Hit) (insn : Insn) → data_access s p (pc_of s p) Fetch ≡ Ok hit → insn_at (number_at s hit 4) ≡ Some insn → instruction s p ≡ begun s p hit insn
unfolding instruction begun
instruction_is s p hit insn reaches is =
    ap (λ answer. changing (process_name p) (touched (data_touch s p (pc_of s p) Fetch) (fetched_from s p answer))) reaches
    ∙ ap (λ decoded. changing (process_name p) (touched (data_touch s p (pc_of s p) Fetch) (recorded (reached p Fetch (pc_of s p) hit) (decoded_to s p decoded)))) is

module _ {T K : Type 0} (kept : T → K) (cost : K → Items → Capability → ℕ → Kind → ℕ) (after : K → Items → Capability → ℕ → Kind → K) (without : K → Item → K) where
  -- An instruction that was performed behind a fetch from a page of code that is kept. The machine `n` is the one that
  -- decoded it.
  pub came_step : (b : Bool) (hart p page frame : ℕ) (insn : Insn) (m n r : MachineValue T)
      → m.halted ≡ false → hart_of m.queues hart ≡ Some p
      → IsCode cost after (kept m.translator) (state_of m).store.items (space_of (state_of m) p) page frame
      → pc_of (state_of m) p / 4096 ≡ page
      → insn_at (number_at (state_of m) (record { page = frame; offset = pc_of (state_of m) p % 4096 }) 4) ≡ Some insn
      → state_of n ≡ state_of m → kept n.translator ≡ kept m.translator
      → CameIf kept cost after without b p (perform (state_of n) p insn) n r
      → CameIf kept cost after without b p (event_of (state_of m) (Step hart)) m r
  unfolding begun
  came_step false hart p page frame insn m n r running here code at is same keeps left =
      record { state = left.state ∙ same; keeps = left.keeps ∙ keeps }
  came_step true hart p page frame insn m n r running here code at is same keeps came =
      let s : State = state_of m in
      let k : K = kept m.translator in
      let pc : ℕ = pc_of s p in
      let o : Outcome = event_of s (Step hart) in
      let x : Outcome = perform s p insn in
      let begins : o ≡ begun s p (record { page = frame; offset = pc % 4096 }) insn = step_is s hart p running here ∙ instruction_is s p (record { page = frame; offset = pc % 4096 }) insn (code.reaches pc at) is in
      let alike : perform (state_of n) p insn ≡ x = ap (λ t. perform t p insn) same in
      let free : spent cost after without k x.touches ≡ 0 = ap (λ j. spent cost after without j x.touches) (sym keeps) ∙ ap (λ (y : Outcome). spent cost after without (kept n.translator) y.touches) (sym alike) ∙ came.free in
      let stays : kept_after cost after without k x.touches ≡ k = ap (λ j. kept_after cost after without j x.touches) (sym keeps) ∙ ap (λ (y : Outcome). kept_after cost after without (kept n.translator) y.touches) (sym alike) ∙ came.stays ∙ keeps in
      let none = code.free pc at in
      let before = code.stays pc at in
      let all = ap (λ (y : Outcome). spent cost after without k y.touches) begins in
      let rest = ap (λ j. spent cost after without j x.touches) before in
      record {
        state = came.state ∙ (ap (λ (y : Outcome). y.state) alike ∙ sym (ap (λ (y : Outcome). y.state) begins));
        records = ap (λ (y : Outcome). untraced y.records) begins ∙ (ap (λ (y : Outcome). untraced y.records) (sym alike) ∙ came.records);
        free = omega (arith, all, none, rest, free);
        stays =
            ap (λ (y : Outcome). kept_after cost after without k y.touches) begins
            ∙ (ap (λ j. kept_after cost after without j x.touches) before ∙ stays);
        keeps = came.keeps ∙ keeps;
        alike = subst (λ t. IsAlike p t (state_of r)) same came.alike;
      }

-- ---- a page of code that is found

-- whether an answer is a page, and which
is_hit : Result Hit WalkFault → Bool
is_hit (Ok hit) = true
is_hit (Err fault) = false

page_in : Result Hit WalkFault → ℕ
page_in (Ok hit) = hit.page
page_in (Err fault) = 0

-- where a hit comes of a walk, the walk reached that page
place_of : (answer : Result Place WalkFault) (hit : Hit) → Ok hit ≡ hit_of answer → (place : Place) × (answer ≡ Ok place) × (place.number ≡ hit.page)
unfolding page_in is_hit
place_of (Ok place) hit is = (place, refl, sym (ap page_in is))
place_of (Err fault) hit is = absurd (true≢false (ap is_hit is))

module _ {K C : Type 0} (cost : K → Items → Capability → ℕ → Kind → ℕ) (after : K → Items → Capability → ℕ → Kind → K)
    (spared : K → Items → Capability → ℕ → Kind → C → C) (finds : K → Items → Capability → ℕ → Kind → Bool)
    (paged : (k : K) (o : Items) (c : Capability) (a b : ℕ) (kind : Kind) → a / 4096 ≡ b / 4096 → IsReached o c b kind → finds k o c a kind ≡ true → finds k o c b kind ≡ true)
    (frees : (k : K) (o : Items) (c : Capability) (a : ℕ) (kind : Kind) → finds k o c a kind ≡ true → CostsNothing cost after spared k o c a kind) where
  -- the page of an address whose fetch is found
  pub code_found : PageLaw → (k : K) (o : Items) (c : Capability) (pc : ℕ) (hit : Hit) → IsRanged o → IsCapability c
      → finds k o c pc Fetch ≡ true → Ok hit ≡ hit_of (access o c pc Fetch) → hit.page < size_of o Page
      → IsCode cost after k o c (pc / 4096) hit.page
  code_found law k o c pc hit ranged is found answer there = record {
    there = there;
    reaches = λ a at. ap hit_of (alike a at).reached ∙ ap (λ n. Ok (record { page = n; offset = a % 4096 })) place.2;
    free = λ a at. (costs a at).free;
    stays = λ a at. (costs a at).stays;
  }
    where
      place : (place : Place) × (access o c pc Fetch ≡ Ok place) × (place.number ≡ hit.page)
      place = place_of (access o c pc Fetch) hit answer

      alike : (a : ℕ) → a / 4096 ≡ pc / 4096 → WalkedAlike o c pc a Fetch place.0
      alike a at = law o c pc a Fetch place.0 ranged is (sym at) place.1

      costs : (a : ℕ) → a / 4096 ≡ pc / 4096 → CostsNothing cost after spared k o c a Fetch
      costs a at = frees k o c a Fetch (paged k o c pc a Fetch (sym at) (record { place = _; reached = (alike a at).reached }) found)

-- a page of code stays one where what is kept, the items and the space are the same
pub code_after : {K : Type 0} (cost : K → Items → Capability → ℕ → Kind → ℕ) (after : K → Items → Capability → ℕ → Kind → K)
    (k j : K) (o q : Items) (c d : Capability) (page frame : ℕ)
    → j ≡ k → q ≡ o → d ≡ c → IsCode cost after k o c page frame → IsCode cost after j q d page frame
code_after cost after k j o q c d page frame kept items space code =
    subst (λ x. IsCode cost after x q d page frame) (sym kept)
    (subst (λ x. IsCode cost after k x d page frame) (sym items)
    (subst (λ x. IsCode cost after k o x page frame) (sym space) code))
