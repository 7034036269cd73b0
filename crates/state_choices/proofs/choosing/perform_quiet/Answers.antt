use Rattle.std.proofs.Common.{◌≡◌, ◌∙◌, ℕ, refl, sym, ap, subst, arith}
use Rattle.object_store.specs.declared.sizes.Sizes.{Sizes}
use Rattle.map_cache.specs.Cache.{CacheValue}
use Rattle.machine_state.specs.Machine.{MachineValue}
use Rattle.machine_state.specs.State.{state_of}
use Rattle.quiet_runs.specs.Finding.{is_quiet}
use Rattle.quiet_finding.specs.Reaching.{IsReaching}
use Rattle.quiet_finding.specs.Walks.{AreKeptOn}
use Rattle.quiet_finding.specs.Watched.{watch_of}
use Rattle.state_parts.specs.Space.{TablesValue}
use Rattle.state_choices.specs.Steps.{after_steps}
use Rattle.state_choices.proofs.Quiet.{gone-all, gone-more, gone-none, gone-quiet, gone-state, stays_after, walks_after}
use Rattle.state_choices.proofs.Slots.{looks_slots-next}
use Rattle.state_choices.proofs.choosing.perform_quiet.Goals as goal

pub quiet-init : goal.quiet-init
quiet-init g c = record {
  tables = refl;
  reaching = c.requires.reaching;
  walks = c.requires.walks;
  gone = gone-none (watch_of c.args.watched.now) c.args.hart 4096 (state_of c.args.states.now.machine);
  least = omega arith;
  slots = omega arith;
}

pub is_quiet-requires-clause-hart : goal.is_quiet-requires-clause-hart
is_quiet-requires-clause-hart g c =
    let here = ap (λ (m : MachineValue CacheValue). m.objects.harts) c.machine.ensures.value in
    let sizes = ap (λ (z : Sizes). z.harts) c.machine.ensures.sizes in
    let same = ap (λ (t : TablesValue). t.sizes.harts) c.quiet.invariant.tables in
    omega (arith, here, sizes, same, c.requires.hart)

pub is_quiet-requires-clause-reaching : goal.is_quiet-requires-clause-reaching
is_quiet-requires-clause-reaching g c =
    subst (λ (m : MachineValue CacheValue). IsReaching (state_of m).store c.args.reaching.now) (sym c.machine.ensures.value) c.quiet.invariant.reaching

pub is_quiet-requires-clause-walks : goal.is_quiet-requires-clause-walks
is_quiet-requires-clause-walks g c =
    subst (λ (m : MachineValue CacheValue). AreKeptOn (state_of m) c.args.hart c.quiet.walks) (sym c.machine.ensures.value) c.quiet.invariant.walks

pub returns-then-not-is_quiet-clause-count : goal.returns-then-not-is_quiet-clause-count
returns-then-not-is_quiet-clause-count g c =
    let w = watch_of c.args.watched.now in
    let next = ap (λ (m : MachineValue CacheValue). is_quiet w (state_of m) c.args.hart) (sym c.machine.ensures.value) ∙ sym c.is_quiet.ensures.value ∙ c.if-not-is_quiet.true in
    gone-quiet w c.args.hart 4096 (state_of c.args.states.now.machine) (state_of c.quiet.states.machine) c.quiet.performed c.quiet.invariant.gone next

pub returns-then-not-is_quiet-clause-tables : goal.returns-then-not-is_quiet-clause-tables
returns-then-not-is_quiet-clause-tables g c = c.quiet.invariant.tables

pub returns-then-not-is_quiet-clause-state : goal.returns-then-not-is_quiet-clause-state
returns-then-not-is_quiet-clause-state g c =
    gone-state (watch_of c.args.watched.now) c.args.hart 4096 (state_of c.args.states.now.machine) (state_of c.quiet.states.machine) c.quiet.performed c.quiet.invariant.gone

pub perform-requires : goal.perform-requires
perform-requires g c =
    let same = ap (λ (t : TablesValue). t.sizes.harts) c.quiet.invariant.tables in
    omega (arith, same, c.requires.hart)

pub returns-in_err-perform-clause-tables : goal.returns-in_err-perform-clause-tables
returns-in_err-perform-clause-tables g c = c.perform.ensures.tables ∙ c.quiet.invariant.tables

pub quiet-preserved : goal.quiet-preserved
quiet-preserved g c =
    let w = watch_of c.args.watched.now in
    let s = state_of c.quiet.states.machine in
    let t = state_of c.perform.new.self.machine in
    let next = ap (λ (m : MachineValue CacheValue). is_quiet w (state_of m) c.args.hart) (sym c.machine.ensures.value) ∙ sym c.is_quiet.ensures.value ∙ c.if-not-is_quiet.false in
    let slots = looks_slots-next w c.args.hart 4096 c.quiet.performed s t c.quiet-test.true next c.in_ok-perform.ensures.state in
    let looked = c.is_quiet.ensures.most in
    let looks = c.is_quiet.ensures.least in
    let read = c.perform.ensures.most in
    let reads = c.perform.ensures.least in
    let first = c.quiet.invariant.least in
    let before = c.quiet.invariant.slots in
    record {
      tables = c.perform.ensures.tables ∙ c.quiet.invariant.tables;
      reaching = stays_after w c.args.hart c.held_law.ensures s t c.args.reaching.now next c.in_ok-perform.ensures.state c.quiet.invariant.reaching;
      walks = walks_after w c.args.hart c.held_law.ensures s t c.is_quiet.new.walks next c.in_ok-perform.ensures.state
          (subst (λ (m : MachineValue CacheValue). AreKeptOn (state_of m) c.args.hart c.is_quiet.new.walks) c.machine.ensures.value c.is_quiet.ensures.walks);
      gone =
          gone-more w c.args.hart 4096 (state_of c.args.states.now.machine) s t c.quiet.performed c.quiet.invariant.gone c.quiet-test.true next
          c.in_ok-perform.ensures.state;
      least = omega (arith, looks, reads, first);
      slots = omega (arith, looked, read, before, slots);
    }

pub returns-clause-tables : goal.returns-clause-tables
returns-clause-tables g c = c.quiet.invariant.tables

pub returns-clause-count : goal.returns-clause-count
returns-clause-count g c =
    let end : c.quiet.performed ≡ 4096 = omega arith in
    gone-all (watch_of c.args.watched.now) c.args.hart 4096 (state_of c.args.states.now.machine) (state_of c.quiet.states.machine) c.quiet.performed c.quiet.invariant.gone end

pub returns-clause-state : goal.returns-clause-state
returns-clause-state g c =
    let end : c.quiet.performed ≡ 4096 = omega arith in
    gone-state (watch_of c.args.watched.now) c.args.hart 4096 (state_of c.args.states.now.machine) (state_of c.quiet.states.machine) c.quiet.performed c.quiet.invariant.gone
    ∙ ap (λ (n : ℕ). after_steps c.args.hart n (state_of c.args.states.now.machine)) end

pub returns-then-not-is_quiet-clause-most : goal.returns-then-not-is_quiet-clause-most
returns-then-not-is_quiet-clause-most g c =
    let looked = c.is_quiet.ensures.most in
    let before = c.quiet.invariant.slots in
    omega (arith, looked, before)

pub returns-in_err-perform-clause-most : goal.returns-in_err-perform-clause-most
returns-in_err-perform-clause-most g c =
    let w = watch_of c.args.watched.now in
    let s = state_of c.quiet.states.machine in
    let next = ap (λ (m : MachineValue CacheValue). is_quiet w (state_of m) c.args.hart) (sym c.machine.ensures.value) ∙ sym c.is_quiet.ensures.value ∙ c.if-not-is_quiet.false in
    let slots = looks_slots-next w c.args.hart 4096 c.quiet.performed s _ c.quiet-test.true next refl in
    let looked = c.is_quiet.ensures.most in
    let read = c.perform.ensures.most in
    let before = c.quiet.invariant.slots in
    omega (arith, looked, read, before, slots)

pub returns-clause-most : goal.returns-clause-most
returns-clause-most g c = let before = c.quiet.invariant.slots in omega (arith, before)
