use Rattle.std.proofs.Common.{◌∙◌, ℕ, ◌+◌, ◌*◌, ◌||◌, not, is_some, sym, ap, subst, arith}
use Rattle.cap_format.specs.declared.kind.CapKind.TheVariants.{Gpt}
use Rattle.object_store.specs.Store.{Store, size_of}
use Rattle.object_store.specs.Meaning.{state_map}
use Rattle.schedules.specs.Queues.{hart_of}
use Rattle.map_cache.specs.Cache.{CacheValue}
use Rattle.machine_state.specs.Machine.{MachineValue}
use Rattle.machine_state.specs.State.{state_of}
use Rattle.quiet_finding.specs.Reaching.{IsReaching, ReachingValue}
use Rattle.quiet_finding.specs.Watched.{watch_of}
use Rattle.quiet_finding.proofs.Walking.{none-kept}
use Rattle.state_choices.proofs.Quiet.{idle-not_quiet, none-led, went-none}
use Rattle.state_choices.proofs.choosing.go_on.Goals as goal

pub returns-then-is_idle-clause-count : goal.returns-then-is_idle-clause-count
returns-then-is_idle-clause-count g c =
    let w = watch_of c.args.watched.now in
    let idle = ap (λ (m : MachineValue CacheValue). m.halted || not (is_some (hart_of m.queues c.args.hart))) (sym c.machine-machine.ensures.value) ∙ sym c.is_idle.ensures ∙ c.if-is_idle.true in
    went-none w c.args.hart (state_of c.args.states.now.machine) (idle-not_quiet w c.args.hart (state_of c.args.states.now.machine) idle)

pub returns-then-is_idle-clause-state : goal.returns-then-is_idle-clause-state
returns-then-is_idle-clause-state g c = none-led (watch_of c.args.watched.now) c.args.hart (state_of c.args.states.now.machine)

pub perform_quiet-steps-requires-clause-reaching : goal.perform_quiet-steps-requires-clause-reaching
perform_quiet-steps-requires-clause-reaching g c =
    subst (λ (r : ReachingValue). IsReaching (state_of c.args.states.now.machine).store r) (sym c.reaching.ensures)
    (subst (λ (s : Store). IsReaching (state_map s) c.in_ok-kept.kept.reaching)
    (c.objects.ensures ∙ ap (λ (m : MachineValue CacheValue). m.objects) c.machine-machine.ensures.value) c.in_ok-kept.ensures.reaching)

pub perform_quiet-steps-requires-clause-walks : goal.perform_quiet-steps-requires-clause-walks
perform_quiet-steps-requires-clause-walks g c =
    none-kept (state_of c.args.states.now.machine) c.args.hart c.forget.new.self c.forget.ensures.fetch c.forget.ensures.load c.forget.ensures.store

pub returns-in_err-kept-clause-most : goal.returns-in_err-kept-clause-most
returns-in_err-kept-clause-most g c =
    let kept = c.kept_of.ensures.most in
    let Reads : Store → ℕ = λ o. 16 * size_of o.items Gpt + 16 * size_of o.items Gpt * (size_of o.items Gpt + 3) in
    let same = ap Reads (c.objects.ensures ∙ ap (λ (m : MachineValue CacheValue). m.objects) c.machine-machine.ensures.value) in
    omega (arith, kept, same)

pub returns-clause-most : goal.returns-clause-most
returns-clause-most g c =
    let kept = c.kept_of.ensures.most in
    let Reads : Store → ℕ = λ o. 16 * size_of o.items Gpt + 16 * size_of o.items Gpt * (size_of o.items Gpt + 3) in
    let same = ap Reads (c.objects.ensures ∙ ap (λ (m : MachineValue CacheValue). m.objects) c.machine-machine.ensures.value) in
    let reads = c.perform_quiet-steps.ensures.most in
    omega (arith, kept, same, reads)
