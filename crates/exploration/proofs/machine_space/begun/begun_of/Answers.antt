use Rattle.std.proofs.Common.{◌∙◌, ap, arith}
use Rattle.map_cache.specs.Cache.{CacheValue}
use Rattle.object_store.specs.declared.sizes.Sizes.{Sizes}
use Rattle.machine_state.specs.Machine.{MachineValue}
use Rattle.machine_state.specs.State.{state_of}
use Rattle.exploration.proofs.machine_space.begun.begun_of.Goals as goal

pub returns-clause-means : goal.returns-clause-means
returns-clause-means g c = c.in_ok-start.ensures.means ∙ ap (λ (m : MachineValue CacheValue). state_of m) c.in_ok-states.ensures.machine

-- ---- how many slots are read

pub returns-in_err-states-clause-most : goal.returns-in_err-states-clause-most
returns-in_err-states-clause-most g c = let made = c.new.ensures.most in omega (arith, made)

pub returns-in_err-start-clause-most : goal.returns-in_err-start-clause-most
returns-in_err-start-clause-most g c =
    let made = c.new.ensures.most in
    let looked = c.key.ensures.most in
    let sizes = ap (λ (z : Sizes). z.gpts) c.in_ok-states.ensures.sizes in
    omega (arith, made, looked, sizes)

pub returns-clause-most : goal.returns-clause-most
returns-clause-most g c =
    let made = c.new.ensures.most in
    let looked = c.key.ensures.most in
    let sizes = ap (λ (z : Sizes). z.gpts) c.in_ok-states.ensures.sizes in
    omega (arith, made, looked, sizes)
