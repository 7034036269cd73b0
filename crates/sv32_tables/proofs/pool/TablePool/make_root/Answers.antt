use Rattle.std.proofs.Common.{ℕ, List, [], ◌∷◌, ◌++◌, ◌/◌, ◌%◌, ap, ◌∙◌, subst, arith}
use Rattle.std.specs.Prelude.{slice_get}
use Rattle.sv32_tables.specs.declared.frame_use.FrameUse.{FrameUse}
use Rattle.sv32_tables.specs.declared.frame_use.FrameUse.TheVariants.{Root}
use Rattle.sv32_tables.specs.Pool.{PoolValue, leaf_below, pool_of}
use Rattle.sv32_tables.specs.History.{MakesRoot}
use Rattle.sv32_tables.proofs.Owned.{as_many, owners-root}
use Rattle.sv32_tables.proofs.Uses.{slice_get-push_new}
use Rattle.sv32_tables.proofs.pool.TablePool.make_root.Goals as goal

pub push-requires : goal.push-requires
push-requires c = (omega arith, omega (arith, as_many _ c.self.inside.uses.items c.self.invariant, c.in_ok-root.ensures.root.number, c.in_ok-root.ensures.range))

pub invariant_of-self-2 : goal.invariant_of-self-2
invariant_of-self-2 c = rw c.push.ensures.items (owners-root _ _ c.self.invariant _ c.in_ok-root.root c.in_ok-root.ensures.root)

pub returns-clause-root : goal.returns-clause-root
returns-clause-root c =
    let uses = c.self.inside.uses.items in
    let makes = c.in_ok-root.ensures.root in
    let number = makes.number ∙ as_many _ uses c.self.invariant in
    let Makes : PoolValue → Type 0 = λ v. MakesRoot v (pool_of c.make_root.new.self.words c.push.new.self.items) c.in_ok-root.root in
    subst Makes c.self.view_is
    (record {
      number = number;
      made = ap (λ (us : List FrameUse). slice_get us c.in_ok-root.root) c.push.ensures.items ∙ (ap (λ (n : ℕ). slice_get (uses ++ Root ∷ []) n) number ∙ slice_get-push_new uses Root);
      uses = c.push.ensures.items;
      words = makes.words;
      bare = λ page inside. ap (λ l. leaf_below c.make_root.new.self.words (page % 1024) l) (makes.bare_root (page / 1024) (omega (arith, inside)));
    })
