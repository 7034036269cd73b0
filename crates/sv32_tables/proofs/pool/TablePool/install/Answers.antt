use Rattle.std.proofs.Common.{◌≡◌, ◌/◌, ◌%◌, ◌==◌, ◌&&◌, if◌then◌else◌, Bool, Option, Some, ap, sym, ◌∙◌, subst}
use Rattle.std.specs.Prelude.{slice_get}
use Rattle.sv32_tables.specs.declared.leaf.Leaf.{Leaf}
use Rattle.sv32_tables.specs.declared.frame_use.FrameUse.TheVariants.{Region}
use Rattle.sv32_tables.specs.Pool.{IsRoot, PoolValue, leaf_at}
use Rattle.sv32_tables.proofs.Choices.{page_test}
use Rattle.sv32_tables.proofs.Owned.{leaf_at-entries, owners-entries}
use Rattle.sv32_tables.proofs.pool.TablePool.install.Goals as goal

pub invariant_of-self : goal.invariant_of-self
invariant_of-self c =
    let page = c.args.va / 4096 in
    let Under : PoolValue → Type 0 = λ v. slice_get v.uses c.in_ok-table.table ≡ Some (Region c.args.root (page / 1024)) in
    let under = subst Under (sym c.self.view_is) c.in_ok-table.ensures.table in
    owners-entries _ _ c.self.invariant _ c.args.root (page / 1024) c.in_ok-table.table (λ i. i == page % 1024) (Some c.args.leaf) under c.set.ensures.entries c.set.ensures.links c.set.ensures.uses

pub returns-clause-leaf : goal.returns-clause-leaf
returns-clause-leaf c =
    let page = c.args.va / 4096 in
    let Under : PoolValue → Type 0 = λ v. slice_get v.uses c.in_ok-table.table ≡ Some (Region c.args.root (page / 1024)) in
    let under = subst Under (sym c.self.view_is) c.in_ok-table.ensures.table in
    λ r p place.
    let Made : PoolValue → Type 0 = λ v. IsRoot v r in
    let made = subst Made (sym c.self.view_is) ((c.in_ok-table.ensures.roots r).1 place.made) in
    let kept = ap (λ (v : PoolValue). leaf_at v r p) c.self.view_is ∙ c.in_ok-table.ensures.leaves r p place in
    leaf_at-entries _ _ c.self.invariant c.set.new.self c.args.root (page / 1024) c.in_ok-table.table (λ i. i == page % 1024) (Some c.args.leaf) under c.set.ensures.entries c.set.ensures.links r p made place.inside
    ∙ (ap (λ (b : Bool). if (r == c.args.root) && b then Some c.args.leaf else leaf_at (record { words = c.self.inside.tables.words; uses = c.self.inside.uses.items }) r p) (page_test p page)
    ∙ ap (λ (old : Option Leaf). if (r == c.args.root) && (p == page) then Some c.args.leaf else old) kept)
