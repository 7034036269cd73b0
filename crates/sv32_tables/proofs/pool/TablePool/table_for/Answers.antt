use Rattle.std.proofs.Common.{◌≡◌, ℕ, ◌/◌, List, [], ◌∷◌, ◌++◌, rules, true, Some, refl, ap, sym, ◌∙◌, subst, arith}
use Rattle.std.specs.Prelude.{slice_get, ◌↔◌}
use Rattle.std.proofs.lemmas.Bool.{false≢true}
use Rattle.sv32_tables.specs.declared.frame_use.FrameUse.{FrameUse}
use Rattle.sv32_tables.specs.declared.frame_use.FrameUse.TheVariants.{Root, Region}
use Rattle.sv32_tables.specs.declared.shared_use.SharedUse.{SharedUse}
use Rattle.sv32_tables.specs.declared.shared_use.SharedUse.TheVariants.{Root as SharedRoot, Leaf}
use Rattle.sv32_tables.specs.Pool.{IsPlace, IsRoot, LacksFrame, PoolValue, has_region, leaf_at, pool_of, with_region}
use Rattle.sv32_tables.proofs.Owned.{as_many, leaf_at-table, owners-table, root_there}
use Rattle.sv32_tables.proofs.Regions.{has_region-frame, has_region-none, roots-with_region}
use Rattle.sv32_tables.proofs.Choices.{if-false, if-true}
use Rattle.sv32_tables.proofs.Uses.{slice_get-more, slice_get-push_new}
use Rattle.sv32_tables.proofs.pool.TablePool.table_for.Goals as goal

pub returns-in-Some-clause-uses : goal.returns-in-Some-clause-uses
returns-in-Some-clause-uses c =
    let region = c.args.va / 4096 / 1024 in
    let Made : PoolValue → Type 0 = λ v. IsRoot v c.args.root in
    let made = subst Made (sym c.self.view_is) c.requires in
    let Has : PoolValue → Type 0 = λ v. has_region v c.args.root region ≡ true in
    let led = c.self.invariant.owned.first c.args.root region c.in-Some.table made (omega arith) (sym c.in-Some.ensures) in
    sym (if-true _ _ _ (subst Has c.self.view_is (has_region-frame c.self.inside.tables.words _ _ _ c.in-Some.table led)))

pub returns-in-Some-clause-full : goal.returns-in-Some-clause-full
returns-in-Some-clause-full c =
    let region = c.args.va / 4096 / 1024 in
    let Made : PoolValue → Type 0 = λ v. IsRoot v c.args.root in
    let made = subst Made (sym c.self.view_is) c.requires in
    let Has : PoolValue → Type 0 = λ v. has_region v c.args.root region ≡ true in
    let led = c.self.invariant.owned.first c.args.root region c.in-Some.table made (omega arith) (sym c.in-Some.ensures) in
    let has = subst Has c.self.view_is (has_region-frame c.self.inside.tables.words _ _ _ c.in-Some.table led) in
    (λ e. absurd (false≢true e), λ h. sym h.needed ∙ has)

pub returns-in_err-table-clause-full : goal.returns-in_err-table-clause-full
returns-in_err-table-clause-full c =
    let region = c.args.va / 4096 / 1024 in
    let Lacks : PoolValue → Type 0 = λ v. LacksFrame v c.args.root region in
    let full = sym (as_many _ c.self.inside.uses.items c.self.invariant) ∙ c.in_err-table.ensures.full.0 refl in
    let none = has_region-none _ c.self.inside.uses.items c.args.root region c.self.invariant.owned (sym c.in_default.ensures) in
    let lacks = subst Lacks c.self.view_is (record { full = full; needed = none }) in
    (λ _. lacks, λ _. search rules)

pub link-requires-clause-root : goal.link-requires-clause-root
link-requires-clause-root c =
    let Made : PoolValue → Type 0 = λ v. IsRoot v c.args.root in
    let made = subst Made (sym c.self.view_is) c.requires in
    ap (λ (us : List SharedUse). slice_get us c.args.root) c.in_ok-table.ensures.leaf.uses
    ∙ slice_get-more c.self.inside.tables.uses Leaf c.args.root SharedRoot (root_there _ _ c.self.invariant c.args.root made)

pub link-requires-clause-leaf : goal.link-requires-clause-leaf
link-requires-clause-leaf c =
    let makes = c.in_ok-table.ensures.leaf in
    ap (λ (us : List SharedUse). slice_get us c.in_ok-table.table) makes.uses
    ∙ (ap (λ (n : ℕ). slice_get (c.self.inside.tables.uses ++ Leaf ∷ []) n) makes.number ∙ slice_get-push_new c.self.inside.tables.uses Leaf)

pub push-requires : goal.push-requires
push-requires c = (omega arith, omega (arith, as_many _ c.self.inside.uses.items c.self.invariant, c.in_ok-table.ensures.leaf.number, c.in_ok-table.ensures.range))

pub invariant_of-self-2 : goal.invariant_of-self-2
invariant_of-self-2 c =
    let Made : PoolValue → Type 0 = λ v. IsRoot v c.args.root in
    let made = subst Made (sym c.self.view_is) c.requires in
    rw c.push.ensures.items
    (owners-table _ _ c.self.invariant _ _ c.args.root (c.args.va / 4096 / 1024) c.in_ok-table.table c.in_ok-table.ensures.leaf c.link.ensures made (omega arith) (sym c.in_default.ensures))

pub returns-clause-leaves : goal.returns-clause-leaves
returns-clause-leaves c =
    let Made : PoolValue → Type 0 = λ v. IsRoot v c.args.root in
    let made = subst Made (sym c.self.view_is) c.requires in
    let Kept : PoolValue → Type 0 = λ v. (r page : ℕ) → IsPlace v r page → leaf_at (pool_of c.link.new.self.words c.push.new.self.items) r page ≡ leaf_at v r page in
    subst Kept c.self.view_is
    (λ r page place.
    leaf_at-table _ _ c.self.invariant _ _ c.args.root (c.args.va / 4096 / 1024) c.in_ok-table.table c.in_ok-table.ensures.leaf c.link.ensures made (omega arith) (sym c.in_default.ensures) r page place.made place.inside)

pub returns-clause-uses : goal.returns-clause-uses
returns-clause-uses c =
    let region = c.args.va / 4096 / 1024 in
    let Grown : PoolValue → Type 0 = λ v. c.push.new.self.items ≡ with_region v c.args.root region in
    let none = has_region-none c.self.inside.tables.words c.self.inside.uses.items c.args.root region c.self.invariant.owned (sym c.in_default.ensures) in
    subst Grown c.self.view_is (c.push.ensures.items ∙ sym (if-false _ _ _ none))

pub returns-clause-roots : goal.returns-clause-roots
returns-clause-roots c =
    let region = c.args.va / 4096 / 1024 in
    let Grown : PoolValue → Type 0 = λ v. c.push.new.self.items ≡ with_region v c.args.root region in
    let none = has_region-none c.self.inside.tables.words c.self.inside.uses.items c.args.root region c.self.invariant.owned (sym c.in_default.ensures) in
    let grown = subst Grown c.self.view_is (c.push.ensures.items ∙ sym (if-false _ _ _ none)) in
    λ r. subst (λ (us : List FrameUse). (slice_get us r ≡ Some Root) ↔ IsRoot c.args.self.now r) (sym grown) (roots-with_region c.args.self.now c.args.root region r)

pub returns-clause-table : goal.returns-clause-table
returns-clause-table c =
    let uses = c.self.inside.uses.items in
    let last = c.in_ok-table.ensures.leaf.number ∙ as_many _ uses c.self.invariant in
    rw (c.push.ensures.items, last) (slice_get-push_new uses (Region c.args.root (c.args.va / 4096 / 1024)))
