use Rattle.std.proofs.Common.{◌≡◌, ℕ, ◌-◌, ◌*◌, ◌/◌, ◌<◌, ◌==◌, List, ◌&&◌, nat_le, nat_lt, if◌then◌else◌, Bool, Some, None, ap, sym, ◌∙◌, subst, arith}
use Rattle.std.specs.Prelude.{slice_get}
use Rattle.sv32_tables.specs.declared.frame_use.FrameUse.{FrameUse}
use Rattle.sv32_tables.specs.declared.frame_use.FrameUse.TheVariants.{Root, Region}
use Rattle.sv32_tables.specs.Pool.{IsPlace, IsRoot, PoolValue, leaf_at, pool_of}
use Rattle.sv32_tables.specs.Shared.{SharedValue, link_at}
use Rattle.sv32_tables.specs.Owned.{HasOwners}
use Rattle.sv32_tables.proofs.Choices.{region_test}
use Rattle.sv32_tables.proofs.Owned.{leaf_at-entries, owners-entries, table_there}
use Rattle.sv32_tables.proofs.pool.TablePool.clear_region.Goals as goal

-- the table that is linked hangs under the region
led : (t : SharedValue) (uses : List FrameUse) → HasOwners t uses → (root region table start : ℕ) → slice_get uses root ≡ Some Root → region < 1024
    → start ≡ region → Some table ≡ link_at t root (start * 1024 * 4096 / 4096 / 1024) → slice_get uses table ≡ Some (Region root region)
led t uses has root region table start made inside is e =
    let same : start * 1024 * 4096 / 4096 / 1024 ≡ region = omega (arith, is) in
    has.owned.first root region table made inside (ap (λ (i : ℕ). link_at t root i) (sym same) ∙ sym e)

pub clear_places-requires-clause-leaf : goal.clear_places-requires-clause-leaf
clear_places-requires-clause-leaf c =
    let Made : PoolValue → Type 0 = λ v. IsRoot v c.args.root in
    let made = subst Made (sym c.self.view_is) c.requires.made in
    let there = led c.self.inside.tables c.self.inside.uses.items c.self.invariant c.args.root c.args.region c.in-Some.table _ made c.requires.inside c.from-start.ensures c.in-Some.ensures in
    table_there _ _ c.self.invariant c.in-Some.table c.args.root c.args.region there

pub invariant_of-self : goal.invariant_of-self
invariant_of-self c =
    let Made : PoolValue → Type 0 = λ v. IsRoot v c.args.root in
    let made = subst Made (sym c.self.view_is) c.requires.made in
    let there = led c.self.inside.tables c.self.inside.uses.items c.self.invariant c.args.root c.args.region c.in-Some.table _ made c.requires.inside c.from-start.ensures c.in-Some.ensures in
    owners-entries _ _ c.self.invariant c.clear_places.new.self c.args.root c.args.region c.in-Some.table
    (λ i. nat_le c.saturating_sub-from.result i && nat_lt i c.saturating_sub.result) None there c.clear_places.ensures.entries c.clear_places.ensures.links c.clear_places.ensures.uses

pub returns-clause-leaves : goal.returns-clause-leaves
returns-clause-leaves c =
    let Made : PoolValue → Type 0 = λ v. IsRoot v c.args.root in
    let made = subst Made (sym c.self.view_is) c.requires.made in
    let there = led c.self.inside.tables c.self.inside.uses.items c.self.invariant c.args.root c.args.region c.in-Some.table _ made c.requires.inside c.from-start.ensures c.in-Some.ensures in
    let from = c.saturating_sub-from.ensures ∙ ap (λ (n : ℕ). c.args.first - n * 1024) c.from-start.ensures in
    let to = c.saturating_sub.ensures ∙ ap (λ (n : ℕ). c.args.end - n * 1024) c.from-start.ensures in
    let old = pool_of c.self.inside.tables.words c.self.inside.uses.items in
    let Cleared : PoolValue → Type 0 = λ v. (r page : ℕ) → IsPlace v r page
    → leaf_at (pool_of c.clear_places.new.self.words c.self.inside.uses.items) r page
    ≡ (if (r == c.args.root) && ((page / 1024 == c.args.region) && (nat_le c.args.first page && nat_lt page c.args.end)) then None else leaf_at v r page) in
    subst Cleared c.self.view_is
    (λ r page place.
    leaf_at-entries _ _ c.self.invariant c.clear_places.new.self c.args.root c.args.region c.in-Some.table
    (λ i. nat_le c.saturating_sub-from.result i && nat_lt i c.saturating_sub.result) None there c.clear_places.ensures.entries c.clear_places.ensures.links r page place.made place.inside
    ∙ ap (λ (b : Bool). if (r == c.args.root) && b then None else leaf_at old r page) (region_test page c.args.region c.args.first c.args.end _ _ from to))
