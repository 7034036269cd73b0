use Rattle.std.proofs.Common.{◌≡◌, ℕ, Option, is_some, sym, ap, ◌∙◌, subst}
use Rattle.std.specs.Prelude.{IfSome}
use Rattle.sv32_tables.specs.Shared.{IsSharedRoot}
use Rattle.shared_leaves.specs.Key.{has_key, root_key}
use Rattle.shared_leaves.specs.Kept.{is_held}
use Rattle.shared_leaves.specs.Cache.{SharedCache, frame_of, kept_of, leaf_in, root_at}
use Rattle.shared_leaves.specs.Effects.{value_of}
use Rattle.object_store.proofs.Live.{IsCapability-meaning}
use Rattle.shared_leaves.specs.Coherent.{IsCoherent}
use Rattle.shared_leaves.proofs.Regional.{leaf-fresh}
use Rattle.shared_leaves.proofs.Linked.{frame-kept, held-leaf, root-found}
use Rattle.shared_leaves.proofs.shared_leaves.SharedLeaves.root_of.Goals as goal

-- the frame that was looked for is that of the space's root
is_root : (c : goal.After-frame_of) → c.frame_of.result ≡ root_at c.self.inside.leaves.keys.items c.args.space
is_root c = c.frame_of.ensures ∙ ap (frame_of c.self.inside.leaves.keys.items) c.root.ensures

pub returns-clause-root : goal.returns-clause-root
returns-clause-root c = is_root c ∙ ap (λ (v : SharedCache). root_at v.keys c.args.space) c.self.view_is

pub returns-clause-kept : goal.returns-clause-kept
returns-clause-kept c =
    ap (λ (r : Option ℕ). is_some r) (is_root c)
    ∙ (frame-kept (value_of c.self.inside.leaves) c.self.invariant (root_key c.args.space) ∙ ap (λ (v : SharedCache). has_key v.keys (root_key c.args.space)) c.self.view_is)

pub returns-clause-made : goal.returns-clause-made
returns-clause-made c =
    let P : SharedCache → Type 0 = λ v. IfSome c.frame_of.result (λ root. IsSharedRoot v.tables root) in
    subst P c.self.view_is (root-found (value_of c.self.inside.leaves) c.self.invariant c.args.space c.frame_of.result (is_root c))

pub returns-clause-held : goal.returns-clause-held
returns-clause-held c = λ page low.
    let P : SharedCache → Type 0 = λ v. is_held (kept_of v) c.args.space page ≡ is_some (leaf_in v.tables page c.frame_of.result) in
    subst P c.self.view_is
    (held-leaf (value_of c.self.inside.leaves) c.self.invariant c.args.space page low ∙ ap (λ (r : Option ℕ). is_some (leaf_in c.self.inside.leaves.tables page r)) (sym (is_root c)))

pub returns-clause-fresh : goal.returns-clause-fresh
returns-clause-fresh c = λ o ranged coherent page leaf low found.
    let v = value_of c.self.inside.leaves in
    leaf-fresh c.region_law.ensures o ranged c.args.space (IsCapability-meaning o c.args.space c.kind-range.ensures.range) v c.self.invariant (subst (λ (v : SharedCache). IsCoherent v o) (sym c.self.view_is) coherent) page leaf low
    (ap (leaf_in c.self.inside.leaves.tables page) (sym (is_root c)) ∙ (ap (λ (v : SharedCache). leaf_in v.tables page c.frame_of.result) c.self.view_is ∙ found))
