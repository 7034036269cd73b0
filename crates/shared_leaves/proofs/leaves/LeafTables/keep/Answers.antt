use Rattle.std.proofs.Common.{◌≡◌, ◌/◌, ◌^◌, ◌<◌, length, ap, ◌∙◌, subst, arith}
use Rattle.std.specs.Prelude.{slice_get}
use Rattle.std.proofs.lemmas.Option.{slice_get_within}
use Rattle.shared_leaves.specs.declared.key.Key.{Key}
use Rattle.shared_leaves.specs.Key.{root_key}
use Rattle.shared_leaves.specs.Kept.{Addition, addition}
use Rattle.shared_leaves.specs.Effects.{HasFrame, Keeps, value_of}
use Rattle.shared_leaves.proofs.Filed.{Made}
use Rattle.shared_leaves.proofs.Invariant.{leaf_made, root_made}
use Rattle.shared_leaves.proofs.Adding.{Steps, agrees-still, entries-over, links-over, on_err, page-kept, root-over, still-at, table-over}
use Rattle.shared_leaves.proofs.leaves.LeafTables.keep.Goals as goal

pub returns-in_err-root-clause-wanting : goal.returns-in_err-root-clause-wanting
returns-in_err-root-clause-wanting c =
    on_err c.from_residual.result _
    (root-over (value_of c.args.self.now) c.args.space (c.args.va / 4096) (addition c.args.key.now c.args.link_reads.now c.args.entry_reads.now) (rw c.root.ensures at c.in_err-root.ensures.wanting))

pub returns-in_err-table-clause-wanting : goal.returns-in_err-table-clause-wanting
returns-in_err-table-clause-wanting c =
    let v0 = value_of c.args.self.now in
    let v1 = value_of c.frame_for.new.self in
    let first = subst (λ (k : Key). HasFrame v0 v1 k c.in_ok-root.root) c.root.ensures c.in_ok-root.ensures.ok in
    on_err c.from_residual-in_err-table.result _
    (table-over v0 v1 c.args.space (c.args.va / 4096) c.in_ok-root.root (addition c.args.key.now c.args.link_reads.now c.args.entry_reads.now) first c.in_err-table.ensures.wanting)

pub note_all-requires-clause-there : goal.note_all-requires-clause-there
note_all-requires-clause-there c =
    let v0 = value_of c.args.self.now in
    let v1 = value_of c.frame_for.new.self in
    let v2 = value_of c.frame_for-2.new.self in
    let first = c.in_ok-root.ensures.ok in
    slice_get_within v2.keys c.in_ok-root.root c.root.result (still-at v1 v2 c.args.key.now c.root.result c.in_ok-table.table c.in_ok-root.root c.in_ok-table.ensures.ok first.here)

pub returns-in_err-note_all-clause-wanting : goal.returns-in_err-note_all-clause-wanting
returns-in_err-note_all-clause-wanting c =
    let v0 = value_of c.args.self.now in
    let v1 = value_of c.frame_for.new.self in
    let v2 = value_of c.frame_for-2.new.self in
    let first = subst (λ (k : Key). HasFrame v0 v1 k c.in_ok-root.root) c.root.ensures c.in_ok-root.ensures.ok in
    let second = c.in_ok-table.ensures.ok in
    let at = still-at v1 v2 c.args.key.now (root_key c.args.space) c.in_ok-table.table c.in_ok-root.root second first.here in
    on_err c.from_residual-in_err-note_all.result _
    (links-over v0 v1 v2 c.args.space (c.args.va / 4096) c.in_ok-root.root c.in_ok-table.table (addition c.args.key.now c.args.link_reads.now c.args.entry_reads.now) first second at c.in_err-note_all.ensures.wanting)

pub note_all-requires-2-clause-there : goal.note_all-requires-2-clause-there
note_all-requires-2-clause-there c =
    let second = c.in_ok-table.ensures.ok in
    let noted = c.in_ok-note_all.ensures.ok in
    slice_get_within c.note_all.new.self.keys.items c.in_ok-table.table c.args.key.now (ap (λ ks. slice_get ks c.in_ok-table.table) noted.keys ∙ second.here)

pub returns-in_err-note_all-2-clause-wanting : goal.returns-in_err-note_all-2-clause-wanting
returns-in_err-note_all-2-clause-wanting c =
    let v0 = value_of c.args.self.now in
    let v1 = value_of c.frame_for.new.self in
    let v2 = value_of c.frame_for-2.new.self in
    let first = subst (λ (k : Key). HasFrame v0 v1 k c.in_ok-root.root) c.root.ensures c.in_ok-root.ensures.ok in
    let second = c.in_ok-table.ensures.ok in
    let at = still-at v1 v2 c.args.key.now (root_key c.args.space) c.in_ok-table.table c.in_ok-root.root second first.here in
    on_err c.from_residual-in_err-note_all-2.result _
    (entries-over v0 v1 v2 (value_of c.note_all.new.self) c.args.space (c.args.va / 4096) c.in_ok-root.root c.in_ok-table.table (addition c.args.key.now c.args.link_reads.now c.args.entry_reads.now) first second at c.in_ok-note_all.ensures.ok c.in_err-note_all-2.ensures.wanting)

pub connect-requires-clause-root : goal.connect-requires-clause-root
connect-requires-clause-root c =
    let v0 = value_of c.args.self.now in
    let v1 = value_of c.frame_for.new.self in
    let v2 = value_of c.frame_for-2.new.self in
    let first = subst (λ (k : Key). HasFrame v0 v1 k c.in_ok-root.root) c.root.ensures c.in_ok-root.ensures.ok in
    let at = still-at v1 v2 c.args.key.now (root_key c.args.space) c.in_ok-table.table c.in_ok-root.root c.in_ok-table.ensures.ok first.here in
    let w = c.note_all-2.new.self in
    root_made w.tables w.keys.items w.tlbs.items w.records c.in_ok-note_all-2.ensures.kept c.in_ok-root.root c.args.space (ap (λ ks. slice_get ks c.in_ok-root.root) (c.in_ok-note_all-2.ensures.ok.keys ∙ c.in_ok-note_all.ensures.ok.keys) ∙ at)

pub connect-requires-clause-leaf : goal.connect-requires-clause-leaf
connect-requires-clause-leaf c =
    let w = c.note_all-2.new.self in
    leaf_made w.tables w.keys.items w.tlbs.items w.records c.in_ok-note_all-2.ensures.kept c.in_ok-table.table c.args.key.now (ap (λ ks. slice_get ks c.in_ok-table.table) (c.in_ok-note_all-2.ensures.ok.keys ∙ c.in_ok-note_all.ensures.ok.keys) ∙ c.in_ok-table.ensures.ok.here) c.requires.leaf

pub set-requires-clause-leaf : goal.set-requires-clause-leaf
set-requires-clause-leaf c =
    let w = c.connect.new.self in
    leaf_made w.tables w.keys.items w.tlbs.items w.records c.connect.ensures.kept c.in_ok-table.table c.args.key.now (ap (λ ks. slice_get ks c.in_ok-table.table) (c.connect.ensures.done.keys ∙ (c.in_ok-note_all-2.ensures.ok.keys ∙ c.in_ok-note_all.ensures.ok.keys)) ∙ c.in_ok-table.ensures.ok.here) c.requires.leaf

pub set-requires-clause-agrees : goal.set-requires-clause-agrees
set-requires-clause-agrees c =
    let v0 = value_of c.args.self.now in
    let v1 = value_of c.frame_for.new.self in
    let first = subst (λ (k : Key). HasFrame v0 v1 k c.in_ok-root.root) c.root.ensures c.in_ok-root.ensures.ok in
    agrees-still v0 v1 (value_of c.frame_for-2.new.self) (value_of c.note_all-2.new.self) (value_of c.connect.new.self) c.args.space c.args.key.now (c.args.va / 4096) c.in_ok-root.root c.in_ok-table.table c.args.leaf c.connect.ensures.kept
    first c.in_ok-table.ensures.ok (c.in_ok-note_all-2.ensures.ok.tables ∙ c.in_ok-note_all.ensures.ok.tables) (c.in_ok-note_all-2.ensures.ok.keys ∙ c.in_ok-note_all.ensures.ok.keys) c.connect.ensures.done.entries c.connect.ensures.done.keys c.requires.leaf c.requires.agrees

kept : (c : goal.After-hold) → Made c.set.new.self.tables c.set.new.self.keys.items c.hold.new.tlbs.items c.set.new.self.records (λ v. Keeps (value_of c.args.self.now) v c.args.hart c.args.space (c.args.va / 4096) c.args.leaf (addition c.args.key.now c.args.link_reads.now c.args.entry_reads.now))
kept c =
    let v0 = value_of c.args.self.now in
    let v1 = value_of c.frame_for.new.self in
    let v2 = value_of c.frame_for-2.new.self in
    let v3 = value_of c.note_all.new.self in
    let v4 = value_of c.note_all-2.new.self in
    let v5 = value_of c.connect.new.self in
    let v6 = value_of c.set.new.self in
    let add : Addition = addition c.args.key.now c.args.link_reads.now c.args.entry_reads.now in
    let first = subst (λ (k : Key). HasFrame v0 v1 k c.in_ok-root.root) c.root.ensures c.in_ok-root.ensures.ok in
    let second = c.in_ok-table.ensures.ok in
    let low : c.args.va / 4096 < 2 ^ 20 = omega (arith, c.ranges.va.fits) in
    let steps : Steps v0 v1 v2 v3 v4 v5 v6 c.args.space (c.args.va / 4096) c.in_ok-root.root c.in_ok-table.table c.args.leaf add = record {
      root_has = first;
      table_has = second;
      links_noted = c.in_ok-note_all.ensures.ok;
      entries_noted = c.in_ok-note_all-2.ensures.ok;
      connects = c.connect.ensures.done;
      places = c.set.ensures.done;
      root_still = still-at v1 v2 c.args.key.now (root_key c.args.space) c.in_ok-table.table c.in_ok-root.root second first.here;
    } in
    let harts : length c.hold.new.tlbs.items ≡ length c.args.self.now.tlbs.items =
    c.hold.ensures.harts ∙ (ap (λ ts. length ts) c.set.ensures.done.tlbs ∙ (c.connect.ensures.done.harts ∙ (c.note_all-2.ensures.harts ∙ (c.note_all.ensures.harts ∙ (c.frame_for-2.ensures.harts ∙ c.frame_for.ensures.harts))))) in
    page-kept v0 v1 v2 v3 v4 v5 v6 c.args.space (c.args.va / 4096) c.in_ok-root.root c.in_ok-table.table c.args.leaf add low steps c.fill_law.ensures c.connect.ensures.kept c.set.ensures.kept c.hold.new.tlbs.items c.args.hart c.hold.ensures.was c.hold.ensures.hart c.hold.ensures.others harts

pub returns-clause-ok : goal.returns-clause-ok
returns-clause-ok c = (kept c).done

pub returns-clause-kept : goal.returns-clause-kept
returns-clause-kept c = (kept c).cache
