use Rattle.std.proofs.Common.{◌≡◌, ◌/◌, ◌<◌, ◌^◌, length, arith}
use Rattle.map_cache.specs.Effects.{Keeps, value_of}
use Rattle.map_cache.proofs.Installing.{Made, page-kept, still-bare}
use Rattle.map_cache.proofs.mappings.Mappings.keep.Goals as goal

pub install-requires-clause-bare : goal.install-requires-clause-bare
install-requires-clause-bare c =
    let low : c.args.va / 4096 < 2 ^ 20 = omega (arith, c.ranges.va.fits) in
    still-bare (value_of c.args.self.now) (value_of c.root_for.new.self) (value_of c.note_all.new.self) c.in_ok-root.root (c.args.va / 4096) c.args.space c.args.reads.now c.in_ok-root.ensures.ok c.in_ok-note_all.ensures.ok c.in_ok-root.ensures.kept low c.requires.bare

kept : (c : goal.After-hold) → Made c.install.new.self.tables c.install.new.self.keys.items c.hold.new.tlbs.items c.install.new.self.records (λ v. Keeps (value_of c.args.self.now) v c.args.hart c.args.space (c.args.va / 4096) c.args.leaf c.args.reads.now)
kept c =
    let harts : length c.hold.new.tlbs.items ≡ length c.args.self.now.tlbs.items = omega (arith, c.hold.ensures.harts, c.install.ensures.harts, c.note_all.ensures.harts, c.root_for.ensures.harts) in
    page-kept (value_of c.args.self.now) (value_of c.root_for.new.self) (value_of c.note_all.new.self) (value_of c.install.new.self) c.hold.new.tlbs.items c.args.hart c.in_ok-root.root (c.args.va / 4096) c.args.space c.args.leaf c.args.reads.now c.in_ok-root.ensures.ok c.in_ok-note_all.ensures.ok c.in_ok-install.ensures.ok c.fill_law.ensures c.in_ok-install.ensures.kept c.hold.ensures.was c.hold.ensures.hart c.hold.ensures.others harts

pub returns-clause-ok : goal.returns-clause-ok
returns-clause-ok c = (kept c).done

pub returns-clause-kept : goal.returns-clause-kept
returns-clause-kept c = (kept c).cache
