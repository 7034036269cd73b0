use Rattle.std.proofs.Common.{◌≤◌, ◌<◌, ◌/◌, ◌^◌, ◌++◌, ℕ, [], ◌∷◌, length, nat_lt, if◌then◌else◌, refl, ap, ◌∙◌, arith}
use Rattle.map_cache.specs.Key.{region_key}
use Rattle.map_cache.specs.Effects.{SetsPage, value_of}
use Rattle.map_cache.proofs.Invariant.{root_made}
use Rattle.map_cache.proofs.Installing.{Made, page-set, page-wanting}
use Rattle.map_cache.proofs.mappings.Mappings.install.Goals as goal

pub install-requires : goal.install-requires
install-requires c =
    let old = c.args.self.now in
    root_made old.tables old.keys.items old.tlbs.items old.records c.requires.kept c.args.root c.args.space c.requires.here

pub returns-in_default-clause-wanting : goal.returns-in_default-clause-wanting
returns-in_default-clause-wanting c =
    let old = c.args.self.now in
    page-wanting old.tables old.keys.items old.tlbs.items old.records c.requires.kept c.args.root (c.args.va / 4096 / 1024) c.args.space (c.in_default.ensures.full.0 refl) c.requires.here

set : (c : goal.After-grow) → Made c.install.new.self c.grow.new.keys.items c.args.self.now.tlbs.items c.args.self.now.records (λ v. SetsPage (value_of c.args.self.now) v c.args.space c.args.root (c.args.va / 4096) c.args.leaf)
set c =
    let old = c.args.self.now in
    let low : c.args.va / 4096 < 2 ^ 20 = omega (arith, c.ranges.va.fits) in
    let room : length c.install.new.self.uses ≤ 256 = omega (arith, c.used.ensures.value, c.used.ensures.range) in
    let keys = c.grow.ensures ∙ ap (λ (n : ℕ). if nat_lt (length old.keys.items) n then old.keys.items ++ region_key c.args.space (c.args.va / 4096 / 1024) ∷ [] else old.keys.items) c.used.ensures.value in
    page-set old.tables old.keys.items old.tlbs.items old.records c.requires.kept c.install.new.self c.grow.new.keys.items c.args.root (c.args.va / 4096) c.args.leaf c.args.space c.in-Ok.ensures.leaf c.in-Ok.ensures.uses c.in-Ok.ensures.roots c.requires.bare c.requires.here low room keys

pub returns-clause-ok : goal.returns-clause-ok
returns-clause-ok c = (set c).done

pub returns-clause-kept : goal.returns-clause-kept
returns-clause-kept c = (set c).cache
