use Rattle.std.proofs.Common.{◌≡◌, ◌≢◌, ◌<◌, length, None, refl, sym, ◌∙◌, arith}
use Rattle.std.proofs.lemmas.Bool.{false≢true}
use Rattle.map_cache.specs.Cache.{root_at}
use Rattle.map_cache.specs.Effects.{RootsSpace, value_of}
use Rattle.map_cache.proofs.Installing.{Made, root-new, root-there, root-wanting}
use Rattle.map_cache.proofs.mappings.Mappings.root_for.Goals as goal

pub returns-in-Some-clause-ok : goal.returns-in-Some-clause-ok
returns-in-Some-clause-ok c =
    let old = c.args.self.now in
    root-there old.tables old.keys.items old.tlbs.items old.records c.requires c.args.space c.in-Some.root (sym c.find_root.ensures ∙ c.in-Some.is)

pub returns-in_default-make_root-clause-wanting : goal.returns-in_default-make_root-clause-wanting
returns-in_default-make_root-clause-wanting c =
    let old = c.args.self.now in
    let none : root_at old.keys.items c.args.space ≡ None = sym c.find_root.ensures ∙ c.in_default.is in
    root-wanting old.tables old.keys.items old.tlbs.items old.records c.requires c.args.space none (c.in_default-make_root.ensures.full.0 refl)

new : (c : goal.After-push) → Made c.make_root.new.self c.push.new.self.items c.args.self.now.tlbs.items c.args.self.now.records (λ v. RootsSpace (value_of c.args.self.now) v c.args.space c.in-Ok.root)
new c =
    let old = c.args.self.now in
    let none : root_at old.keys.items c.args.space ≡ None = sym c.find_root.ensures ∙ c.in_default.is in
    let some : length old.tables.uses ≢ 256 = λ full. false≢true (c.in-Ok.ensures.full.1 full) in
    let room : length old.keys.items < 256 = omega (arith, c.requires.frames, c.requires.most_keys, some) in
    root-new old.tables old.keys.items old.tlbs.items old.records c.requires c.make_root.new.self c.in-Ok.root c.args.space c.push.new.self.items c.in-Ok.ensures.root none room c.push.ensures.items

pub returns-clause-ok : goal.returns-clause-ok
returns-clause-ok c = (new c).done

pub returns-clause-kept : goal.returns-clause-kept
returns-clause-kept c = (new c).cache
