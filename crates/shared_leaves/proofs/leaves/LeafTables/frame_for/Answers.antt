use Rattle.std.proofs.Common.{◌≡◌, ◌≢◌, ◌<◌, length, None, refl, sym, ◌∙◌, arith}
use Rattle.std.proofs.lemmas.Bool.{false≢true}
use Rattle.shared_leaves.specs.Cache.{frame_of}
use Rattle.shared_leaves.specs.Effects.{HasFrame, value_of}
use Rattle.shared_leaves.proofs.Filed.{Made, frame-new, frame-there, frame-wanting}
use Rattle.shared_leaves.proofs.leaves.LeafTables.frame_for.Goals as goal

pub returns-in-Some-clause-ok : goal.returns-in-Some-clause-ok
returns-in-Some-clause-ok c =
    let old = c.args.self.now in
    frame-there old.tables old.keys.items old.tlbs.items old.records c.requires c.args.key.now c.in-Some.frame (sym c.frame_of.ensures ∙ c.in-Some.is)

pub returns-in_default-make_frame-clause-wanting : goal.returns-in_default-make_frame-clause-wanting
returns-in_default-make_frame-clause-wanting c =
    let old = c.args.self.now in
    let none : frame_of old.keys.items c.args.key.now ≡ None = sym c.frame_of.ensures ∙ c.in_default.is in
    frame-wanting old.tables old.keys.items old.tlbs.items old.records c.requires c.args.key.now none (c.in_default-make_frame.ensures.full.0 refl)

new : (c : goal.After-push) → Made c.make_frame.new.tables c.push.new.self.items c.args.self.now.tlbs.items c.args.self.now.records (λ v. HasFrame (value_of c.args.self.now) v c.args.key.now c.in-Ok.frame)
new c =
    let old = c.args.self.now in
    let none : frame_of old.keys.items c.args.key.now ≡ None = sym c.frame_of.ensures ∙ c.in_default.is in
    let some : length old.tables.uses ≢ 256 = λ full. false≢true (c.in-Ok.ensures.full.1 full) in
    let room : length old.keys.items < 256 = omega (arith, c.requires.frames, c.requires.most_keys, some) in
    frame-new old.tables old.keys.items old.tlbs.items old.records c.requires c.make_frame.new.tables c.in-Ok.frame c.args.key.now c.in-Ok.ensures.frame none c.push.new.self.items room c.push.ensures.items

pub returns-clause-ok : goal.returns-clause-ok
returns-clause-ok c = (new c).done

pub returns-clause-kept : goal.returns-clause-kept
returns-clause-kept c = (new c).cache
