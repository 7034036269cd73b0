use Rattle.std.proofs.Common.{refl}
use Rattle.std.proofs.lemmas.Bool.{false≢true}
use Rattle.shared_leaves.proofs.Filed.{note-added, note-wanting}
use Rattle.shared_leaves.proofs.leaves.LeafTables.note_one.Goals as goal

pub returns-in_default-clause-wanting : goal.returns-in_default-clause-wanting
returns-in_default-clause-wanting c =
    let old = c.args.self.now in
    let full = c.in_default.ensures.full.0 refl in
    note-wanting old.tables old.keys.items old.tlbs.items old.records c.requires.kept c.args.frame c.args.read c.requires.there full.0 full.1

pub returns-clause-ok : goal.returns-clause-ok
returns-clause-ok c =
    let old = c.args.self.now in
    (note-added old.tables old.keys.items old.tlbs.items old.records c.requires.kept c.args.frame c.args.read c.note.new.self c.requires.there c.in-Ok.ensures.ok (λ full. false≢true (c.in-Ok.ensures.full.1 full))).done

pub returns-clause-kept : goal.returns-clause-kept
returns-clause-kept c =
    let old = c.args.self.now in
    (note-added old.tables old.keys.items old.tlbs.items old.records c.requires.kept c.args.frame c.args.read c.note.new.self c.requires.there c.in-Ok.ensures.ok (λ full. false≢true (c.in-Ok.ensures.full.1 full))).cache
