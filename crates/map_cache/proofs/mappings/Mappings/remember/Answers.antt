use Rattle.std.proofs.Common.{◌/◌, sym, ◌∙◌}
use Rattle.std.proofs.lemmas.Bool.{false≢true}
use Rattle.map_cache.specs.Effects.{value_of}
use Rattle.map_cache.proofs.Invariant.{cache-blank}
use Rattle.map_cache.proofs.Forgotten.{anew-fits, remembers-anew}
use Rattle.map_cache.proofs.mappings.Mappings.remember.Goals as goal

pub keep-requires-2-clause-kept : goal.keep-requires-2-clause-kept
keep-requires-2-clause-kept c =
    let b = c.forget.new.self in
    let blank = c.forget.ensures.blank in
    cache-blank b.tables b.keys.items b.tlbs.items b.records blank.tables blank.keys blank.tlbs blank.records

pub unreachable-requires : goal.unreachable-requires
unreachable-requires c =
    false≢true (sym c.in_default-keep.ensures.wanting ∙ anew-fits (value_of c.forget.new.self) c.args.space (c.args.va / 4096) c.args.reads.now c.forget.ensures.blank c.requires.few)

pub returns-clause-done : goal.returns-clause-done
returns-clause-done c =
    remembers-anew (value_of c.args.self.now) (value_of c.forget.new.self) (value_of c.keep-2.new.self) c.args.hart (c.args.va / 4096) c.args.space c.args.leaf c.args.reads.now c.in-Err.ensures.wanting c.forget.ensures.blank (c.forget.ensures.harts ∙ c.keep.ensures.harts) c.in-Ok.ensures.ok
