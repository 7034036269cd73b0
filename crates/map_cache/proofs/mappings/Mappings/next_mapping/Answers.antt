use Rattle.std.proofs.Common.{refl, ◌∙◌, arith}
use Rattle.map_cache.specs.Effects.{value_of}
use Rattle.map_cache.proofs.Listed.{left-end}
use Rattle.map_cache.proofs.mappings.Mappings.next_mapping.Goals as goal

pub frames-init : goal.frames-init
frames-init c = record { left = refl; inside = c.requires.inside }

pub frames-preserved : goal.frames-preserved
frames-preserved c = record { left = c.frames.invariant.left ∙ c.in_default.ensures.none refl; inside = omega arith }

pub returns-in-Some-clause-some : goal.returns-in-Some-clause-some
returns-in-Some-clause-some c = c.frames.invariant.left ∙ c.in-Some.ensures.some

pub returns-clause-none : goal.returns-clause-none
returns-clause-none c = λ none. c.frames.invariant.left ∙ left-end (value_of c.args.self.now) c.frames.frame c.frames.page (omega (arith, c.frames-test.false, c.len-frame-end.ensures.value))
