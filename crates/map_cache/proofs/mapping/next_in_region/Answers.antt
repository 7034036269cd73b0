use Rattle.std.proofs.Common.{sym, ◌∙◌}
use Rattle.map_cache.proofs.Listed.{zero-none}
use Rattle.map_cache.proofs.mapping.next_in_region.Goals as goal

pub returns-then-word-eq0-clause-none : goal.returns-then-word-eq0-clause-none
returns-then-word-eq0-clause-none c = λ none. zero-none c.args.tables.now c.args.root c.args.region c.args.first c.requires.inside (sym c.word.ensures.value ∙ c.if-word-eq0.true)
