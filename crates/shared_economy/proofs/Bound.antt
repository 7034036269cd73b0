-- The bound in every run: an access fetches the slots that its walk reads, or none.
use Rattle.std.proofs.Common.{arith}
use Rattle.shared_leaves.specs.Kept.{cost_of, is_spared, kept_after, kept_without}
use Rattle.fetch_economy.proofs.Bound.{slot_reads-most, spared-most, spent-most}
use Rattle.shared_economy.specs.Laws.{BoundInEveryRun, RoundBound}

pub bound_in_every_run : BoundInEveryRun
bound_in_every_run = spent-most cost_of kept_after kept_without (λ kept o space address kind. spared-most (is_spared kept o space address kind) o space address kind)

pub round_bound : RoundBound
round_bound kept touches = omega (arith, bound_in_every_run kept touches, slot_reads-most touches)
