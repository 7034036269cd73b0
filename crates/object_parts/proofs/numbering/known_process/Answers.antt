use Rattle.std.proofs.Common.{ap, ◌∙◌, subst, Some}
use Rattle.object_parts.specs.Live.{IsInRanges}
use Rattle.object_parts.specs.Objects.{object_in}
use Rattle.object_parts.proofs.Buried.{process_there}
use Rattle.object_parts.proofs.numbering.known_process.Goals as goal

pub returns-clause-value : goal.returns-clause-value
returns-clause-value c =
    c.in_ok-found.ensures.value ∙ ap Some (process_there c.args.objects.now c.args.n c.count.result c.process.result.now (object_in c.in_ok-found.part.now) c.count.ensures.value c.process.ensures.value c.in_ok-found.ensures.equal)

pub returns-clause-ranged : goal.returns-clause-ranged
returns-clause-ranged c = λ some.
    subst IsInRanges (process_there c.args.objects.now c.args.n c.count.result c.process.result.now (object_in c.in_ok-found.part.now) c.count.ensures.value c.process.ensures.value c.in_ok-found.ensures.equal) c.tell_range.ensures
