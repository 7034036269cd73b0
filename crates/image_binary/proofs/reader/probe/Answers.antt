use Rattle.image_binary.proofs.Windows.{one_taken}
use Rattle.image_binary.proofs.reader.probe.Goals as goal

pub returns-clause-probe : goal.returns-clause-probe
returns-clause-probe g c =
    one_taken _ _ _ _ c.take-given.auto.buf c.in_ok-count.ensures.bound c.if-count-eq0.false c.are_bytes.ensures c.in_ok-count.ensures.bytes.0
