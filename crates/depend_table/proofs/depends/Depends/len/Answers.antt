use Rattle.std.proofs.Common.{length, List, ap, sym, ◌∙◌, arith}
use Rattle.depend_table.specs.Depend.{Depend}
use Rattle.depend_table.proofs.Listed.{length-records}
use Rattle.depend_table.proofs.depends.Depends.len.Goals as goal

pub returns-clause-value : goal.returns-clause-value
returns-clause-value c = sym (ap (λ (records : List Depend). length records) (sym c.self.view_is) ∙ length-records c.self.inside.nodes.slots ∙ sym c.len.ensures)

pub returns-clause-most : goal.returns-clause-most
returns-clause-most c = omega (arith, c.len.ensures, c.self.invariant.most)
