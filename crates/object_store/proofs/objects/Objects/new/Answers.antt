use Rattle.object_store.proofs.Ranged.{IsStore-empty_store}
use Rattle.object_store.proofs.Behind.{NoneAhead-empty_store}
use Rattle.object_store.proofs.objects.Objects.new.Goals as goal

pub invariant_of-result : goal.invariant_of-result
invariant_of-result c =
    rw (c.in_ok-new.ensures, c.in_ok-table.ensures, c.in_ok-table-2.ensures, c.in_ok-table-3.ensures, c.in_ok-table-4.ensures, c.in_ok-table-5.ensures) (IsStore-empty_store c.args.sizes c.requires)

pub returns-clause-none_ahead : goal.returns-clause-none_ahead
returns-clause-none_ahead c =
    rw (c.in_ok-new.ensures, c.in_ok-table.ensures, c.in_ok-table-2.ensures, c.in_ok-table-3.ensures, c.in_ok-table-4.ensures, c.in_ok-table-5.ensures) (NoneAhead-empty_store c.args.sizes)
