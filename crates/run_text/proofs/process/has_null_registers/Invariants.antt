use Rattle.std.proofs.Common.{◌≡◌, map, take, true}
use Rattle.std.specs.List.{list_all}
use Rattle.object_store.specs.Meaning.{meaning}
use Rattle.run_text.specs.Objects.{is_null}
use Rattle.run_text.proofs.process.has_null_registers.Given as goal

abbrev pub invariant-each : goal.invariant-each
invariant-each l = list_all is_null (take l.i (map (meaning l.objects.items) l.process.capregs)) ≡ true
