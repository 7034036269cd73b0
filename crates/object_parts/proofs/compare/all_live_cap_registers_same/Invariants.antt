use Rattle.std.proofs.Common.{◌≡◌, ℕ, ◌*◌, ◌<◌}
use Rattle.object_store.specs.Meaning.{live}
use Rattle.process_objects.specs.Process.{capreg_of}
use Rattle.object_parts.proofs.compare.all_live_cap_registers_same.Given as goal

-- those before are the same
abbrev pub invariant-loop-eight : goal.invariant-loop-eight
invariant-loop-eight l = (i : ℕ) → i < 8 * l.eight → live l.objects.items (capreg_of l.a i) ≡ capreg_of l.b i
