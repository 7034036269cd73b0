use Rattle.std.proofs.Common.{◌≡◌, ℕ, ◌≤◌, ◌<◌}
use Rattle.object_store.specs.Meaning.{live}
use Rattle.process_objects.specs.Process.{capreg_of}
use Rattle.object_parts.proofs.compare.eight_live_same.Given as goal

-- those before are the same
abbrev pub invariant-loop-i : goal.invariant-loop-i
invariant-loop-i l = (i : ℕ) → l.fn.first ≤ i → i < l.i → live l.objects.items (capreg_of l.a i) ≡ capreg_of l.b i
