use Rattle.std.proofs.Common.{◌≡◌}
use Rattle.object_store.specs.Meaning.{live}
use Rattle.object_parts.proofs.Mapped.{mapped}
use Rattle.object_parts.proofs.making.bury_in_page.Given as goal

-- no slot so far is dead
abbrev pub invariant-loop-i : goal.invariant-loop-i
invariant-loop-i l = l.page ≡ mapped (live l.objects.items) l.i l.fn.page
