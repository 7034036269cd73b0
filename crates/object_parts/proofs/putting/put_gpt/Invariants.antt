use Rattle.std.proofs.Common.{◌≡◌}
use Rattle.object_store.specs.Store.{gpt_at, set_gpt, with_items}
use Rattle.object_parts.proofs.Mapped.{overlaid}
use Rattle.object_parts.proofs.putting.put_gpt.Given as goal

-- the header and the slots so far are put
abbrev pub invariant-loop-i : goal.invariant-loop-i
invariant-loop-i l = l.objects ≡ with_items l.fn.objects (set_gpt l.fn.objects.items l.n (record { header = l.gpt.header; slots = overlaid l.gpt.slots l.i (gpt_at l.fn.objects.items l.n).slots }))
