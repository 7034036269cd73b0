use Rattle.std.proofs.Common.{◌≡◌, ◌+◌, map, drop}
use Rattle.cap_format.specs.declared.kind.CapKind.{CapKind}
use Rattle.object_store.specs.Store.{size_of}
use Rattle.object_store.specs.Meaning.{map_of}
use Rattle.object_store.specs.Saved.{restored}
use Rattle.machine_state.specs.Outcome.{kept_after}
use Rattle.machine_state.specs.Past.{saved_at, slots_back, touches_back}
use Rattle.machine_state.proofs.restoring.put_back.Given as goal

-- the rest put back makes what all make
abbrev pub invariant-each : goal.invariant-each
invariant-each g l = record {
  objects : restored (map (saved_at l.past.copies) (drop l.i l.places)) l.objects ≡ restored (map (saved_at l.past.copies) l.places) l.fn.objects;
  sizes : (k : CapKind) → size_of l.objects.items k ≡ size_of l.fn.objects.items k;
  coherent : g.T.Translator.coherent l.translator (map_of l.objects.items);
  harts : g.T.Translator.harts l.translator ≡ g.T.Translator.harts l.fn.translator;
  counted : l.fetches + slots_back (drop l.i l.places) ≡ l.fn.fetches + slots_back l.places;
  kept : kept_after g.T.Translator.cost g.T.Translator.after g.T.Translator.without (g.T.Translator.kept l.translator) (touches_back (drop l.i l.places))
      ≡ kept_after g.T.Translator.cost g.T.Translator.after g.T.Translator.without (g.T.Translator.kept l.fn.translator) (touches_back l.places);
}
