use Rattle.std.proofs.Common.{◌≡◌, ◌+◌, drop}
use Rattle.object_store.specs.Store.{sizes_of}
use Rattle.object_store.specs.Meaning.{map_of}
use Rattle.object_store.specs.Object.{Stays, IsEven}
use Rattle.machine_state.specs.Taking.{names_of, slots_taken}
use Rattle.machine_state.proofs.taking.take_each.Given as goal

-- no object may differ but those that are left to take
abbrev pub invariant-each : goal.invariant-each
invariant-each g l = record {
  sizes : sizes_of l.objects ≡ sizes_of l.from;
  even : IsEven l.objects;
  others : Stays (names_of (drop l.i l.names)) l.from l.objects;
  coherent : g.T.Translator.coherent l.translator (map_of l.objects.items);
  harts : g.T.Translator.harts l.translator ≡ g.T.Translator.harts l.fn.translator;
  counted : l.fetches + slots_taken (names_of (drop l.i l.names)) ≡ l.fn.fetches + slots_taken (names_of l.names);
}
