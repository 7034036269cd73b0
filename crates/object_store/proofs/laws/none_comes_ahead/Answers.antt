use Rattle.object_store.proofs.Live.{IsBehind-live}
use Rattle.object_store.proofs.Behind.{NoneAhead-empty_store, NoneAhead-set_slot, NoneAhead-set_header, NoneAhead-with_page, NoneAhead-with_cappage, NoneAhead-with_process, NoneAhead-with_endpoint}
use Rattle.object_store.proofs.Destroyed.{IsBehind-emptied, NoneAhead-emptied}
use Rattle.object_store.proofs.laws.none_comes_ahead.Goals as goal

pub returns : goal.returns
returns c = record {
  live = IsBehind-live;
  new = NoneAhead-empty_store;
  slot = NoneAhead-set_slot;
  header = NoneAhead-set_header;
  page = NoneAhead-with_page;
  cappage = NoneAhead-with_cappage;
  process = NoneAhead-with_process;
  endpoint = NoneAhead-with_endpoint;
  risen = IsBehind-emptied;
  destroyed = NoneAhead-emptied;
}
