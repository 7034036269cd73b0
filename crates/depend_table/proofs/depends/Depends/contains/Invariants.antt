use Rattle.slab.specs.Slab.{get}
use Rattle.depend_table.specs.Place.{place_of}
use Rattle.depend_table.specs.Chain.{IsChain}
use Rattle.depend_table.proofs.Searched.{Unseen}
use Rattle.depend_table.proofs.depends.Depends.contains.Given as goal

abbrev pub invariant-records : goal.invariant-records
invariant-records l = record {
  chain : IsChain (get l.self-inside.nodes) (place_of l.fn.item) l.chain;
  unseen : Unseen (get l.self-inside.nodes) (place_of l.fn.item) l.chain.length l.root l.block;
}

abbrev pub decreases-records : goal.decreases-records
decreases-records l = l.chain.length
