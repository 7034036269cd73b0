use Rattle.std.proofs.Common.{◌≡◌, length, replicate, take}
use Rattle.depend_table.specs.Chain.{no_chain}
use Rattle.depend_table.proofs.chain.clear_chains.Given as goal

abbrev pub invariant-chains : goal.invariant-chains
invariant-chains l = record {
  long : length l.chains.items ≡ length l.initial.chains.items;
  done : take l.place l.chains.items ≡ replicate l.place no_chain;
}
