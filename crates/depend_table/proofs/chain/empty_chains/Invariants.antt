use Rattle.std.proofs.Common.{◌≡◌, replicate}
use Rattle.depend_table.specs.Chain.{no_chain}
use Rattle.depend_table.proofs.chain.empty_chains.Given as goal

abbrev pub invariant-chains : goal.invariant-chains
invariant-chains l = l.chains.items ≡ replicate l.index no_chain
