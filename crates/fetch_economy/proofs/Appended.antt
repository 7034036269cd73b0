-- What is counted of one list of touches behind another.
use Rattle.std.proofs.Common.{◌≡◌, ◌+◌, List, [], ◌∷◌, ◌++◌, arith}
use Rattle.machine_state.specs.Outcome.{Touch}
use Rattle.machine_state.specs.Outcome.Touch.{DataAccess, CapAccess, GptCall, Changed}
use Rattle.fetch_economy.specs.Counts.{accesses}

pub accesses-append : (ts us : List Touch) → accesses (ts ++ us) ≡ accesses ts + accesses us
accesses-append [] us = omega arith
accesses-append (DataAccess o space address kind ∷ ts) us = omega (arith, accesses-append ts us)
accesses-append (CapAccess o space address kind ∷ ts) us = omega (arith, accesses-append ts us)
accesses-append (GptCall reads ∷ ts) us = accesses-append ts us
accesses-append (Changed item ∷ ts) us = accesses-append ts us
