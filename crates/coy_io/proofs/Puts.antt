-- Bytes that a sink takes piece by piece.
use Rattle.std.proofs.Common.{ℕ, ◌≡◌, ◌+◌, ◌-◌, ◌<◌, List, take, drop, Option, subst, arith}
use Rattle.std.specs.Io.KnownBytes.{Appends}
use Rattle.std.proofs.KnownBytes.{Appends-trans}
use Rattle.std.proofs.Math.Seq.{take-add}

-- it took the first `done`, and then those behind them up to `now`
pub taken_more : (a b c : Option (List ℕ)) (bytes : List ℕ) (done now : ℕ) → done < now → Appends a b (take done bytes) → Appends b c (take (now - done) (drop done bytes))
    → Appends a c (take now bytes)
taken_more a b c bytes done now further before more =
    let all : done + (now - done) ≡ now = omega arith in
    subst (λ k. Appends a c (take k bytes)) all (rw take-add (Appends-trans a b c _ _ before more))
