-- How many slots a call read that had no memory to go on.
use Rattle.std.proofs.Common.{◌≡◌, ◌≤◌, ℕ, ◌+◌, ◌*◌, List, [], ◌∷◌, length, subst, arith}
use Rattle.machine_state.specs.State.{State}
use Rattle.separation_policy.specs.Policy.{PolicyValue}
use Rattle.separation_check.specs.declared.crossing.Crossing.{Crossing}
use Rattle.policy_lines.specs.Needed.{barred_in, candidates, passages_by, passages_in}
use Rattle.policy_lines.specs.Passages.{ReadsWhole}

-- it read none
pub reads-none : (slots most start : ℕ) → ReadsWhole slots most start start
reads-none slots most start = record { times = 0; few = omega arith; read = omega arith }

-- it had gone through all of them so many times
pub reads-some : (slots most start end times : ℕ) → times ≤ most → end ≡ start + slots * times → ReadsWhole slots most start end
reads-some slots most start end times few read = record { times = times; few = few; read = read }

-- it had gone through all of them once
pub reads-once : (slots most start end : ℕ) → 1 ≤ most → end ≡ start + slots → ReadsWhole slots most start end
reads-once slots most start end some read = record { times = 1; few = some; read = omega (arith, read) }

-- once, and then so many times more
pub reads-more : (slots most tried start after end : ℕ) → most ≡ 1 + tried → after ≡ start + slots → ReadsWhole slots tried after end → ReadsWhole slots most start end
reads-more slots most tried start after end all first more =
    let few = more.few in
    let read = more.read in
    record { times = 1 + more.times; few = omega (arith, all, few); read = omega (arith, first, read) }

-- by another name of how often it goes through them
pub reads-same : (slots most other start end : ℕ) → other ≡ most → ReadsWhole slots other start end → ReadsWhole slots most start end
reads-same slots most other start end same reads = subst (λ n. ReadsWhole slots n start end) same reads

-- the least lines are not found without going through them once
pub passages-some : (policy : PolicyValue) (s : State) → 1 ≤ passages_in policy s
passages-some policy s = by (barred_in policy s)
  where
    by : (found : List Crossing) → 1 ≤ passages_by (length (candidates policy s)) found
    by [] = omega arith
    by (first ∷ rest) = omega arith
