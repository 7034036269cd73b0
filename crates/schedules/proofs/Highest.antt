-- Looking for the highest queue that is not empty, from above.
use Rattle.std.proofs.Common.{◌≡◌, ℕ, suc, ◌+◌, ◌==◌, true, false, List, [], length, slice_index_or, Some, None, refl, add-one}
use Rattle.std.specs.Bool.{if◌then◌else◌}
use Rattle.schedules.specs.Queues.{highest_below}

-- below no queue there is none
pub highest_none : (ready : List (List ℕ)) → highest_below ready 0 ≡ None
unfolding highest_below
highest_none ready = refl

highest-suc : (ready : List (List ℕ)) (k : ℕ) → highest_below ready (suc k) ≡ (if length (slice_index_or ready k []) == 0 then highest_below ready k else Some k)
unfolding highest_below
highest-suc ready k = refl

-- the one looked at is not empty
pub highest_here : (ready : List (List ℕ)) (n k : ℕ) → n ≡ k + 1 → (length (slice_index_or ready k []) == 0) ≡ false → highest_below ready n ≡ Some k
highest_here ready n k e full = rw (e, add-one, highest-suc ready k, full) refl

-- the one looked at is empty
pub highest_next : (ready : List (List ℕ)) (n k : ℕ) → n ≡ k + 1 → (length (slice_index_or ready k []) == 0) ≡ true → highest_below ready n ≡ highest_below ready k
highest_next ready n k e empty = rw (e, add-one, highest-suc ready k, empty) refl
