-- The lines of a policy are between domains that were made.
use Rattle.std.proofs.Common.{ℕ, zero, suc, ◌<◌, ◌≤◌, Bool, true, false, cond, if◌then◌else◌, List, [], ◌∷◌, length, Some, None, sym, subst, arith}
use Rattle.std.specs.List.{All, Contains}
use Rattle.std.proofs.lemmas.List.Elements.{All-append}
use Rattle.separation_policy.specs.Policy.{PolicyValue, may_read, may_write, may_halt, may_log}
use Rattle.separation_check.specs.Crossings.{all_below, listed}
use Rattle.separation_check.proofs.Gathered.{none-yet, below-suc}
use Rattle.policy_lines.specs.declared.permission.Permission.{Permission}
use Rattle.policy_lines.specs.declared.permission.Permission.TheVariants.{Reads, Writes, Halts, Logs}
use Rattle.policy_lines.specs.Permission.{domain_of_line, IsMade, channel_by, channels_from, channels_by, channels_of, halting_by, logging_by, lines_of}

-- ---- elements

module _ {A : Type 0} (P : A → Type 0) where
  pub all-none : All P []
  all-none k d lt = absurd (omega (arith, lt))

  pub all-one : (x : A) → P x → All P (listed (Some x))
  all-one x is zero d lt = is
  all-one x is (suc k) d lt = absurd (omega (arith, lt))

  all-listed : (b : Bool) (x : A) → P x → All P (listed (if b then Some x else None))
  all-listed true x is = all-one x is
  all-listed false x is = all-none

  -- of one that is there or isn't
  pub all-if : (b : Bool) (x : A) → P x → All P (cond b (x ∷ []) [])
  all-if true x is = all-one x is
  all-if false x is = all-none

  -- what holds of all holds of an element
  pub all-has : (xs : List A) (x : A) → All P xs → Contains xs x → P x
  all-has xs x all at = subst P at.2 (all at.0 x at.1)

  all-below : (f : ℕ → List A) (n : ℕ) → ((j : ℕ) → j < n → All P (f j)) → All P (all_below f n)
  all-below f zero each = subst (λ (xs : List A). All P xs) (none-yet f []) all-none
  all-below f (suc n) each =
      subst (λ (xs : List A). All P xs) (sym (below-suc f n))
      (All-append P (all_below f n) (f n) (all-below f n (λ j lt. each j (omega (arith, lt)))) (each n (omega arith)))

-- ---- lines

-- domains that are among so many are among more
pub made-few : (count most : ℕ) (line : Permission) → count ≤ most → IsMade count line → IsMade most line
made-few count most (Reads a b) few made = (omega (arith, few, made.0), omega (arith, few, made.1))
made-few count most (Writes a b) few made = (omega (arith, few, made.0), omega (arith, few, made.1))
made-few count most (Halts a) few made = omega (arith, few, made)
made-few count most (Logs a) few made = omega (arith, few, made)

-- and so is the one that may do something
pub made-domain : (count : ℕ) (line : Permission) → IsMade count line → domain_of_line line < count
made-domain count (Reads a b) made = made.0
made-domain count (Writes a b) made = made.0
made-domain count (Halts a) made = made
made-domain count (Logs a) made = made

module _ (policy : PolicyValue) where
  abbrev count : ℕ
  count = length policy.domains

  made-channel : (writes : Bool) (a b : ℕ) → a < count → b < count → All (IsMade count) (listed (channel_by policy writes a b))
  made-channel true a b one other = all-listed (IsMade count) (may_write policy a b) (Writes a b) (one, other)
  made-channel false a b one other = all-listed (IsMade count) (may_read policy a b) (Reads a b) (one, other)

  made-by : (writes : Bool) → All (IsMade count) (channels_by policy writes)
  made-by writes =
      all-below (IsMade count) (channels_from policy writes) count (λ a one.
      all-below (IsMade count) (λ b. listed (channel_by policy writes a b)) count (λ b other. made-channel writes a b one other))

  pub made-channels : All (IsMade count) (channels_of policy)
  made-channels = All-append (IsMade count) (channels_by policy false) (channels_by policy true) (made-by false) (made-by true)

  pub made-lines : All (IsMade count) (lines_of policy)
  made-lines =
      All-append (IsMade count) (channels_of policy) _ made-channels
      (All-append (IsMade count) (all_below (λ a. listed (halting_by policy a)) count) (all_below (λ a. listed (logging_by policy a)) count)
      (all-below (IsMade count) (λ a. listed (halting_by policy a)) count (λ a lt. all-listed (IsMade count) (may_halt policy a) (Halts a) lt))
      (all-below (IsMade count) (λ a. listed (logging_by policy a)) count (λ a lt. all-listed (IsMade count) (may_log policy a) (Logs a) lt)))
