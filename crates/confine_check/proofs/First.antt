-- The first of several answers, as a loop finds it.
use Rattle.std.proofs.Common.{◌≡◌, ℕ, zero, suc, ◌+◌, ◌-◌, ◌*◌, ◌<◌, ◌≤◌, Option, Some, None, refl, ◌∙◌, ap, arith}
use Rattle.std.specs.Option.{option_or}
use Rattle.cap_format.specs.declared.kind.CapKind.{CapKind}
use Rattle.cap_format.specs.declared.kind.CapKind.TheVariants.{CapPage, Gpt, Endpoint, Process}
use Rattle.object_store.specs.Places.{places_in, reads_in, object_reads}
use Rattle.confine_check.specs.Breach.{first_from}

module _ {A : Type 0} (f : ℕ → Option A) where
  -- nothing is asked
  pub first_zero : (i : ℕ) → first_from f i zero ≡ None
  unfolding first_from
  first_zero i = refl

  -- one is asked, and then the rest
  pub first_suc : (i n : ℕ) → first_from f i (suc n) ≡ option_or (f i) (first_from f (suc i) n)
  unfolding first_from
  first_suc i n = refl

  -- where one gives nothing, the rest is asked
  pub first_next : (i j n : ℕ) → i < n → j ≡ i + 1 → f i ≡ None → first_from f 0 n ≡ first_from f i (n - i) → first_from f 0 n ≡ first_from f j (n - j)
  first_next i j n lt next none so_far =
      let count : n - i ≡ suc (n - j) = omega (arith, lt, next) in
      let follows : suc i ≡ j = omega (arith, next) in
      so_far
      ∙ (ap (λ m. first_from f i m) count
      ∙ (first_suc i (n - j)
      ∙ (ap (λ o. option_or o (first_from f (suc i) (n - j))) none
      ∙ ap (λ k. first_from f k (n - j)) follows)))

  -- one that gives something is the first
  pub first_here : (i n : ℕ) (x : A) → i < n → f i ≡ Some x → first_from f 0 n ≡ first_from f i (n - i) → first_from f 0 n ≡ Some x
  first_here i n x lt some so_far =
      let count : n - i ≡ suc (n - (i + 1)) = omega (arith, lt) in
      so_far
      ∙ (ap (λ m. first_from f i m) count
      ∙ (first_suc i (n - (i + 1))
      ∙ ap (λ o. option_or o (first_from f (suc i) (n - (i + 1)))) some))

  -- past the last there is none
  pub first_past : (i n : ℕ) → n ≤ i → first_from f 0 n ≡ first_from f i (n - i) → first_from f 0 n ≡ None
  first_past i n le so_far =
      let count : n - i ≡ zero = omega (arith, le) in
      so_far ∙ (ap (λ m. first_from f i m) count ∙ first_zero i)

-- the reads of an object are those of its places
pub reads-places : (kind : CapKind) → reads_in kind * places_in kind ≡ object_reads kind
reads-places CapPage = refl
reads-places Gpt = refl
reads-places Endpoint = refl
reads-places Process = refl
reads-places _ = refl

-- one read more for each place more
pub reads-more : (reads i : ℕ) → reads * i + reads ≡ reads * (i + 1)
reads-more reads i = omega arith
