-- How many all are that several give, and that the room for all of them is enough for each in its turn.
use Rattle.std.proofs.Common.{◌≡◌, ℕ, zero, suc, ◌+◌, ◌*◌, ◌<◌, ◌≤◌, inl, inr, List, [], ◌++◌, length, Option, Some, None, sym, ◌∙◌, ap, arith}
use Rattle.std.proofs.lemmas.Bool.{cases_lt}
use Rattle.std.proofs.lemmas.List.{length-append}
use Rattle.cap_format.specs.declared.kind.CapKind.{CapKind}
use Rattle.cap_format.specs.declared.kind.CapKind.TheVariants.{CapPage, Gpt, Endpoint, Process}
use Rattle.cap_format.specs.Capability.{Capability}
use Rattle.object_store.specs.Store.{Store, size_of}
use Rattle.object_store.specs.Places.{places_in}
use Rattle.separation_policy.specs.Policy.{PolicyValue}
use Rattle.separation_check.specs.Crossings.{all_below, listed, crossing_by, object_crossings, kind_crossings, capability_crossings}
use Rattle.separation_check.proofs.Gathered.{none-yet, below-suc}

-- ---- how many

module _ {A : Type 0} (f : ℕ → List A) where
  pub length-none : length (all_below f 0) ≡ 0
  length-none = sym (ap length (none-yet f []))

  length_suc : (n : ℕ) → length (all_below f (suc n)) ≡ length (all_below f n) + length (f n)
  length_suc n = ap length (below-suc f n) ∙ length-append (all_below f n) (f n)

  -- one more, as a loop counts
  pub length-more : (n : ℕ) → length (all_below f (n + 1)) ≡ length (all_below f n) + length (f n)
  length-more n = let next : n + 1 ≡ suc n = omega arith in ap (λ (k : ℕ). length (all_below f k)) next ∙ length_suc n

  -- fewer give no more
  length-fewer : (n i : ℕ) → i ≤ n → length (all_below f i) ≤ length (all_below f n)
  length-fewer zero i le = let none : i ≡ 0 = omega (arith, le) in let same = ap (λ (k : ℕ). length (all_below f k)) none in omega (arith, same)
  length-fewer (suc n) i le =
      elim (cases_lt i (suc n)) [
        | inl less ↦ let before = length-fewer n i (omega (arith, less)) in let more = length_suc n in omega (arith, before, more)
        | inr all ↦ let whole : i ≡ suc n = omega (arith, all, le) in let same = ap (λ (k : ℕ). length (all_below f k)) whole in omega (arith, same)
      ]

  -- behind those before it, one in its turn needs no more room than all
  pub room-here : (n i : ℕ) (start so_far : List A) → i < n → so_far ≡ start ++ all_below f i → length so_far + length (f i) ≤ length start + length (all_below f n)
  room-here n i start so_far lt is =
      let before = ap length is ∙ length-append start (all_below f i) in
      let with_this = length_suc i in
      let fewer = length-fewer n (suc i) (omega (arith, lt)) in
      omega (arith, before, with_this, fewer)

  -- where each gives no more than `most`
  pub length-most : (most : ℕ) → ((i : ℕ) → length (f i) ≤ most) → (n : ℕ) → length (all_below f n) ≤ most * n
  length-most most each zero = let none = length-none in omega (arith, none)
  length-most most each (suc n) =
      let more = length_suc n in
      let before = length-most most each n in
      let one = each n in
      omega (arith, more, before, one)

pub length-listed : {A : Type 0} (o : Option A) → length (listed o) ≤ 1
length-listed None = omega arith
length-listed (Some x) = omega arith

-- ---- all capabilities of a machine: each place holds one

module _ (policy : PolicyValue) (held : CapKind → ℕ → ℕ → Capability) where
  length-object : (kind : CapKind) (n : ℕ) → length (object_crossings policy held kind n) ≤ places_in kind
  length-object kind n =
      let most = length-most (λ i. listed (crossing_by policy kind n i (held kind n i))) 1 (λ i. length-listed (crossing_by policy kind n i (held kind n i))) (places_in kind) in
      omega (arith, most)

  length-kind : (kind : CapKind) (size : ℕ) → length (kind_crossings policy held kind size) ≤ places_in kind * size
  length-kind kind size = length-most (object_crossings policy held kind) (places_in kind) (length-object kind) size

  pub length-capabilities : (s : Store)
      → length (capability_crossings policy held s) ≤ places_in CapPage * size_of s.items CapPage + places_in Gpt * size_of s.items Gpt + places_in Endpoint * size_of s.items Endpoint + places_in Process * size_of s.items Process
  length-capabilities s =
      let pages = kind_crossings policy held CapPage (size_of s.items CapPage) in
      let gpts = kind_crossings policy held Gpt (size_of s.items Gpt) in
      let endpoints = kind_crossings policy held Endpoint (size_of s.items Endpoint) in
      let processes = kind_crossings policy held Process (size_of s.items Process) in
      let first = length-append pages (gpts ++ (endpoints ++ processes)) in
      let second = length-append gpts (endpoints ++ processes) in
      let third = length-append endpoints processes in
      omega (arith, first, second, third, length-kind CapPage (size_of s.items CapPage), length-kind Gpt (size_of s.items Gpt), length-kind Endpoint (size_of s.items Endpoint), length-kind Process (size_of s.items Process))
