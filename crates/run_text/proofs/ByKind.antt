-- Facts about the kinds of objects, one behind the other.
use Rattle.std.proofs.Common.{ℕ, zero, suc, ◌≡◌, ◌+◌, ◌*◌, ◌-◌, ◌<◌, ◌≤◌, List, ◌++◌, slice_index_or, sym, ap, subst, ◌∙◌, arith, append_assoc, add-one, add-zero, add-suc}
use Rattle.cap_format.specs.declared.kind.CapKind.{CapKind}
use Rattle.cap_format.specs.declared.kind.CapKind.TheVariants.{Null, Page, CapPage, Gpt, Endpoint, Process}
use Rattle.object_store.specs.Store.{Items, Store, size_of}
use Rattle.run_text.specs.Each.{each_below}
use Rattle.run_text.specs.Objects.{reads_of}
use Rattle.run_text.specs.State.{kinds, kind_text, objects_text}

-- the kind at a place
abbrev pub kind_at : ℕ → CapKind
kind_at place = slice_index_or kinds place Null

-- the kind at a place of a list that is that of the kinds
pub at_place : (all : List CapKind) (place : ℕ) → all ≡ kinds → slice_index_or all place Null ≡ kind_at place
at_place all place same = ap (λ ks. slice_index_or ks place Null) same

five : (a b c d e : List ℕ) → (((a ++ b) ++ c) ++ d) ++ e ≡ a ++ (b ++ (c ++ (d ++ e)))
five a b c d e = append_assoc ((a ++ b) ++ c) d e ∙ append_assoc (a ++ b) c (d ++ e) ∙ append_assoc a b (c ++ (d ++ e))

-- the texts of all kinds are the text of all objects
pub kinds_all : (s : Store) → each_below (λ place. kind_text s (kind_at place)) 5 ≡ objects_text s
unfolding each_below objects_text
kinds_all s = five (kind_text s Page) (kind_text s CapPage) (kind_text s Gpt) (kind_text s Endpoint) (kind_text s Process)

-- how many slots of GPTs are read for the first so many kinds
unfoldable pub reads_before : Items → ℕ → ℕ
reads_before o zero = 0
reads_before o (suc place) = reads_before o place + reads_of (kind_at place) * size_of o (kind_at place)

reads_before-suc : (o : Items) (place : ℕ) → reads_before o (place + 1) ≡ reads_before o place + reads_of (kind_at place) * size_of o (kind_at place)
unfolding reads_before
reads_before-suc o place = ap (reads_before o) (add-one place)

reads_before-add : (o : Items) (i k : ℕ) → reads_before o i ≤ reads_before o (i + k)
unfolding reads_before
reads_before-add o i zero = let same : reads_before o (i + 0) ≡ reads_before o i = ap (reads_before o) (add-zero i) in omega arith
reads_before-add o i (suc k) =
    let before = reads_before-add o i k in
    let same : reads_before o (i + suc k) ≡ reads_before o (suc (i + k)) = ap (reads_before o) (add-suc i k) in
    omega arith

-- for all kinds, those of the GPTs
reads_all : (o : Items) → reads_before o 5 ≡ 16 * size_of o Gpt
unfolding reads_before
reads_all o = omega arith

-- nothing was read for none
pub reads_none : (o : Items) (n : ℕ) → n ≡ n + reads_before o 0
unfolding reads_before
reads_none o n = omega arith

module _ (o : Items) (place : ℕ) (kind : CapKind) (is : kind ≡ kind_at place) (was before : ℕ) (done : before ≡ was + reads_before o place) where
  next : reads_before o (place + 1) ≡ reads_before o place + reads_of kind * size_of o kind
  next = reads_before-suc o place ∙ ap (λ k. reads_before o place + reads_of k * size_of o k) (sym is)

  -- so many were read for one more
  pub reads_more : (now : ℕ) → now ≡ before + reads_of kind * size_of o kind → now ≡ was + reads_before o (place + 1)
  reads_more now one = let next = next in omega arith

  -- and no more than all for a part of it
  pub reads_most : (now : ℕ) → place < 5 → now ≤ before + reads_of kind * size_of o kind → now ≤ was + 16 * size_of o Gpt
  reads_most now inside one =
      let next = next in
      let all = reads_all o in
      let same : 5 ≡ place + 1 + (5 - (place + 1)) = omega arith in
      let later : reads_before o (place + 1) ≤ reads_before o 5 = subst (λ k. reads_before o (place + 1) ≤ reads_before o k) (sym same) (reads_before-add o (place + 1) (5 - (place + 1))) in
      omega arith

-- at the end all were read
pub reads_done : (o : Items) (place was now : ℕ) → 5 ≤ place → place ≤ 5 → now ≡ was + reads_before o place → now ≡ was + 16 * size_of o Gpt
reads_done o place was now past within done =
    let all = reads_all o in
    let same : place ≡ 5 = omega arith in
    let equal : reads_before o place ≡ reads_before o 5 = ap (reads_before o) same in
    omega arith
