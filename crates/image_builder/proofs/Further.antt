-- A listing's statements one after the other: what was assigned so far is what the first of them give.
use Rattle.std.proofs.Common.{◌≡◌, ℕ, ◌+◌, ◌<◌, Bool, false, List, [], ◌∷◌, ◌++◌, length, take, get_or, replicate, sym, ap, subst, ◌∙◌}
use Rattle.std.specs.List.{All}
use Rattle.std.proofs.lemmas.List.{take_more}
use Rattle.object_store.specs.declared.sizes.Sizes.{Sizes}
use Rattle.object_store.specs.Store.{Store, sizes_of}
use Rattle.listing_read.specs.declared.statement.Statement.{Statement}
use Rattle.listing_read.specs.declared.statement.Statement.TheVariants.{Process}
use Rattle.listing_read.specs.Statement.{IsStatement}
use Rattle.image_builder.specs.Given.{last_given, run_given, listed, final_counts, final_objects}
use Rattle.image_builder.specs.Assigned.{empty_with, with_count_of, assigned, flagged, NamesProcess}
use Rattle.image_builder.proofs.Listed.{length-listed, replicate-listed, last_given-nil}
use Rattle.image_builder.proofs.Finals.{flagged-last, with_count_of-last, assigned-last, sizes-empty_with, sizes-final_objects}

-- a statement of a listing names a process of its machine
names_process : (sizes : Sizes) (x : Statement) → IsStatement sizes x → NamesProcess sizes.processes x
names_process sizes (Process number pc space schedule handler runs) is = is.0
names_process sizes x is = tt

-- statement `i` of a listing
module _ (sizes : Sizes) (all xs : List Statement) (i : ℕ) (x : Statement) (same : xs ≡ all) (there : i < length xs) (at : x ≡ get_or xs i x) where
  front_more : take i all ++ x ∷ [] ≡ take (i + 1) all
  front_more = ap (λ ys. take i ys ++ x ∷ []) (sym same) ∙ (ap (λ y. take i xs ++ y ∷ []) at ∙ (sym (take_more xs i x there) ∙ ap (take (i + 1)) same))

  stated : All (IsStatement sizes) all → IsStatement sizes x
  stated range = rw (at, same) (range i x (rw same at there))

  pub count_stated : (s : Store) → s ≡ empty_with sizes (final_counts sizes (take i all)) → All (IsStatement sizes) all → IsStatement (sizes_of s) x
  count_stated s e range = subst (λ z. IsStatement z x) (sym (ap sizes_of e ∙ sizes-empty_with sizes (take i all))) (stated range)

  pub counted_further : (s new : Store) → s ≡ empty_with sizes (final_counts sizes (take i all)) → new ≡ with_count_of s x → new ≡ empty_with sizes (final_counts sizes (take (i + 1) all))
  counted_further s new e done = done ∙ (ap (λ z. with_count_of z x) e ∙ (with_count_of-last sizes (take i all) x ∙ ap (λ ys. empty_with sizes (final_counts sizes ys)) front_more))

  pub thing_stated : (s : Store) → s ≡ final_objects (final_counts sizes all) (take i all) sizes → All (IsStatement sizes) all → IsStatement (sizes_of s) x
  thing_stated s e range = subst (λ z. IsStatement z x) (sym (ap sizes_of e ∙ sizes-final_objects sizes all (take i all))) (stated range)

  pub assigned_further : (s new : Store) → s ≡ final_objects (final_counts sizes all) (take i all) sizes → All (IsStatement sizes) all → new ≡ assigned s x → new ≡ final_objects (final_counts sizes all) (take (i + 1) all) sizes
  assigned_further s new e range done =
      done ∙ (ap (λ z. assigned z x) e ∙ (assigned-last sizes (final_counts sizes all) (take i all) x (stated range) ∙ ap (λ ys. final_objects (final_counts sizes all) ys sizes) front_more))

  pub process_named : (flags : List Bool) (f : ℕ → Bool) → flags ≡ listed sizes.processes f → All (IsStatement sizes) all → NamesProcess (length flags) x
  process_named flags f e range = subst (λ n. NamesProcess n x) (sym (ap length e ∙ length-listed sizes.processes f)) (names_process sizes x (stated range))

  pub flagged_further : (flags new : List Bool) → flags ≡ listed sizes.processes (λ p. last_given (run_given p) false (take i all)) → new ≡ flagged flags x → new ≡ listed sizes.processes (λ p. last_given (run_given p) false (take (i + 1) all))
  flagged_further flags new e done =
      done ∙ (ap (λ l. flagged l x) e ∙ (flagged-last sizes.processes (take i all) x ∙ ap (λ ys. listed sizes.processes (λ p. last_given (run_given p) false ys)) front_more))

-- before the first none runs
pub flagged_first : (n : ℕ) → replicate n false ≡ listed n (λ p. last_given (run_given p) false [])
flagged_first n = simp (last_given-nil, replicate-listed)
