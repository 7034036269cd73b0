-- Keys are told apart by their numbers.
use Rattle.std.proofs.Common.{◌≡◌, ℕ, List, Option, Some, None, refl, sym, ap, arith}
use Rattle.std.specs.Prelude.{slice_index}
use Rattle.producers.specs.declared.producer.Background.{Background}
use Rattle.depend_table.proofs.Coded.{Coding}
use Rattle.depend_table.proofs.Notes.{tail2, zero_one}
use Rattle.map_cache.proofs.Codes.{code_of-apart, tail8}
use Rattle.shared_leaves.specs.declared.key.Key.{Key}
use Rattle.shared_leaves.specs.declared.key.Table.{Table}
use Rattle.shared_leaves.specs.declared.key.Table.TheVariants.{Producer, Region, Root}
use Rattle.shared_leaves.specs.Key.{background_code, key_code, no_key, table_code}

-- the numbers behind the first six
abbrev tail6 : List ℕ → List ℕ
tail6 l = tail2 (tail2 (tail2 l))

background_apart : (b c : Option Background) → background_code b ≡ background_code c → b ≡ c
background_apart None None e = refl
background_apart None (Some c) e = zero_one (ap (λ (l : List ℕ). slice_index l 0) e)
background_apart (Some b) None e = zero_one (sym (ap (λ (l : List ℕ). slice_index l 0) e))
background_apart (Some b) (Some c) e = λ i. Some (record { gpt = ap (λ (l : List ℕ). slice_index l 1) e i; age = ap (λ (l : List ℕ). slice_index l 2) e i })

table_apart : (t u : Table) → table_code t ≡ table_code u → t ≡ u
table_apart Root Root e = refl
table_apart Root (Region r) e = zero_one (ap (λ (l : List ℕ). slice_index l 0) e)
table_apart Root (Producer p) e = absurd (let no : ◌≡◌ {A = ℕ} 0 2 = ap (λ (l : List ℕ). slice_index l 0) e in omega (arith, no))
table_apart (Region r) Root e = zero_one (sym (ap (λ (l : List ℕ). slice_index l 0) e))
table_apart (Region r) (Region s) e = ap (λ (n : ℕ). Region n) (ap (λ (l : List ℕ). slice_index l 1) e)
table_apart (Region r) (Producer p) e = absurd (let no : ◌≡◌ {A = ℕ} 1 2 = ap (λ (l : List ℕ). slice_index l 0) e in omega (arith, no))
table_apart (Producer p) Root e = absurd (let no : ◌≡◌ {A = ℕ} 2 0 = ap (λ (l : List ℕ). slice_index l 0) e in omega (arith, no))
table_apart (Producer p) (Region r) e = absurd (let no : ◌≡◌ {A = ℕ} 2 1 = ap (λ (l : List ℕ). slice_index l 0) e in omega (arith, no))
table_apart (Producer p) (Producer q) e = λ i. Producer (record {
  gpt = ap (λ (l : List ℕ). slice_index l 1) e i;
  age = ap (λ (l : List ℕ). slice_index l 2) e i;
  top = ap (λ (l : List ℕ). slice_index l 3) e i;
  restr = record { 0 = ap (λ (l : List ℕ). slice_index l 4) e i };
  left = ap (λ (l : List ℕ). slice_index l 5) e i;
  background = background_apart p.background q.background (ap tail6 e) i;
})

-- keys with the same numbers are one
pub key_code-apart : (j k : Key) → key_code j ≡ key_code k → j ≡ k
key_code-apart j k e = λ i. record {
  space = code_of-apart j.space k.space (table_code j.table) (table_code k.table) e i;
  table = table_apart j.table k.table (ap tail8 e) i;
}

-- keys are told apart
abbrev pub key_coding : Coding Key
key_coding = record { code = key_code; apart = key_code-apart; blank = no_key }
