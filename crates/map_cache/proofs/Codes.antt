-- Spaces and keys are told apart by their numbers.
use Rattle.std.proofs.Common.{◌≡◌, ℕ, List, [], ◌++◌, Option, Some, None, refl, sym, ap}
use Rattle.std.specs.Prelude.{slice_index}
use Rattle.cap_format.specs.Capability.{Capability, null}
use Rattle.cap_format.proofs.KindNumbers.{kind_of_number}
use Rattle.depend_table.proofs.Coded.{Coding}
use Rattle.depend_table.proofs.Notes.{tail2, zero_one}
use Rattle.map_cache.specs.declared.key.Key.{Key}
use Rattle.map_cache.specs.Key.{code_of, key_code, no_key, region_code}

-- capabilities of the same numbers are one
pub code_of-apart : (s t : Capability) (rest more : List ℕ) → code_of s ++ rest ≡ code_of t ++ more → s ≡ t
code_of-apart s t rest more e = λ i. record {
  kind = kind_of_number s.kind t.kind (ap (λ (l : List ℕ). slice_index l 0) e) i;
  restr = ap (λ (l : List ℕ). slice_index l 1) e i;
  count = ap (λ (l : List ℕ). slice_index l 2) e i;
  guard = record { l2g = ap (λ (l : List ℕ). slice_index l 3) e i; matches = ap (λ (l : List ℕ). slice_index l 4) e i };
  object = ap (λ (l : List ℕ). slice_index l 5) e i;
  payload = ap (λ (l : List ℕ). slice_index l 6) e i;
  slot = ap (λ (l : List ℕ). slice_index l 7) e i;
}

-- spaces are told apart
abbrev pub space_coding : Coding Capability
space_coding = record { code = code_of; apart = λ s t e. code_of-apart s t [] [] e; blank = null }

-- the numbers behind those of a capability
abbrev pub tail8 : List ℕ → List ℕ
tail8 l = tail2 (tail2 (tail2 (tail2 l)))

region_apart : (i j : Option ℕ) → region_code i ≡ region_code j → i ≡ j
region_apart None None e = refl
region_apart None (Some j) e = zero_one (ap (λ (l : List ℕ). slice_index l 0) e)
region_apart (Some i) None e = zero_one (sym (ap (λ (l : List ℕ). slice_index l 0) e))
region_apart (Some i) (Some j) e = ap (λ (n : ℕ). Some n) (ap (λ (l : List ℕ). slice_index l 1) e)

-- keys with the same numbers are one
pub key_code-apart : (j k : Key) → key_code j ≡ key_code k → j ≡ k
key_code-apart j k e = λ i. record {
  space = code_of-apart j.space k.space (region_code j.region) (region_code k.region) e i;
  region = region_apart j.region k.region (ap tail8 e) i;
}

-- keys are told apart
abbrev pub key_coding : Coding Key
key_coding = record { code = key_code; apart = key_code-apart; blank = no_key }
