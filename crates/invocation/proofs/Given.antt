-- Capabilities that are given one after the other.
use Rattle.std.proofs.Common.{◌≡◌, ℕ, ◌+◌, ◌<◌, ◌≤◌, min, inl, inr, List, [], ◌∷◌, length, get_or, drop, map, refl, ap, ◌∙◌, arith}
use Rattle.std.specs.List.{All}
use Rattle.std.proofs.lemmas.Bool.{cases_lt}
use Rattle.std.proofs.lemmas.List.{drop_more, drop_all}
use Rattle.std.proofs.lemmas.List.Elements.{All-tail}
use Rattle.cap_format.specs.Capability.{Capability, null}
use Rattle.object_store.specs.Meaning.{process_map}
use Rattle.object_store.proofs.Means.{process_map-with_capreg}
use Rattle.object_store.proofs.Each.{capreg_set-each}
use Rattle.process_objects.specs.Process.{ProcessValue, with_capreg}
use Rattle.invocation.specs.Delivery.{given}

-- the next one
pub given_more : (process : ProcessValue) (is : List ℕ) (caps : List Capability) (i : ℕ) (d : Capability) → i < length is → i < length caps
    → given process (drop i is) (drop i caps) ≡ given (with_capreg process (get_or is i 0) (get_or caps i d)) (drop (i + 1) is) (drop (i + 1) caps)
unfolding given
given_more process is caps i d register cap =
    ap (λ rest. given process rest (drop i caps)) (drop_more is i 0 register) ∙ ap (given process (get_or is i 0 ∷ drop (i + 1) is)) (drop_more caps i d cap)

-- nothing is given where no register is left
given_nowhere : (process : ProcessValue) (caps : List Capability) → given process [] caps ≡ process
unfolding given
given_nowhere process caps = refl

-- .. or no capability
given_nothing : (process : ProcessValue) (is : List ℕ) → given process is [] ≡ process
unfolding given
given_nothing process [] = refl
given_nothing process (i ∷ is) = refl

-- all are given where no register or no capability is left
pub given_all : (process : ProcessValue) (is : List ℕ) (caps : List Capability) (i : ℕ) → min (length is) (length caps) ≤ i → given process (drop i is) (drop i caps) ≡ process
given_all process is caps i past = elim (cases_lt i (length is)) [
  | inl there ↦ ap (given process (drop i is)) (drop_all i caps (omega arith)) ∙ given_nothing process (drop i is)
  | inr none ↦ ap (λ rest. given process rest (drop i caps)) (drop_all i is none) ∙ given_nowhere process (drop i caps)
]

-- ---- what a function of each capability makes of it, and what stays

module _ (f : Capability → Capability) (null_is : f null ≡ null) where
  -- capabilities that are given, each with the function applied to it
  pub given_map : (process : ProcessValue) (is : List ℕ) (caps : List Capability) → process_map f (given process is caps) ≡ given (process_map f process) is (map f caps)
  unfolding given
  given_map process [] caps = refl
  given_map process (i ∷ is) [] = refl
  given_map process (i ∷ is) (c ∷ cs) = given_map (with_capreg process i c) is cs ∙ ap (λ x. given x is (map f cs)) (process_map-with_capreg f null_is process i c)

-- the capability registers have what they had and what is given
pub given_each : (P : Capability → Type 0) → P null → (process : ProcessValue) (is : List ℕ) (caps : List Capability) → All P caps → All P process.capregs → All P (given process is caps).capregs
unfolding given
given_each P of_null process [] caps new old = old
given_each P of_null process (i ∷ is) [] new old = old
given_each P of_null process (i ∷ is) (c ∷ cs) new old =
    given_each P of_null (with_capreg process i c) is cs (All-tail P c cs new) (capreg_set-each P of_null process.capregs i c (new 0 c (omega arith)) old)

pub given-slots : (process : ProcessValue) (is : List ℕ) (caps : List Capability) → (given process is caps).slots ≡ process.slots
unfolding given
given-slots process [] caps = refl
given-slots process (i ∷ is) [] = refl
given-slots process (i ∷ is) (c ∷ cs) = given-slots (with_capreg process i c) is cs
