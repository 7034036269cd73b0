-- Lists that are compared one element after the other.
use Rattle.std.proofs.Common.{◌≡◌, ℕ, ◌+◌, ◌<◌, ◌≤◌, ◌⊎◌, inl, inr, ◌↔◌, Bool, true, false, IsTrue, List, [], ◌∷◌, ◌++◌, get_or, length, map, take, refl, sym, ap, ◌∙◌, subst, arith}
use Rattle.std.proofs.lemmas.Bool.{cases_lt}
use Rattle.std.proofs.lemmas.List.{take_more, length-map, get_or-map}
use Rattle.cap_format.specs.declared.kind.CapKind.{CapKind}
use Rattle.cap_format.specs.declared.kind.CapKind.TheVariants.{Null}
use Rattle.cap_format.specs.Kind.{number_of, is_memory, restr_limit, count_limit, object_limit, payload_limit, slot_limit}
use Rattle.cap_format.specs.Guard.{no_guard}
use Rattle.cap_format.specs.Capability.{Capability, IsCapability, capability, null}
use Rattle.cap_format.proofs.KindNumbers.{kind_of_number}
use Rattle.object_store.specs.Store.{Items}
use Rattle.object_store.specs.Meaning.{live}
use Rattle.object_parts.specs.Same.{same_caps}
use Rattle.object_parts.specs.SameLaws.{caps_decide}

-- an answer that is true exactly where both are equal is that of the test
pub caps_answer : (r : Bool) (a b : List Capability) → (IsTrue r ↔ (a ≡ b)) → r ≡ same_caps a b
caps_answer true a b exactly = sym ((caps_decide a b).1 (exactly.0 refl))
caps_answer false a b exactly = by (same_caps a b) refl
  where
    by : (t : Bool) → same_caps a b ≡ t → false ≡ t
    by true e = exactly.1 ((caps_decide a b).0 e)
    by false e = refl

-- one more element is the same
pub same_more : {A : Type 0} (xs ys : List A) (i : ℕ) (d : A) → i < length xs → i < length ys → take i xs ≡ take i ys → get_or xs i d ≡ get_or ys i d → take (i + 1) xs ≡ take (i + 1) ys
same_more xs ys i d within there same next =
    take_more xs i d within ∙ ap (λ front. front ++ get_or xs i d ∷ []) same ∙ ap (λ x. take i ys ++ x ∷ []) next ∙ sym (take_more ys i d there)

-- the same of capabilities, Null in place of those that are dead
pub live_more : (o : Items) (a b : List Capability) (i n : ℕ) → length a ≡ n → length b ≡ n → i < n → take i (map (live o) a) ≡ take i b → live o (get_or a i null) ≡ get_or b i null → take (i + 1) (map (live o) a) ≡ take (i + 1) b
live_more o a b i n size size_too within same next =
    let here : i < length a = rw size within in
    let there : i < length b = rw size_too within in
    same_more (map (live o) a) b i null (rw (length-map a (live o)) here) there same (get_or-map (live o) a i null null here ∙ next)

-- a capability whose kind is Null has no field
pub null_kind : (c : Capability) → IsCapability c → c.kind ≡ Null → c ≡ null
null_kind c is kind = whole kind restr count (is.unguarded (ap is_memory kind)) object payload slot
  where
    restr : c.restr ≡ 0
    restr = let few : c.restr < 1 = subst (λ (k : CapKind). c.restr < restr_limit k) kind is.restr in omega (arith, few)

    count : c.count ≡ 0
    count = let few : c.count < 1 = subst (λ (k : CapKind). c.count < count_limit k) kind is.count in omega (arith, few)

    object : c.object ≡ 0
    object = let few : c.object < 1 = subst (λ (k : CapKind). c.object < object_limit k) kind is.object in omega (arith, few)

    payload : c.payload ≡ 0
    payload = let few : c.payload < 1 = subst (λ (k : CapKind). c.payload < payload_limit k) kind is.payload in omega (arith, few)

    slot : c.slot ≡ 0
    slot = let few : c.slot < 1 = subst (λ (k : CapKind). c.slot < slot_limit k) kind is.slot in omega (arith, few)

    by : Capability → Capability
    by x = capability x.kind x.restr x.count x.guard x.object x.payload x.slot

    whole : c.kind ≡ Null → c.restr ≡ 0 → c.count ≡ 0 → c.guard ≡ no_guard → c.object ≡ 0 → c.payload ≡ 0 → c.slot ≡ 0 → by c ≡ null
    whole h1 h2 h3 h4 h5 h6 h7 = rw (h1, h2, h3, h4, h5, h6, h7) refl

-- what holds of eight numbers, one after the other, holds of each
pub each_of_eight : (P : ℕ → Type 0) (first : ℕ) → P first → P (first + 1) → P (first + 2) → P (first + 3) → P (first + 4) → P (first + 5) → P (first + 6) → P (first + 7) → (i : ℕ) → first ≤ i → i < first + 8 → P i
each_of_eight P first p0 p1 p2 p3 p4 p5 p6 p7 i from below =
    by (cases_lt i (first + 1)) (cases_lt i (first + 2)) (cases_lt i (first + 3)) (cases_lt i (first + 4)) (cases_lt i (first + 5)) (cases_lt i (first + 6)) (cases_lt i (first + 7))
  where
    at : (k : ℕ) → first + k ≡ i → P (first + k) → P i
    at k same p = subst P same p

    by : (i < first + 1) ⊎ (first + 1 ≤ i) → (i < first + 2) ⊎ (first + 2 ≤ i) → (i < first + 3) ⊎ (first + 3 ≤ i) → (i < first + 4) ⊎ (first + 4 ≤ i) → (i < first + 5) ⊎ (first + 5 ≤ i) → (i < first + 6) ⊎ (first + 6 ≤ i) → (i < first + 7) ⊎ (first + 7 ≤ i) → P i
    by (inl b1) c2 c3 c4 c5 c6 c7 = subst P (omega (arith, from, b1)) p0
    by (inr a1) (inl b2) c3 c4 c5 c6 c7 = at 1 (omega (arith, a1, b2)) p1
    by (inr a1) (inr a2) (inl b3) c4 c5 c6 c7 = at 2 (omega (arith, a2, b3)) p2
    by (inr a1) (inr a2) (inr a3) (inl b4) c5 c6 c7 = at 3 (omega (arith, a3, b4)) p3
    by (inr a1) (inr a2) (inr a3) (inr a4) (inl b5) c6 c7 = at 4 (omega (arith, a4, b5)) p4
    by (inr a1) (inr a2) (inr a3) (inr a4) (inr a5) (inl b6) c7 = at 5 (omega (arith, a5, b6)) p5
    by (inr a1) (inr a2) (inr a3) (inr a4) (inr a5) (inr a6) (inl b7) = at 6 (omega (arith, a6, b7)) p6
    by (inr a1) (inr a2) (inr a3) (inr a4) (inr a5) (inr a6) (inr a7) = at 7 (omega (arith, a7, below)) p7

-- so are two whose kinds have numbers of which the sum is that of Null
pub null_kinds : (a b : Capability) → IsCapability a → IsCapability b → number_of a.kind + number_of b.kind ≡ 0 → (a ≡ null) × (b ≡ null)
null_kinds a b is is_too none =
    (null_kind a is (kind_of_number a.kind Null (omega (arith, none))), null_kind b is_too (kind_of_number b.kind Null (omega (arith, none))))
