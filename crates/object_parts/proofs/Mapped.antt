-- A loop that puts in place of each element what a function makes of it.
use Rattle.std.proofs.Common.{◌≡◌, ℕ, ◌+◌, ◌<◌, ◌≤◌, ◌==◌, false, zero, suc, List, [], ◌∷◌, map, set, get_or, length, refl, sym, ap, ◌∙◌, arith}
use Rattle.std.proofs.Math.Dec.{eqb-suc-zero}
use Rattle.cap_format.specs.Capability.{Capability, null}
use Rattle.process_objects.specs.Process.{capreg_set}

-- the first `i` elements are what the function makes of them
abbrev pub mapped : {A : Type 0} → (A → A) → ℕ → List A → List A
mapped f zero xs = xs
mapped f (suc i) [] = []
mapped f (suc i) (x ∷ xs) = f x ∷ mapped f i xs

-- no element comes or goes
pub length-mapped : {A : Type 0} (f : A → A) (i : ℕ) (xs : List A) → length (mapped f i xs) ≡ length xs
length-mapped f zero xs = refl
length-mapped f (suc i) [] = refl
length-mapped f (suc i) (x ∷ xs) = ap suc (length-mapped f i xs)

-- the next is as it was
pub mapped_next : {A : Type 0} (f : A → A) (i : ℕ) (xs : List A) (d : A) → get_or (mapped f i xs) i d ≡ get_or xs i d
mapped_next f zero xs d = refl
mapped_next f (suc i) [] d = refl
mapped_next f (suc i) (x ∷ xs) d = mapped_next f i xs d

step : {A : Type 0} (f : A → A) (i : ℕ) (xs : List A) (d : A) → i < length xs → set (mapped f i xs) i (f (get_or xs i d)) ≡ mapped f (suc i) xs
step f zero [] d within = absurd (omega (arith, within))
step f (suc i) [] d within = absurd (omega (arith, within))
step f zero (x ∷ xs) d within = refl
step f (suc i) (x ∷ xs) d within = ap (λ ys. f x ∷ ys) (step f i xs d (omega (arith, within)))

-- one element more
pub mapped_more : {A : Type 0} (f : A → A) (i : ℕ) (xs : List A) (d : A) → i < length xs → set (mapped f i xs) i (f (get_or (mapped f i xs) i d)) ≡ mapped f (i + 1) xs
mapped_more f i xs d within =
    let next : i + 1 ≡ suc i = omega arith in
    ap (λ x. set (mapped f i xs) i (f x)) (mapped_next f i xs d) ∙ step f i xs d within ∙ ap (λ (n : ℕ). mapped f n xs) (sym next)

-- the same of capability registers, of which the first is Null and stays so
pub mapped_register : (f : Capability → Capability) (i : ℕ) (xs : List Capability) → f null ≡ null → get_or xs 0 null ≡ null → i < length xs → capreg_set (mapped f i xs) i (f (get_or (mapped f i xs) i null)) ≡ mapped f (i + 1) xs
mapped_register f zero [] of_null first within = refl
mapped_register f zero (x ∷ xs) of_null first within = ap (λ (c : Capability). c ∷ xs) (first ∙ sym of_null ∙ ap f (sym first))
mapped_register f (suc i) xs of_null first within =
    let later : (suc i == 0) ≡ false = eqb-suc-zero i in
    rw later (mapped_more f (suc i) xs null within)

-- all
pub mapped_all : {A : Type 0} (f : A → A) (i : ℕ) (xs : List A) → length xs ≤ i → mapped f i xs ≡ map f xs
mapped_all f zero [] past = refl
mapped_all f zero (x ∷ xs) past = absurd (omega (arith, past))
mapped_all f (suc i) [] past = refl
mapped_all f (suc i) (x ∷ xs) past = ap (λ ys. f x ∷ ys) (mapped_all f i xs (omega (arith, past)))

-- ---- a loop that puts the elements of a list in place of those of another

-- the first `i` elements are those of the new list
abbrev pub overlaid : {A : Type 0} → List A → ℕ → List A → List A
overlaid new zero old = old
overlaid [] (suc i) old = old
overlaid (x ∷ xs) (suc i) [] = []
overlaid (x ∷ xs) (suc i) (y ∷ ys) = x ∷ overlaid xs i ys

overlaid_step : {A : Type 0} (new : List A) (i : ℕ) (old : List A) (d : A) → i < length new → set (overlaid new i old) i (get_or new i d) ≡ overlaid new (suc i) old
overlaid_step [] i old d within = absurd (omega (arith, within))
overlaid_step (x ∷ xs) zero [] d within = refl
overlaid_step (x ∷ xs) zero (y ∷ ys) d within = refl
overlaid_step (x ∷ xs) (suc i) [] d within = refl
overlaid_step (x ∷ xs) (suc i) (y ∷ ys) d within = ap (λ zs. x ∷ zs) (overlaid_step xs i ys d (omega (arith, within)))

-- one element more
pub overlaid_more : {A : Type 0} (new : List A) (i : ℕ) (old : List A) (d : A) → i < length new → set (overlaid new i old) i (get_or new i d) ≡ overlaid new (i + 1) old
overlaid_more new i old d within =
    let next : i + 1 ≡ suc i = omega arith in
    overlaid_step new i old d within ∙ ap (λ (n : ℕ). overlaid new n old) (sym next)

-- all
pub overlaid_all : {A : Type 0} (new : List A) (i : ℕ) (old : List A) → length new ≤ i → length old ≡ length new → overlaid new i old ≡ new
overlaid_all [] zero [] past same = refl
overlaid_all [] (suc i) [] past same = refl
overlaid_all [] i (y ∷ ys) past same = absurd (omega (arith, same))
overlaid_all (x ∷ xs) i [] past same = absurd (omega (arith, same))
overlaid_all (x ∷ xs) zero (y ∷ ys) past same = absurd (omega (arith, past))
overlaid_all (x ∷ xs) (suc i) (y ∷ ys) past same = ap (λ zs. x ∷ zs) (overlaid_all xs i ys (omega (arith, past)) (omega (arith, same)))
