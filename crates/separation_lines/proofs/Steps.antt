-- What is so behind the steps by which a line is read.
use Rattle.std.proofs.Common.{◌≡◌, ◌∙◌, Bool, true, false, if◌then◌else◌, Result, Ok, Err, refl, ap}
use Rattle.std.specs.Prelude.{IfOk}
use Rattle.listing_read.specs.Faults.{◌>>=◌}
use Rattle.listing_read.specs.declared.object_fault.PolicyFault.{PolicyFault}

-- what is so of all that the next step gives is so of what both give
pub IfOk-behind : {A B : Type 0} (step : Result A PolicyFault) (next : A → Result B PolicyFault) (P : B → Type 0) → ((x : A) → step ≡ Ok x → IfOk (next x) P) → IfOk (step >>= next) P
IfOk-behind (Ok x) next P so = so x refl
IfOk-behind (Err fault) next P so = tt

-- the same steps give the same
pub same-steps : {A B : Type 0} (step other : Result A PolicyFault) (next after : A → Result B PolicyFault) → step ≡ other → ((x : A) → next x ≡ after x) → (step >>= next) ≡ (other >>= after)
same-steps (Ok x) (Ok y) next after same each = let one : x ≡ y = cc in each x ∙ ap after one
same-steps (Ok x) (Err fault) next after same each = cc
same-steps (Err fault) (Ok y) next after same each = cc
same-steps (Err fault) (Err other) next after same each = let one : fault ≡ other = cc in ap Err one

-- and so does the same choice
pub same-if : {A : Type 0} (b : Bool) (x y z w : A) → (b ≡ true → x ≡ z) → (b ≡ false → y ≡ w) → (if b then x else y) ≡ (if b then z else w)
same-if true x y z w one other = one refl
same-if false x y z w one other = other refl
