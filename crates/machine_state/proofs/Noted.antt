-- What observers keep of lists of records.
use Rattle.std.proofs.Common.{◌≡◌, Bool, true, false, not, cond, List, [], ◌∷◌, ◌++◌, refl, sym, ap, ◌∙◌, append_assoc}
use Rattle.machine_state.specs.declared.record.Record.{Record}
use Rattle.machine_state.specs.Noted.{noted, is_detail, untraced}

-- of records behind records
pub noted-append : (notes : Record → List Record) (first second : List Record) → noted notes (first ++ second) ≡ noted notes first ++ noted notes second
noted-append notes [] second = refl
noted-append notes (entry ∷ entries) second =
    ap (λ more. notes entry ++ more) (noted-append notes entries second) ∙ sym (append_assoc (notes entry) (noted notes entries) (noted notes second))

-- a trace has all
pub noted-all : (entries : List Record) → noted (λ entry. entry ∷ []) entries ≡ entries
noted-all [] = refl
noted-all (entry ∷ entries) = ap (λ more. entry ∷ more) (noted-all entries)

-- and who keeps those besides accesses and instructions has these
pub noted-untraced : (entries : List Record) → noted (λ entry. untraced (entry ∷ [])) entries ≡ untraced entries
noted-untraced [] = refl
noted-untraced (entry ∷ entries) = ap (λ more. untraced (entry ∷ []) ++ more) (noted-untraced entries) ∙ by (not (is_detail entry))
  where
    by : (b : Bool) → cond b (entry ∷ []) [] ++ untraced entries ≡ cond b (entry ∷ untraced entries) (untraced entries)
    by true = refl
    by false = refl
