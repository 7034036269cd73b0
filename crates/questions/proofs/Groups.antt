-- Groups of atoms, one after the other.
use Rattle.std.proofs.Common.{◌≡◌, ◌∙◌, ℕ, ◌+◌, ◌<◌, ◌||◌, Bool, true, List, length, drop, get_or, ap, subst, arith, length-append}
use Rattle.std.specs.List.{All}
use Rattle.std.proofs.lemmas.List.{drop_more, get_or_append_left, get_or-append-add}
use Rattle.object_store.specs.declared.sizes.Sizes.{Sizes}
use Rattle.machine_state.specs.State.{State}
use Rattle.questions.specs.declared.atom.Atom.{Atom}
use Rattle.questions.specs.Atom.{IsAtomOf, all_hold}
use Rattle.questions.specs.Question.{PropertyValue, IsPropertyOf, any_holds}

module _ (crossing : Bool) (s : State) (groups : List (List Atom)) (i : ℕ) (d : List Atom) (within : i < length groups) where
  -- the next group, and those behind it
  any-next : any_holds crossing s (drop i groups) ≡ (all_hold crossing s (get_or groups i d) || any_holds crossing s (drop (i + 1) groups))
  any-next = ap (any_holds crossing s) (drop_more groups i d within)

  -- the next group holds
  pub any-here : all_hold crossing s (get_or groups i d) ≡ true → any_holds crossing s (drop i groups) ≡ true
  any-here here = any-next ∙ ap (λ (b : Bool). b || any_holds crossing s (drop (i + 1) groups)) here

-- ---- the two lists of groups of a property: all of both name what the machine has

module _ (sizes : Sizes) (property : PropertyValue) (all : IsPropertyOf sizes property) where
  pub first-range : All (All (IsAtomOf sizes)) property.first
  first-range i d within =
      subst (All (IsAtomOf sizes)) (get_or_append_left property.first property.groups d i within)
      (all i d (omega (arith, within, length-append property.first property.groups)))

  pub groups-range : All (All (IsAtomOf sizes)) property.groups
  groups-range i d within =
      subst (All (IsAtomOf sizes)) (get_or-append-add property.first property.groups i d)
      (all (length property.first + i) d (omega (arith, within, length-append property.first property.groups)))
