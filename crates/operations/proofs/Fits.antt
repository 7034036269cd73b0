-- Answers that change the object that is asked, or nothing, and leave no capability ahead.
use Rattle.std.proofs.Common.{◌≡◌, ℕ, List, [], ◌∷◌}
use Rattle.std.specs.Option.{IfSome}
use Rattle.cap_format.specs.declared.code.Code.{Code}
use Rattle.cap_format.specs.Capability.{Capability}
use Rattle.object_store.specs.Store.{Store}
use Rattle.object_store.specs.Ahead.{IsBehind, NoneAhead}
use Rattle.object_store.specs.Object.{object_name}
use Rattle.schedules.specs.Queues.{QueuesValue}
use Rattle.operations.specs.Change.{Change, Left, Readied, Woken, Destroyed}
use Rattle.operations.specs.Row.{Answer, refused, tells, gives, does}
use Rattle.operations.specs.Changed.{names_of}
use Rattle.operations.proofs.Applied.{WritesBehind}

-- the change writes one object: nobody changes his place, and nothing is destroyed
abbrev pub IsWrite : Change → Type 0
IsWrite (Left p) = ⊥
IsWrite (Readied p) = ⊥
IsWrite (Woken p) = ⊥
IsWrite (Destroyed kind n) = ⊥
IsWrite _ = Unit {0}

-- one change of which this holds, or none
abbrev pub AtMostOne : (Change → Type 0) → List Change → Type 0
AtMostOne P [] = Unit {0}
AtMostOne P (change ∷ []) = P change
AtMostOne P (change ∷ other ∷ changes) = ⊥

-- the change writes the object that the capability names
pub record IsOwn (c : Capability) (change : Change) : Type 0 where
  pub write : IsWrite change
  pub name : (q : QueuesValue) → names_of q change ≡ object_name c.kind c.object ∷ []

-- the answer changes the object that the capability names, or nothing, and what it writes and gives is not ahead
pub record Fits (s : Store) (c : Capability) (answer : Answer) : Type 0 where
  pub own : AtMostOne (IsOwn c) answer.changes
  pub writes : NoneAhead s → AtMostOne (WritesBehind s.items) answer.changes
  pub gives_behind : NoneAhead s → IfSome answer.cap (IsBehind s.items)

-- ---- the forms of an answer

pub fits_refused : (s : Store) (c : Capability) (code : Code) → Fits s c (refused code).answer
fits_refused s c code = record { own = tt; writes = λ none. tt; gives_behind = λ none. tt }

pub fits_words : (s : Store) (c : Capability) (a b d : ℕ) → Fits s c (tells a b d)
fits_words s c a b d = record { own = tt; writes = λ none. tt; gives_behind = λ none. tt }

pub fits_cap : (s : Store) (c : Capability) (given : Capability) → (NoneAhead s → IsBehind s.items given) → Fits s c (gives given)
fits_cap s c given behind = record { own = tt; writes = λ none. tt; gives_behind = behind }

pub fits_change : (s : Store) (c : Capability) (change : Change) → ((q : QueuesValue) → names_of q change ≡ object_name c.kind c.object ∷ []) → IsWrite change → (NoneAhead s → WritesBehind s.items change) → Fits s c (does (change ∷ []))
fits_change s c change name write behind = record { own = record { write = write; name = name }; writes = behind; gives_behind = λ none. tt }
