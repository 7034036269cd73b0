-- Ages along touches: lists of touches one after the other, and changes that are told.
use Rattle.std.proofs.Common.{inl, inr, List, [], ◌∷◌, ◌++◌, sym, ◌∙◌}
use Rattle.cap_format.specs.declared.item.Item.{Item}
use Rattle.cap_format.specs.declared.item.Item.TheVariants.{Header, Slot}
use Rattle.object_store.specs.Store.{Items}
use Rattle.object_store.specs.Differ.{DifferIn}
use Rattle.machine_state.specs.Outcome.{Touch}
use Rattle.machine_state.specs.Outcome.Touch.{DataAccess, CapAccess, GptCall, Changed}
use Rattle.fetch_economy.specs.Ages.{AgesAreTold, SameAges, SameAgesBut}

-- touches may begin over other items of the same ages
pub told-same : (o p q : Items) (ts : List Touch) → SameAges o p → AgesAreTold p ts q → AgesAreTold o ts q
told-same o p q [] same told = λ kind n. same kind n ∙ told kind n
told-same o p q (DataAccess r space address kind ∷ ts) same told = (λ kind n. same kind n ∙ told.0 kind n, told.1)
told-same o p q (CapAccess r space address kind ∷ ts) same told = told-same o p q ts same told
told-same o p q (GptCall reads ∷ ts) same told = told-same o p q ts same told
told-same o p q (Changed item ∷ ts) same told = (told.0, λ kind n. elim (told.1 kind n) [ inl here ↦ inl here | inr same_age ↦ inr (same kind n ∙ same_age) ], told.2)

-- one list behind another
pub told-append : (o p q : Items) (ts us : List Touch) → AgesAreTold o ts p → AgesAreTold p us q → AgesAreTold o (ts ++ us) q
told-append o p q [] us told more = told-same o p q us told more
told-append o p q (DataAccess r space address kind ∷ ts) us told more = (told.0, told-append r p q ts us told.1 more)
told-append o p q (CapAccess r space address kind ∷ ts) us told more = told-append o p q ts us told more
told-append o p q (GptCall reads ∷ ts) us told more = told-append o p q ts us told more
told-append o p q (Changed item ∷ ts) us told more = (told.0, told.1, told-append told.0 p q ts us told.2 more)

-- maps that differ in an item alone have the same ages but for its object
pub ages-differ : (item : Item) (o p : Items) → DifferIn item o p → SameAgesBut item o p
ages-differ (Header kind n) o p differ k m = elim (differ.counts k m) [
  | inl here ↦ inl (λ i. Header (sym here.0 i) (sym here.1 i))
  | inr same ↦ inr same
]
ages-differ (Slot g i) o p differ k m = inr (differ.counts k m)
