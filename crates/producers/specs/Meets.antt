-- What a walk passes on its way to a point: nothing is said of what comes behind it.
use Rattle.std.specs.Prelude.{◌≡◌, ◌⊎◌, ℕ, zero, suc, true, ◌&&◌, ◌≤◌, List, [], ◌∷◌, ◌++◌}
use Rattle.cap_format.specs.Capability.{Capability}
use Rattle.cap_format.specs.Kind.{is_memory}
use Rattle.cap_format.specs.declared.kind.CapKind.TheVariants.{Gpt}
use Rattle.cap_format.specs.declared.item.Item.TheVariants.{Slot}
use Rattle.guard_math.specs.Pass.{passes}
use Rattle.object_store.specs.Store.{Items, slot_at}
use Rattle.walk_meaning.specs.declared.at.At.{At}
use Rattle.walk_meaning.specs.declared.kind.Kind.{Kind}
use Rattle.walk_meaning.specs.declared.noted.Noted.{Noted}
use Rattle.walk_meaning.specs.declared.step.Step.TheVariants.{Go}
use Rattle.walk_meaning.specs.Walk.{past, step}
use Rattle.walk_meaning.specs.Trail.{header_noted, noted}
use Rattle.producers.specs.Producer.{Point}

-- the walk stands at the point, and read nothing from here to there
pub record IsHere (n : ℕ) (c : Capability) (w : At) (p : Point) (reads : List Noted) : Type 0 where
  pub left : p.left ≡ n
  pub cap : p.cap ≡ c
  pub at : p.at ≡ w
  pub none : reads ≡ []

-- the walk goes on with a slot, from which it comes to the point
pub record GoesOn (o : Items) (kind : Kind) (address : ℕ) (c : Capability) (w : At) (reads : List Noted) (Rest : Capability → At → List Noted → Type 0) : Type 0 where
  pub next : At
  pub gpt : ℕ
  pub slot : ℕ
  pub rest : List Noted
  pub steps : step o kind c w ≡ Go next gpt slot
  pub reads_are : reads ≡ header_noted c address w.l2 ++ noted (Slot gpt slot) address next.l2 ∷ rest
  pub further : Rest (slot_at o gpt slot) next rest

-- the walk from here, where n capabilities may be met, comes to the point, and makes these reads before the point's header
unfoldable pub Meets : Items → Kind → ℕ → ℕ → Capability → At → Point → List Noted → Type 0
Meets o kind address zero c w p reads = ⊥
Meets o kind address (suc n) c w p reads =
    IsHere n c w p reads ⊎ GoesOn o kind address c w reads (λ d v rest. Meets o kind address n d v p rest)

-- a walk passes a GPT at a point at which it may join others
pub record PassesAt (p : Point) : Type 0 where
  pub kind : p.cap.kind ≡ Gpt
  pub wide : 22 ≤ (past p.cap p.at).l2
  pub passed : (is_memory p.cap.kind && passes p.cap.guard p.at.address) ≡ true
