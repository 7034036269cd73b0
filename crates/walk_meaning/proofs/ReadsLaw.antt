-- The proof that each read of a trail is of an item that there may be, in the block of its size round the address.
use Rattle.std.proofs.Common.{◌≡◌, ℕ, zero, suc, ◌^◌, ◌<◌, ◌≤◌, Bool, true, false, if◌then◌else◌, List, [], ◌∷◌, ◌++◌, refl, sym, ◌∙◌, subst, arith}
use Rattle.std.specs.List.{AllByRecursion as Each}
use Rattle.cap_format.specs.Capability.{Capability, IsCapability}
use Rattle.cap_format.specs.Item.{IsItem}
use Rattle.cap_format.specs.Kind.{is_counted, is_object, object_kind, object_limit}
use Rattle.cap_format.specs.declared.item.Item.TheVariants.{Header}
use Rattle.cap_format.specs.declared.kind.CapKind.{CapKind}
use Rattle.cap_format.specs.declared.kind.CapKind.TheVariants.{Page, CapPage, Gpt, Endpoint, Entry, Process}
use Rattle.guard_math.specs.Block.{IsBlock, around, covers}
use Rattle.guard_math.proofs.BlockLaws.{IsBlock-around, covers-around_self, holds-page}
use Rattle.object_store.specs.Store.{Items, slot_at}
use Rattle.object_store.specs.Ranges.{IsRanged}
use Rattle.object_store.proofs.Ranged.{IsHeader-header_at, IsCapability-slot_at}
use Rattle.walk_meaning.specs.declared.at.At.{At}
use Rattle.walk_meaning.specs.declared.kind.Kind.{Kind}
use Rattle.walk_meaning.specs.declared.noted.Noted.{Noted}
use Rattle.walk_meaning.specs.declared.step.Step.{Step}
use Rattle.walk_meaning.specs.declared.step.Step.TheVariants.{Reach, Fault, Go}
use Rattle.walk_meaning.specs.Walk.{step, start_at}
use Rattle.walk_meaning.specs.Trail.{noted, header_noted, trail_from, trail}
use Rattle.walk_meaning.specs.After.{trail_after}
use Rattle.walk_meaning.proofs.Walked.{trail_from-zero, trail_from-suc}
use Rattle.walk_meaning.specs.Bounds.{IsAt, GoesBelow}
use Rattle.walk_meaning.proofs.StepBounds.{goes_below}
use Rattle.walk_meaning.specs.Laws.{IsRead, ReadsLaw}

-- a read of an item that there may be, in the block of its size round the address
pub record NotedAt (a : ℕ) (n : Noted) : Type 0 where
  pub item_is : IsItem n.item
  pub round : n.block ≡ around a n.block.l2
  pub low : 12 ≤ n.block.l2
  pub high : n.block.l2 ≤ 32

-- the header of what a capability names is an item
named_object : (k : CapKind) → is_counted k ≡ true → (is_object (object_kind k) ≡ true) × (object_limit (object_kind k) ≡ object_limit k)
named_object Page e = (refl, refl)
named_object CapPage e = (refl, refl)
named_object Gpt e = (refl, refl)
named_object Endpoint e = (refl, refl)
named_object Entry e = (refl, refl)
named_object Process e = (refl, refl)
named_object _ e = absurd (cc (e))

named_item : (c : Capability) → IsCapability c → is_counted c.kind ≡ true → IsItem (Header (object_kind c.kind) c.object)
named_item c is counted = let object = named_object c.kind counted in (object.0, rw object.1 is.object)

-- what holds of each read of two lists holds of each read of both together
pub each-append : (P : Noted → Type 0) (xs ys : List Noted) → Each P xs → Each P ys → Each P (xs ++ ys)
each-append P [] ys ps qs = qs
each-append P (x ∷ xs) ys ps qs = (ps.0, each-append P xs ys ps.1 qs)

-- what holds of each read holds of one among them
pub each-middle : (P : Noted → Type 0) (before after : List Noted) (n : Noted) → Each P (before ++ n ∷ after) → P n
each-middle P [] after n ps = ps.0
each-middle P (x ∷ before) after n ps = each-middle P before after n ps.1

each-map : (P Q : Noted → Type 0) → ((n : Noted) → P n → Q n) → (xs : List Noted) → Each P xs → Each Q xs
each-map P Q f [] ps = tt
each-map P Q f (x ∷ xs) ps = (f x ps.0, each-map P Q f xs ps.1)

module _ (o : Items) (ranged : IsRanged o) (kind : Kind) (a : ℕ) where
  abbrev Rest : ℕ → Type 0
  Rest n = (c : Capability) (w : At) → IsCapability c → IsAt 1024 w → Each (NotedAt a) (trail_from o kind a n c w)

  noted_header : (c : Capability) (w : At) → IsCapability c → IsAt 1024 w → (b : Bool) → is_counted c.kind ≡ b → Each (NotedAt a) (if b then noted (Header (object_kind c.kind) c.object) a w.l2 ∷ [] else [])
  noted_header c w is at true counted = (record { item_is = named_item c is counted; round = refl; low = at.low; high = at.high }, tt)
  noted_header c w is at false counted = tt

  noted_after : (n : ℕ) → Rest n → (s : Step) → GoesBelow 1024 s → Each (NotedAt a) (trail_after o kind a n s)
  noted_after n ih (Reach place) below = tt
  noted_after n ih (Fault code handler) below = tt
  noted_after n ih (Go next g i) below = (
    record { item_is = (below.1, below.2); round = refl; low = below.0.low; high = below.0.high },
    ih (slot_at o g i) next (IsCapability-slot_at o ranged g i) below.0,
  )

  noted_suc : (n : ℕ) → Rest n → Rest (suc n)
  noted_suc n ih c w is at =
      let there : c.kind ≡ Gpt → c.object < 1024 = λ k. rw k at is.object in
      let below = goes_below 1024 o (IsHeader-header_at o ranged) c is there w at kind (step o kind c w) refl in
      subst (Each (NotedAt a)) (sym (trail_from-suc o kind a n c w))
      (each-append (NotedAt a) (header_noted c a w.l2) (trail_after o kind a n (step o kind c w))
      (noted_header c w is at (is_counted c.kind) refl) (noted_after n ih (step o kind c w) below))

  -- all reads of a walk are such, from wherever it stands
  pub noted_from : (n : ℕ) → Rest n
  noted_from zero c w is at = subst (Each (NotedAt a)) (sym (trail_from-zero o kind a c w)) tt
  noted_from (suc n) c w is at = noted_suc n (noted_from n) c w is at

-- each read of an access
pub noted_at : (o : Items) (c : Capability) (a : ℕ) (kind : Kind) → IsRanged o → IsCapability c → Each (NotedAt a) (trail o c a kind)
noted_at o c a kind ranged is =
    noted_from o ranged kind a 32 c (start_at a) is (record { holding = tt; background = tt; handler = tt; low = omega arith; high = omega arith })

is_read : (a : ℕ) → a < 2 ^ 32 → (n : Noted) → NotedAt a n → IsRead a n
is_read a fits n at =
    let block : IsBlock n.block = rw at.round (IsBlock-around a n.block.l2 at.low at.high fits) in
    let covered : covers n.block a ≡ true = rw at.round (covers-around_self a n.block.l2) in
    record { item = at.item_is; block = block; covered = covered; held = holds-page n.block block a ∙ covered }

-- each read is one of the address's
pub reads_law : ReadsLaw
reads_law o c address kind ranged is fits = each-map (NotedAt address) (IsRead address) (is_read address fits) (trail o c address kind) (noted_at o c address kind ranged is)
