-- The proof of the block law: walks of addresses that are alike from bit l on make the same reads, as long as
-- these note blocks of a size not below 2^l; and sizes never rise along a trail.
use Rattle.std.proofs.Common.{◌≡◌, ℕ, zero, suc, ◌/◌, ◌^◌, ◌≤◌, Bool, true, false, if◌then◌else◌, List, [], ◌∷◌, ◌++◌, refl, sym, ◌∙◌, ap, subst}
use Rattle.std.proofs.Math.Nat.{le_trans, le_refl}
use Rattle.std.proofs.lemmas.Bool.{eqb-true}
use Rattle.cap_format.specs.Capability.{Capability, IsCapability}
use Rattle.cap_format.specs.Kind.{is_counted, object_kind}
use Rattle.cap_format.specs.declared.item.Item.TheVariants.{Header}
use Rattle.std.specs.List.{AllByRecursion as Each}
use Rattle.guard_math.specs.Block.{BlockValue, covers}
use Rattle.guard_math.proofs.BlockLaws.{covers-around}
use Rattle.object_store.specs.Store.{Items, slot_at}
use Rattle.object_store.specs.Ranges.{IsRanged}
use Rattle.object_store.proofs.Ranged.{IsCapability-slot_at}
use Rattle.walk_meaning.specs.declared.at.At.{At}
use Rattle.walk_meaning.specs.declared.kind.Kind.{Kind}
use Rattle.walk_meaning.specs.declared.noted.Noted.{Noted}
use Rattle.walk_meaning.specs.declared.step.Step.{Step}
use Rattle.walk_meaning.specs.declared.step.Step.TheVariants.{Reach, Fault, Go}
use Rattle.walk_meaning.specs.Walk.{step, start_at}
use Rattle.walk_meaning.specs.Trail.{noted, header_noted, trail_from, trail}
use Rattle.walk_meaning.specs.After.{trail_after}
use Rattle.walk_meaning.proofs.Walked.{trail_from-zero, trail_from-suc}
use Rattle.walk_meaning.proofs.Alike.{Alike}
use Rattle.walk_meaning.proofs.Along.{at, goes_along, goes_shrinks, header-alike, slot-alike}
use Rattle.walk_meaning.proofs.ReadsLaw.{NotedAt, noted_at, each-middle}
use Rattle.walk_meaning.specs.Laws.{BlockLaw}

-- ---- the second list begins as the first, as long as that has blocks of a size not below 2^l

-- the second list has every read of the first up to the one, if any, whose block is smaller than 2^l
abbrev pub Upto : ℕ → List Noted → List Noted → Type 0
Upto l [] ys = Unit {0}
Upto l (x ∷ xs) ys = l ≤ x.block.l2 → (zs : List Noted) × ((ys ≡ x ∷ zs) × Upto l xs zs)

upto-header : (l : ℕ) (b : Bool) (x : Noted) (xs ys : List Noted) → Upto l xs ys → Upto l ((if b then x ∷ [] else []) ++ xs) ((if b then x ∷ [] else []) ++ ys)
upto-header l true x xs ys upto = λ le. (ys, (refl, upto))
upto-header l false x xs ys upto = upto

module _ (l : ℕ) (page : 12 ≤ l) (o : Items) (ranged : IsRanged o) (j k : Kind) (a b : ℕ) (near : Alike l a b) where
  abbrev Rest : ℕ → Type 0
  Rest n = (c : Capability) (w : At) (y : ℕ) → IsCapability c → l ≤ w.l2 → Alike l w.address y → Upto l (trail_from o j a n c w) (trail_from o k b n c (at w y))

  upto_after : (n : ℕ) → Rest n → (c : Capability) (w : At) (y : ℕ) → IsCapability c → Alike l w.address y → (s : Step) → step o j c w ≡ s
      → Upto l (trail_after o j a n s) (trail_after o k b n (step o k c (at w y)))
  upto_after n ih c w y is alike (Reach p) e = tt
  upto_after n ih c w y is alike (Fault code handler) e = tt
  upto_after n ih c w y is alike (Go next g i) e = λ le.
      let along = goes_along l page o k c is w y alike j next g i e le in
      let tail : List Noted = trail_from o k b n (slot_at o g i) (at next along.z) in (
        tail,
        (
          ap (λ (t : Step). trail_after o k b n t) along.steps ∙ ap (λ (m : Noted). m ∷ tail) (slot-alike l a b g i next.l2 le near),
          ih (slot_at o g i) next along.z (IsCapability-slot_at o ranged g i) le along.alike,
        ),
      )

  upto_suc : (n : ℕ) → Rest n → Rest (suc n)
  upto_suc n ih c w y is le alike =
      let rest = upto_after n ih c w y is alike (step o j c w) refl in
      let first = sym (trail_from-suc o j a n c w) in
      let second : header_noted c a w.l2 ++ trail_after o k b n (step o k c (at w y)) ≡ trail_from o k b (suc n) c (at w y) =
      sym (trail_from-suc o k b n c (at w y) ∙ ap (λ (ms : List Noted). ms ++ trail_after o k b n (step o k c (at w y))) (header-alike l a b c w.l2 le near)) in
      let upto = upto-header l (is_counted c.kind) (noted (Header (object_kind c.kind) c.object) a w.l2) _ _ rest in
      subst (λ (xs : List Noted). Upto l xs (trail_from o k b (suc n) c (at w y))) first
      (subst (λ (ys : List Noted). Upto l (header_noted c a w.l2 ++ trail_after o j a n (step o j c w)) ys) second upto)

  upto : (n : ℕ) → Rest n
  upto zero c w y is le alike = subst (λ (xs : List Noted). Upto l xs (trail_from o k b zero c (at w y))) (sym (trail_from-zero o j a c w)) tt
  upto (suc n) c w y is le alike = upto_suc n (upto n) c w y is le alike

-- ---- sizes never rise along a trail

-- no block is larger than 2^top or than the block before it
abbrev pub Falls : ℕ → List Noted → Type 0
Falls top [] = Unit {0}
Falls top (x ∷ xs) = (x.block.l2 ≤ top) × Falls x.block.l2 xs

falls-header : (b : Bool) (x : Noted) (xs : List Noted) → Falls x.block.l2 xs → Falls x.block.l2 ((if b then x ∷ [] else []) ++ xs)
falls-header true x xs falls = (le_refl x.block.l2, falls)
falls-header false x xs falls = falls

module _ (o : Items) (kind : Kind) (a : ℕ) where
  falls_after : (n : ℕ) → ((c : Capability) (w : At) → Falls w.l2 (trail_from o kind a n c w)) → (c : Capability) (w : At) (s : Step) → step o kind c w ≡ s → Falls w.l2 (trail_after o kind a n s)
  falls_after n ih c w (Reach p) e = tt
  falls_after n ih c w (Fault code handler) e = tt
  falls_after n ih c w (Go next g i) e = (goes_shrinks o kind c w next g i e, ih (slot_at o g i) next)

  -- the blocks of a walk's reads never get larger
  pub falls : (n : ℕ) (c : Capability) (w : At) → Falls w.l2 (trail_from o kind a n c w)
  falls zero c w = subst (Falls w.l2) (sym (trail_from-zero o kind a c w)) tt
  falls (suc n) c w = subst (Falls w.l2) (sym (trail_from-suc o kind a n c w))
      (falls-header (is_counted c.kind) (noted (Header (object_kind c.kind) c.object) a w.l2) (trail_after o kind a n (step o kind c w)) (falls_after n (falls n) c w (step o kind c w) refl))

-- so every read before one has no smaller block
falls_to : (top : ℕ) (before after : List Noted) (n : Noted) → Falls top (before ++ n ∷ after) → n.block.l2 ≤ top
falls_to top [] after n falls = falls.0
falls_to top (x ∷ before) after n falls = le_trans (falls_to x.block.l2 before after n falls.1) falls.0

-- and the second list begins as the first up to that one
upto_there : (top : ℕ) (before after ys : List Noted) (n : Noted) → Falls top (before ++ n ∷ after) → Upto n.block.l2 (before ++ n ∷ after) ys → (rest : List Noted) × (ys ≡ before ++ n ∷ rest)
upto_there top [] after ys n falls upto = let u = upto (le_refl n.block.l2) in (u.0, u.1.0)
upto_there top (x ∷ before) after ys n falls upto =
    let u = upto (falls_to x.block.l2 before after n falls.1) in
    let rest = upto_there x.block.l2 before after u.0 n falls.1 u.1.1 in
    (rest.0, u.1.0 ∙ ap (λ (zs : List Noted). x ∷ zs) rest.1)

-- the block law
pub block_law : BlockLaw
block_law o c a b j k before after n ranged is reads covered =
    let at = each-middle (NotedAt a) before after n (subst (Each (NotedAt a)) reads (noted_at o c a j ranged is)) in
    let l = n.block.l2 in
    let near : Alike l a b = sym (eqb-true (b / 2 ^ l) (a / 2 ^ l) (sym (covers-around a b l) ∙ (ap (λ (block : BlockValue). covers block b) (sym at.round) ∙ covered))) in
    let along = upto l at.low o ranged j k a b near 32 c (start_at a) b is at.high near in
    upto_there 32 before after (trail o c b k) n (subst (Falls 32) reads (falls o j a 32 c (start_at a))) (subst (λ (xs : List Noted). Upto l xs (trail o c b k)) reads along)
