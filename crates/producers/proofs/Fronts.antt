-- The front of a trail, up to one read: what another map and another address of the read's block make of it, and that its
-- blocks are no smaller.
use Rattle.std.proofs.Common.{◌≡◌, ◌≢◌, inl, inr, ℕ, zero, suc, Bool, true, false, if◌then◌else◌, List, [], ◌∷◌, ◌++◌, map, refl, sym, ap, subst, ◌∙◌}
use Rattle.cap_format.specs.Capability.{Capability, null}
use Rattle.cap_format.specs.Kind.{is_counted, object_kind}
use Rattle.cap_format.specs.declared.item.Item.{Item}
use Rattle.cap_format.specs.declared.item.Item.TheVariants.{Header, Slot}
use Rattle.cap_format.specs.declared.kind.CapKind.TheVariants.{Gpt}
use Rattle.object_store.specs.Store.{Items, slot_at}
use Rattle.walk_meaning.specs.declared.at.At.{At}
use Rattle.walk_meaning.specs.declared.kind.Kind.{Kind}
use Rattle.walk_meaning.specs.declared.noted.Noted.{Noted}
use Rattle.walk_meaning.specs.declared.step.Step.{Step}
use Rattle.walk_meaning.specs.declared.step.Step.TheVariants.{Reach, Fault, Go}
use Rattle.walk_meaning.specs.Walk.{step}
use Rattle.walk_meaning.specs.Trail.{header_noted, noted, trail_from}
use Rattle.walk_meaning.specs.Laws.{Unread}
use Rattle.walk_meaning.specs.After.{trail_after}
use Rattle.walk_meaning.proofs.Walked.{trail_from-suc, trail_from-zero}
use Rattle.walk_meaning.proofs.Ways.{step-headers}
use Rattle.walk_meaning.proofs.FrameLaw.{Agree, Apart, GoesApart, NamesAnother, NamesItem, goes_apart}
use Rattle.producers.specs.Producer.{cut}

-- ---- another map

-- the second list begins as the first, up to the first read of the item
abbrev pub Front : Item → List Noted → List Noted → Type 0
Front x [] ys = Unit {0}
Front x (n ∷ xs) ys = n.item ≢ x → (zs : List Noted) × ((ys ≡ n ∷ zs) × Front x xs zs)

-- so it has each read before which the item is not read
pub front-to : (x : Item) (xs ys before after : List Noted) (n : Noted) → Front x xs ys → xs ≡ before ++ n ∷ after → Unread x before → n.item ≢ x
    → (rest : List Noted) × (ys ≡ before ++ n ∷ rest)
front-to x xs ys before after n front are unread other =
    on before (subst (λ (t : List Noted). Front x t ys) are front) unread
  where
    on : (before : List Noted) → Front x (before ++ n ∷ after) ys → Unread x before → (rest : List Noted) × (ys ≡ before ++ n ∷ rest)
    on before front unread = split before ys front unread
      where
        split : (before ys : List Noted) → Front x (before ++ n ∷ after) ys → Unread x before → (rest : List Noted) × (ys ≡ before ++ n ∷ rest)
        split [] ys front unread = let at = front other in (at.0, at.1.0)
        split (m ∷ before) ys front unread =
            let at = front unread.0 in
            let rest = split before at.0 at.1.1 unread.1 in
            (rest.0, at.1.0 ∙ ap (λ (t : List Noted). m ∷ t) rest.1)

-- the same of reads that are cut
pub front-cut : (x : Item) (xs ys : List Noted) → Front x xs ys → Front x (map cut xs) (map cut ys)
front-cut x [] ys front = tt
front-cut x (n ∷ xs) ys front = λ other. let at = front other in (map cut at.0, (ap (map cut) at.1.0, front-cut x xs at.0 at.1.1))

-- reads in front that both lists have
pub front-behind : (x : Item) (same xs ys : List Noted) → (Unread x same → Front x xs ys) → Front x (same ++ xs) (same ++ ys)
front-behind x [] xs ys front = front tt
front-behind x (n ∷ same) xs ys front = λ other. (same ++ ys, (refl, front-behind x same xs ys (λ unread. front (other, unread))))

module _ (x : Item) (o q : Items) (same : Agree x o q) (kind : Kind) (a : ℕ) where
  own_another : (c : Capability) → c.kind ≡ Gpt → NamesAnother x c → Header Gpt c.object ≢ x
  own_another c k another = let counted : is_counted c.kind ≡ true = rw k refl in rw k at (another counted)

  abbrev Rest : ℕ → Type 0
  Rest n = (c : Capability) (w : At) → Apart x w.holding → Apart x w.background → Front x (trail_from o kind a n c w) (trail_from q kind a n c w)

  -- Null reads nothing
  null_reads : (n : ℕ) (w : At) (ys : List Noted) → Front x (trail_from o kind a n null w) ys
  null_reads zero w ys = subst (λ (t : List Noted). Front x t ys) (sym (trail_from-zero o kind a null w)) tt
  null_reads (suc n) w ys = subst (λ (t : List Noted). Front x t ys) (sym (trail_from-suc o kind a n null w)) tt

  -- what names the item's object reads the item first
  named_reads : (n : ℕ) (c : Capability) (w : At) (ys : List Noted) → NamesItem x c → Front x (trail_from o kind a n c w) ys
  named_reads zero c w ys names = subst (λ (t : List Noted). Front x t ys) (sym (trail_from-zero o kind a c w)) tt
  named_reads (suc n) c w ys names =
      subst (λ (t : List Noted). Front x t ys) (sym (trail_from-suc o kind a n c w)) (on (is_counted c.kind) names.0)
    where
      on : (b : Bool) → b ≡ true → Front x ((if b then noted (Header (object_kind c.kind) c.object) a w.l2 ∷ [] else []) ++ trail_after o kind a n (step o kind c w)) ys
      on true is = λ other. absurd (other names.1)
      on false is = absurd (cc)

  front_go : (n : ℕ) → Rest n → (c : Capability) (w next : At) (g i : ℕ) → GoesApart x (Go next g i) → Slot g i ≢ x
      → Front x (trail_from o kind a n (slot_at o g i) next) (trail_from q kind a n (slot_at q g i) next)
  front_go n ih c w next g i apart other = elim (same.slots g i apart.0 other) [
    | inl e ↦
        subst (λ (d : Capability). Front x (trail_from o kind a n (slot_at o g i) next) (trail_from q kind a n d next)) e (ih (slot_at o g i) next apart.1 apart.2)
    | inr e ↦ elim e [
      | inl names ↦ named_reads n (slot_at o g i) next (trail_from q kind a n (slot_at q g i) next) names
      | inr nothing ↦
          subst (λ (d : Capability). Front x (trail_from o kind a n d next) (trail_from q kind a n (slot_at q g i) next)) (sym nothing)
          (null_reads n next (trail_from q kind a n (slot_at q g i) next))
    ]
  ]

  -- the walk in the other map makes the same reads, up to the first read of the item
  pub front-from : (n : ℕ) → Rest n
  front-from zero c w hold back = subst (λ (t : List Noted). Front x t (trail_from q kind a zero c w)) (sym (trail_from-zero o kind a c w)) tt
  front-from (suc n) c w hold back =
      subst (λ (t : List Noted). Front x t (trail_from q kind a (suc n) c w)) (sym (trail_from-suc o kind a n c w))
      (subst (λ (t : List Noted). Front x (header_noted c a w.l2 ++ trail_after o kind a n (step o kind c w)) t) (sym (trail_from-suc q kind a n c w))
      (head (is_counted c.kind) refl (front-from n)))
    where
      behind : Rest n → NamesAnother x c → Front x (trail_after o kind a n (step o kind c w)) (trail_after q kind a n (step q kind c w))
      behind ih another =
          let one : step o kind c w ≡ step q kind c w =
          step-headers o q kind c w (λ k. same.headers c.object (own_another c k another)) (λ g e. same.headers g (subst (Apart x) e hold)) in
          subst (λ (s : Step). Front x (trail_after o kind a n (step o kind c w)) (trail_after q kind a n s)) one
          (on (step o kind c w) (goes_apart x o kind c w another hold back (step o kind c w) refl))
        where
          on : (s : Step) → GoesApart x s → Front x (trail_after o kind a n s) (trail_after q kind a n s)
          on (Reach p) apart = tt
          on (Fault code handler) apart = tt
          on (Go next g i) apart = λ other. (trail_from q kind a n (slot_at q g i) next, (refl, front_go n ih c w next g i apart other))

      head : (b : Bool) → is_counted c.kind ≡ b → Rest n
          → Front x ((if b then noted (Header (object_kind c.kind) c.object) a w.l2 ∷ [] else []) ++ trail_after o kind a n (step o kind c w))
          ((if b then noted (Header (object_kind c.kind) c.object) a w.l2 ∷ [] else []) ++ trail_after q kind a n (step q kind c w))
      head true is ih = λ other. (trail_after q kind a n (step q kind c w), (refl, behind ih (λ counted. other)))
      head false is ih = behind ih (λ counted. absurd (cc))

-- ---- lists

-- what was mapped to a list that is cut in three
pub record Split (f : Noted → Noted) (xs before after : List Noted) (n : Noted) : Type 0 where
  pub front : List Noted
  pub middle : Noted
  pub back : List Noted
  pub whole : xs ≡ front ++ middle ∷ back
  pub front_is : map f front ≡ before
  pub middle_is : f middle ≡ n

pub map-split : (f : Noted → Noted) (xs before after : List Noted) (n : Noted) → map f xs ≡ before ++ n ∷ after → Split f xs before after n
map-split f [] [] after n are = absurd (cc)
map-split f [] (m ∷ before) after n are = absurd (cc)
map-split f (x ∷ xs) [] after n are = record { front = []; middle = x; back = xs; whole = refl; front_is = refl; middle_is = cc }
map-split f (x ∷ xs) (m ∷ before) after n are =
    let first : f x ≡ m = cc (are) in
    let later : map f xs ≡ before ++ n ∷ after = cc (are) in
    let rest = map-split f xs before after n later in
    record {
      front = x ∷ rest.front;
      middle = rest.middle;
      back = rest.back;
      whole = ap (λ (t : List Noted). x ∷ t) rest.whole;
      front_is = λ i. first i ∷ rest.front_is i;
      middle_is = rest.middle_is;
    }
