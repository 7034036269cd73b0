-- The proof of the frame laws: by induction on the capabilities that may be met, where the holding and the
-- background GPT are not the item's.
use Rattle.std.specs.Prelude.{◌≡◌, ◌≢◌, ℕ, zero, suc, Bool, true, false, if◌then◌else◌, ◌&&◌, ◌==◌, nat_lt, List, [], ◌∷◌, ◌++◌, Option, Some, None, Result, Ok, Err, ◌⊎◌, refl, ⊤}
use Rattle.std.proofs.Common.{sym, ◌∙◌, ap, subst, inl, inr, ◌+◌}
use Rattle.cap_format.specs.Capability.{Capability, null, bare}
use Rattle.cap_format.specs.Kind.{is_counted, object_kind}
use Rattle.cap_format.specs.declared.item.Item.{Item}
use Rattle.cap_format.specs.declared.item.Item.TheVariants.{Header, Slot}
use Rattle.cap_format.specs.declared.kind.CapKind.{CapKind}
use Rattle.cap_format.specs.declared.kind.CapKind.TheVariants.{Gpt}
use Rattle.cap_format.specs.declared.fault.FaultCode.TheVariants.{MalformedSpace}
use Rattle.object_store.specs.Store.{Items, size_of, count_of, counts_of, header_at, slot_at}
use Rattle.object_store.specs.Meaning.{meaning, is_live, is_current}
use Rattle.object_store.specs.Differ.{DifferIn}
use Rattle.walk_meaning.specs.declared.at.At.{At}
use Rattle.walk_meaning.specs.declared.kind.Kind.{Kind}
use Rattle.walk_meaning.specs.declared.noted.Noted.{Noted}
use Rattle.walk_meaning.specs.declared.place.Place.{Place}
use Rattle.walk_meaning.specs.declared.place.WalkFault.{WalkFault}
use Rattle.walk_meaning.specs.declared.step.Step.{Step}
use Rattle.walk_meaning.specs.declared.step.Step.TheVariants.{Reach, Fault, Go}
use Rattle.walk_meaning.specs.Walk.{past, invalid, step, walk, access, fault, start_at}
use Rattle.walk_meaning.specs.Trail.{noted, header_noted, trail_from, trail, slots_from, read_cost}
use Rattle.walk_meaning.proofs.Ways.{Way, gone, step-headers}
use Rattle.walk_meaning.proofs.Ways.Way.{BySlot, ByWindow, ByLocal}
use Rattle.walk_meaning.specs.After.{walk_after, trail_after, slots_after}
use Rattle.walk_meaning.proofs.Walked.{walk-zero, walk-suc, trail_from-suc, slots_from-suc}
use Rattle.walk_meaning.specs.Laws.{Unread, ReachAlike, FrameLaw, SpaceFrameLaw}

-- the capability names the object whose header the item is
abbrev pub NamesItem : Item → Capability → Type 0
NamesItem x c = (is_counted c.kind ≡ true) × (Header (object_kind c.kind) c.object ≡ x)

-- what two maps that differ in one item alone share, as implications
pub record Agree (x : Item) (o p : Items) : Type 0 where
  pub sizes : (k : CapKind) → size_of o k ≡ size_of p k
  pub counts : (k : CapKind) (n : ℕ) → Header k n ≢ x → count_of o k n ≡ count_of p k n
  pub headers : (g : ℕ) → Header Gpt g ≢ x → header_at o g ≡ header_at p g
  pub slots : (g i : ℕ) → Header Gpt g ≢ x → Slot g i ≢ x → (slot_at o g i ≡ slot_at p g i) ⊎ (NamesItem x (slot_at o g i) ⊎ (slot_at o g i ≡ null))

-- maps that differ in one item alone agree in this sense
pub agree : (x : Item) (o p : Items) → DifferIn x o p → Agree x o p
agree (Slot h j) o p d = record {
  sizes = d.sizes;
  counts = λ k n apart. d.counts k n;
  headers = λ g apart. d.headers g;
  slots = λ g i apart unread. elim (d.slots g i) [
    | inl e ↦ absurd (unread (cc (e.0, e.1)))
    | inr e ↦ inl e
  ];
}
agree (Header kind n) o p d = record {
  sizes = d.sizes;
  counts = λ k m apart. elim (d.counts k m) [ inl e ↦ absurd (apart (cc (e.0, e.1))) | inr e ↦ e ];
  headers = λ g apart. elim (d.headers g) [ inl e ↦ absurd (apart (cc (e.0, e.1))) | inr e ↦ e ];
  slots = λ g i apart unread. elim (d.slots g i) [
    | inl e ↦ absurd (apart (cc (e.0, e.1)))
    | inr e ↦ elim e [
      | inl same ↦ inl same
      | inr forgets ↦ elim forgets [
        | inl f ↦ let name = f.0 in inr (inl (name.counted, cc (name.kind_is, name.object)))
        | inr f ↦ inr (inr f.1)
      ]
    ]
  ];
}

-- a GPT, if there is one, whose header is another item
abbrev pub Apart : Item → Option ℕ → Type 0
Apart x None = ⊤
Apart x (Some g) = Header Gpt g ≢ x

-- a step goes on with a GPT, and holding and background GPTs, whose headers are other items
abbrev pub GoesApart : Item → Step → Type 0
GoesApart x (Reach place) = ⊤
GoesApart x (Fault code handler) = ⊤
GoesApart x (Go next g i) = Apart x (Some g) × Apart x next.holding × Apart x next.background

-- what is known of a capability whose header, if it has one, is another item
abbrev pub NamesAnother : Item → Capability → Type 0
NamesAnother x c = is_counted c.kind ≡ true → Header (object_kind c.kind) c.object ≢ x

module _ (x : Item) where
  apart-if : (b : Bool) (g h : Option ℕ) → Apart x g → Apart x h → Apart x (if b then g else h)
  apart-if true g h a b = a
  apart-if false g h a b = b

  own_apart : (c : Capability) → NamesAnother x c → c.kind ≡ Gpt → Apart x (Some c.object)
  own_apart c another e = let counted : is_counted c.kind ≡ true = rw e refl in rw e at (another counted)

  apart_goes : (o : Items) (c : Capability) (w next : At) (g i : ℕ) → NamesAnother x c → Apart x w.holding → Apart x w.background → Way o c w next g i → GoesApart x (Go next g i)
  apart_goes o c w next g i another hold back (BySlot kind object index open' into) =
      let own : Apart x (Some c.object) = own_apart c another kind in
      let there : Apart x (Some g) = rw object at own in
      rw (← into) (there, own, apart-if (header_at o c.object).bg (Some c.object) w.background own back)
  apart_goes o c w next g i another hold back (ByWindow kind gpt index through) =
      let own : Apart x (Some g) = rw gpt at back in
      rw (← through) (own, own, back)
  apart_goes o c w next g i another hold back (ByLocal kind gpt index open' through) =
      let own : Apart x (Some g) = rw gpt at hold in
      rw (← through) (own, own, back)

  -- a step leads to a GPT apart
  pub goes_apart : (o : Items) (kind : Kind) (c : Capability) (w : At) → NamesAnother x c → Apart x w.holding → Apart x w.background → (s : Step) → step o kind c w ≡ s → GoesApart x s
  goes_apart o kind c w another hold back (Reach place) e = tt
  goes_apart o kind c w another hold back (Fault code handler) e = tt
  goes_apart o kind c w another hold back (Go next g i) e = apart_goes o c (past c w) next g i another hold back (gone o next g i c kind w e).way

module _ (x : Item) (o p : Items) (same : Agree x o p) where
  step_same : (kind : Kind) (c : Capability) (w : At) → NamesAnother x c → Apart x w.holding → step o kind c w ≡ step p kind c w
  step_same kind c w another hold =
      step-headers o p kind c w (λ k. same.headers c.object (own_apart x c another k)) (λ g e. same.headers g (subst (Apart x) e hold))

unread-append : (x : Item) (xs ys : List Noted) → Unread x (xs ++ ys) → Unread x xs × Unread x ys
unread-append x [] ys h = (tt, h)
unread-append x (n ∷ xs) ys h = let rest = unread-append x xs ys h.1 in ((h.0, rest.0), rest.1)

header-unread-if : (x y : Item) (a l : ℕ) (b : Bool) → Unread x (if b then noted y a l ∷ [] else []) → b ≡ true → y ≢ x
header-unread-if x y a l true h e = h.0
header-unread-if x y a l false h e = absurd (cc (e))

-- where the header of a capability is not the item that is read, it names another object
pub header_unread : (x : Item) (c : Capability) (a l : ℕ) → Unread x (header_noted c a l) → NamesAnother x c
header_unread x c a l h counted = header-unread-if x (Header (object_kind c.kind) c.object) a l (is_counted c.kind) h counted

-- Null reaches nothing
pub null_stops : (o : Items) (kind : Kind) (n : ℕ) (w : At) (place : Place) → walk o kind n null w ≡ Ok place → ⊥
null_stops o kind zero w place h = let e : ◌≡◌ {A = Result Place WalkFault} (Err (fault o MalformedSpace w.handler)) (Ok place) = sym (walk-zero o kind null w) ∙ h in cc
null_stops o kind (suc n) w place h = let e : ◌≡◌ {A = Result Place WalkFault} (Err (fault o (invalid kind) w.handler)) (Ok place) = sym (walk-suc o kind n null w) ∙ h in cc

-- what is shown of each number of capabilities: the walks in both maps are the same
pub record Same (o p : Items) (kind : Kind) (a : ℕ) (place : Place) (n : ℕ) (c : Capability) (w : At) : Type 0 where
  pub reached : walk p kind n c w ≡ Ok place
  pub reads : trail_from p kind a n c w ≡ trail_from o kind a n c w
  pub cost : slots_from p kind n c w ≡ slots_from o kind n c w

-- what is shown of each number of capabilities after a step: both maps go on alike
pub record SameAfter (o p : Items) (kind : Kind) (a : ℕ) (place : Place) (n : ℕ) (s : Step) : Type 0 where
  pub reached : walk_after p kind n s ≡ Ok place
  pub reads : trail_after p kind a n s ≡ trail_after o kind a n s
  pub cost : slots_after p kind n s ≡ slots_after o kind n s

module _ (x : Item) (o p : Items) (same : Agree x o p) (kind : Kind) (a : ℕ) (place : Place) where
  abbrev Rest : ℕ → Type 0
  Rest n = (c : Capability) (w : At) → Apart x w.holding → Apart x w.background → walk o kind n c w ≡ Ok place → Unread x (trail_from o kind a n c w) → Same o p kind a place n c w

  -- a capability that names the item's object doesn't lead to a place without a read of the item
  named_read : (n : ℕ) (c : Capability) (w : At) → NamesItem x c → walk o kind n c w ≡ Ok place → Unread x (trail_from o kind a n c w) → ⊥
  named_read zero c w names reach unread = let e : ◌≡◌ {A = Result Place WalkFault} (Err (fault o MalformedSpace w.handler)) (Ok place) = sym (walk-zero o kind c w) ∙ reach in cc
  named_read (suc n) c w names reach unread =
      let parts = unread-append x (header_noted c a w.l2) (trail_after o kind a n (step o kind c w)) (subst (Unread x) (trail_from-suc o kind a n c w) unread) in
      header_unread x c a w.l2 parts.0 names.0 names.1

  same_go : (n : ℕ) → Rest n → (next : At) (g i : ℕ) → GoesApart x (Go next g i) → walk o kind n (slot_at o g i) next ≡ Ok place
      → Unread x (noted (Slot g i) a next.l2 ∷ trail_from o kind a n (slot_at o g i) next) → SameAfter o p kind a place n (Go next g i)
  same_go n ih next g i apart reach unread = elim (same.slots g i apart.0 unread.0) [
    | inl e ↦
        let rest = ih (slot_at o g i) next apart.1 apart.2 reach unread.1 in
        record {
          reached = rw (← e) rest.reached;
          reads = rw (← e) (ap (λ (t : List Noted). noted (Slot g i) a next.l2 ∷ t) rest.reads);
          cost = rw (← e) (ap (λ (k : ℕ). read_cost n + k) rest.cost);
        }
    | inr e ↦ elim e [
      | inl names ↦ absurd (named_read n (slot_at o g i) next names reach unread.1)
      | inr nothing ↦ absurd (null_stops o kind n next place (rw nothing at reach))
    ]
  ]

  same_after : (n : ℕ) → Rest n → (s : Step) → GoesApart x s → walk_after o kind n s ≡ Ok place → Unread x (trail_after o kind a n s) → SameAfter o p kind a place n s
  same_after n ih (Reach q) apart reach unread = record { reached = reach; reads = refl; cost = refl }
  same_after n ih (Fault code handler) apart reach unread = absurd (cc (reach))
  same_after n ih (Go next g i) apart reach unread = same_go n ih next g i apart reach unread

  same_suc : (n : ℕ) → Rest n → Rest (suc n)
  same_suc n ih c w hold back reach unread =
      let parts = unread-append x (header_noted c a w.l2) (trail_after o kind a n (step o kind c w)) (subst (Unread x) (trail_from-suc o kind a n c w) unread) in
      let another : NamesAnother x c = header_unread x c a w.l2 parts.0 in
      let one : step o kind c w ≡ step p kind c w = step_same x o p same kind c w another hold in
      let rest = same_after n ih (step o kind c w) (goes_apart x o kind c w another hold back (step o kind c w) refl) (sym (walk-suc o kind n c w) ∙ reach) parts.1 in
      record {
        reached = walk-suc p kind n c w ∙ (rw (← one) rest.reached);
        reads = trail_from-suc p kind a n c w ∙ (ap (λ (s : Step). header_noted c a w.l2 ++ trail_after p kind a n s) (sym one) ∙ (ap (λ (t : List Noted). header_noted c a w.l2 ++ t) rest.reads ∙ sym (trail_from-suc o kind a n c w)));
        cost = slots_from-suc p kind n c w ∙ (ap (λ (s : Step). slots_after p kind n s) (sym one) ∙ (rest.cost ∙ sym (slots_from-suc o kind n c w)));
      }

  -- a walk that reaches, from GPTs that are not the item's, and reads no such item, is the same in both maps
  pub same_walk : (n : ℕ) (c : Capability) (w : At) → Apart x w.holding → Apart x w.background → walk o kind n c w ≡ Ok place → Unread x (trail_from o kind a n c w) → Same o p kind a place n c w
  same_walk zero c w hold back reach unread = let e : ◌≡◌ {A = Result Place WalkFault} (Err (fault o MalformedSpace w.handler)) (Ok place) = sym (walk-zero o kind c w) ∙ reach in absurd (cc (e))
  same_walk (suc n) c w hold back reach unread = same_suc n (same_walk n) c w hold back reach unread

-- the frame law
pub frame_law : FrameLaw
frame_law item o p c address kind place differ reach unread =
    let walks = same_walk item o p (agree item o p differ) kind address place 32 c (start_at address) tt tt reach unread in
    record { reached = walks.reached; reads = walks.reads; cost = walks.cost }

-- a capability that is live, and does not name the item's object, is live in the other map
live-same : (x : Item) (o p : Items) → Agree x o p → (s : Capability) → NamesAnother x s → is_live o s ≡ is_live p s
live-same x o p same s another = on (is_counted s.kind) refl
  where
    on : (b : Bool) → is_counted s.kind ≡ b → (if b then is_current (counts_of o.counts (object_kind s.kind)) s.object s.count else true) ≡ (if b then is_current (counts_of p.counts (object_kind s.kind)) s.object s.count else true)
    on false e = refl
    on true e =
        ap (λ (size : ℕ). nat_lt s.object size && (count_of o (object_kind s.kind) s.object == s.count)) (same.sizes (object_kind s.kind))
        ∙ ap (λ (count : ℕ). nat_lt s.object (size_of p (object_kind s.kind)) && (count == s.count)) (same.counts (object_kind s.kind) s.object (another e))

meaning-same : (x : Item) (o p : Items) → Agree x o p → (kind : Kind) (a : ℕ) (place : Place) (s : Capability) → access o (meaning o s) a kind ≡ Ok place
    → Unread x (trail o (meaning o s) a kind) → meaning o s ≡ meaning p s
meaning-same x o p same kind a place s reach unread = on (is_live o s) refl
  where
    on : (b : Bool) → is_live o s ≡ b → meaning o s ≡ meaning p s
    on false dead = absurd (null_stops o kind 32 (start_at a) place (rw dead at reach))
    on true live =
        let reads : Unread x (trail_from o kind a 32 (bare s) (start_at a)) = rw live at unread in
        let parts = unread-append x (header_noted (bare s) a 32) (trail_after o kind a 31 (step o kind (bare s) (start_at a))) (subst (Unread x) (trail_from-suc o kind a 31 (bare s) (start_at a)) reads) in
        ap (λ (b : Bool). if b then bare s else null) (live-same x o p same s (header_unread x (bare s) a 32 parts.0))

-- the frame law where the space may die or come to life
pub space_frame_law : SpaceFrameLaw
space_frame_law item o p space address kind place differ reach unread =
    let same : meaning o space ≡ meaning p space = meaning-same item o p (agree item o p differ) kind address place space reach unread in
    let P : Capability → Type 0 = λ c. ReachAlike o p (meaning o space) c address kind place in
    subst P same (frame_law item o p (meaning o space) address kind place differ reach unread)
