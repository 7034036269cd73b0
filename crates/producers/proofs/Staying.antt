-- A walk comes to the same point in another map, where it reads no item in which the two may differ.
use Rattle.std.proofs.Common.{◌≡◌, ◌≢◌, inl, inr, ℕ, zero, suc, Bool, true, false, if◌then◌else◌, ◌&&◌, ◌==◌, nat_lt, List, [], ◌∷◌, ◌++◌, Option, Some, None, refl, sym, ap, subst, ◌∙◌, append_assoc}
use Rattle.cap_format.specs.Capability.{Capability, null, bare}
use Rattle.cap_format.specs.Kind.{is_counted, object_kind}
use Rattle.cap_format.specs.declared.item.Item.{Item}
use Rattle.cap_format.specs.declared.item.Item.TheVariants.{Header, Slot}
use Rattle.cap_format.specs.declared.kind.CapKind.TheVariants.{Gpt}
use Rattle.object_store.specs.Store.{Items, count_of, counts_of, size_of, slot_at}
use Rattle.object_store.specs.Meaning.{is_current, is_live, meaning}
use Rattle.walk_meaning.specs.declared.at.At.{At}
use Rattle.walk_meaning.specs.declared.kind.Kind.{Kind}
use Rattle.walk_meaning.specs.declared.noted.Noted.{Noted}
use Rattle.walk_meaning.specs.declared.step.Step.TheVariants.{Go}
use Rattle.walk_meaning.specs.Walk.{start_at, step}
use Rattle.walk_meaning.specs.Trail.{header_noted, noted}
use Rattle.walk_meaning.specs.Laws.{Unread}
use Rattle.walk_meaning.proofs.Ways.{step-headers}
use Rattle.walk_meaning.proofs.FrameLaw.{Agree, Apart, NamesAnother, NamesItem, goes_apart, header_unread}
use Rattle.producers.specs.Producer.{Point, aged, key_of}
use Rattle.producers.specs.Meets.{Meets}
use Rattle.producers.proofs.Points.{Meets-first, Meets-suc, Meets-zero, Onward}

pub unread-append : (x : Item) (xs ys : List Noted) → Unread x (xs ++ ys) → Unread x xs × Unread x ys
unread-append x [] ys h = (tt, h)
unread-append x (n ∷ xs) ys h = let rest = unread-append x xs ys h.1 in ((h.0, rest.0), rest.1)

-- what is shown of each number of capabilities
pub record Stays (x : Item) (o q : Items) (kind : Kind) (a n : ℕ) (c : Capability) (w : At) (p : Point) (reads : List Noted) : Type 0 where
  pub met : Meets q kind a n c w p reads
  pub background : Apart x p.at.background
  pub own : Header Gpt p.cap.object ≢ x

module _ (x : Item) (o q : Items) (same : Agree x o q) (kind : Kind) (a : ℕ) (p : Point) (gpt : p.cap.kind ≡ Gpt) where
  -- the reads up to the header at the point
  abbrev up_to : List Noted → List Noted
  up_to reads = reads ++ header_noted p.cap a p.at.l2

  own_another : (c : Capability) → c.kind ≡ Gpt → NamesAnother x c → Header Gpt c.object ≢ x
  own_another c k another = let counted : is_counted c.kind ≡ true = rw k refl in rw k at (another counted)

  -- the reads of a walk that goes on, taken apart
  pub record Parts (c : Capability) (w : At) (g i : ℕ) (next : At) (rest : List Noted) : Type 0 where
    pub header : Unread x (header_noted c a w.l2)
    pub slot : Slot g i ≢ x
    pub later : Unread x (up_to rest)

  parts : (c : Capability) (w : At) (g i : ℕ) (next : At) (rest reads : List Noted) → reads ≡ header_noted c a w.l2 ++ noted (Slot g i) a next.l2 ∷ rest → Unread x (up_to reads) → Parts c w g i next rest
  parts c w g i next rest reads are unread =
      let tail : List Noted = header_noted p.cap a p.at.l2 in
      let head : List Noted = header_noted c a w.l2 in
      let one : Noted = noted (Slot g i) a next.l2 in
      let all = unread-append x head (one ∷ (rest ++ tail)) (subst (λ (t : List Noted). Unread x t) (ap (λ (t : List Noted). t ++ tail) are ∙ append_assoc head (one ∷ rest) tail) unread) in
      record { header = all.0; slot = all.1.0; later = all.1.1 }

  -- a walk that comes to the point from a capability that names the item's object reads the item
  named_met : (n : ℕ) (c : Capability) (w : At) (reads : List Noted) → NamesItem x c → Meets o kind a n c w p reads → Unread x (up_to reads) → ⊥
  named_met zero c w reads names meets unread = Meets-zero o kind a p c w reads meets
  named_met (suc n) c w reads names meets unread = on (Meets-suc o kind a p n c w reads meets)
    where
      on : Onward o kind a p n c w reads → ⊥
      on (inl here) =
          let header = (unread-append x reads (header_noted p.cap a p.at.l2) unread).1 in
          let one : NamesItem x p.cap = subst (λ (d : Capability). NamesItem x d) (sym here.cap) names in
          header_unread x p.cap a p.at.l2 header one.0 one.1
      on (inr goes) =
          let all = parts c w goes.gpt goes.slot goes.next goes.rest reads goes.reads_are unread in
          header_unread x c a w.l2 all.header names.0 names.1

  -- Null comes to no such point
  null_met : (n : ℕ) (w : At) (reads : List Noted) → Meets o kind a n null w p reads → ⊥
  null_met zero w reads meets = Meets-zero o kind a p null w reads meets
  null_met (suc n) w reads meets = on (Meets-suc o kind a p n null w reads meets)
    where
      on : Onward o kind a p n null w reads → ⊥
      on (inl here) = let nothing : p.cap.kind ≡ null.kind = ap (λ (d : Capability). d.kind) here.cap in cc
      on (inr goes) = let steps = goes.steps in cc

  pub meets-stays : (n : ℕ) (c : Capability) (w : At) (reads : List Noted) → Apart x w.holding → Apart x w.background → Meets o kind a n c w p reads → Unread x (up_to reads) → Stays x o q kind a n c w p reads
  meets-stays zero c w reads hold back meets unread = absurd (Meets-zero o kind a p c w reads meets)
  meets-stays (suc n) c w reads hold back meets unread = on (Meets-suc o kind a p n c w reads meets) (meets-stays n)
    where
      on : Onward o kind a p n c w reads
          → ((d : Capability) (v : At) (rest : List Noted) → Apart x v.holding → Apart x v.background → Meets o kind a n d v p rest → Unread x (up_to rest) → Stays x o q kind a n d v p rest)
          → Stays x o q kind a (suc n) c w p reads
      on (inl here) ih =
          let header = (unread-append x reads (header_noted p.cap a p.at.l2) unread).1 in
          record {
            met = Meets-first q kind a p n c w reads (inl here);
            background = subst (λ (v : At). Apart x v.background) (sym here.at) back;
            own = own_another p.cap gpt (header_unread x p.cap a p.at.l2 header);
          }
      on (inr goes) ih =
          let g : ℕ = goes.gpt in
          let i : ℕ = goes.slot in
          let all = parts c w g i goes.next goes.rest reads goes.reads_are unread in
          let another = header_unread x c a w.l2 all.header in
          let one : step o kind c w ≡ step q kind c w =
          step-headers o q kind c w (λ k. same.headers c.object (own_another c k another)) (λ f e. same.headers f (subst (Apart x) e hold)) in
          let apart = goes_apart x o kind c w another hold back (Go goes.next g i) goes.steps in
          let rest = ih (slot_at o g i) goes.next goes.rest apart.1 apart.2 goes.further all.later in
          let there : slot_at o g i ≡ slot_at q g i = elim (same.slots g i apart.0 all.slot) [
            | inl e ↦ e
            | inr e ↦ elim e [
              | inl names ↦ absurd (named_met n (slot_at o g i) goes.next goes.rest names goes.further all.later)
              | inr nothing ↦ absurd (null_met n goes.next goes.rest (subst (λ (d : Capability). Meets o kind a n d goes.next p goes.rest) nothing goes.further))
            ]
          ] in
          record {
            met = Meets-first q kind a p n c w reads (inr (record {
              next = goes.next;
              gpt = g;
              slot = i;
              rest = goes.rest;
              steps = sym one ∙ goes.steps;
              reads_are = goes.reads_are;
              further = subst (λ (d : Capability). Meets q kind a n d goes.next p goes.rest) there rest.met;
            }));
            background = rest.background;
            own = rest.own;
          }

-- the key of a point in two maps, where neither the GPT's header nor the background's is the item
pub key-same : (x : Item) (o q : Items) → Agree x o q → (p : Point) → Apart x p.at.background → Header Gpt p.cap.object ≢ x → key_of q p ≡ key_of o p
key-same x o q same p back own =
    let age : count_of q Gpt p.cap.object ≡ count_of o Gpt p.cap.object = sym (same.counts Gpt p.cap.object own) in
    rw (age, background p.at.background back) refl
  where
    background : (b : Option ℕ) → Apart x b → aged q b ≡ aged o b
    background None apart = refl
    background (Some g) apart = ap (λ (n : ℕ). Some (record { gpt = g; age = n })) (sym (same.counts Gpt g apart))

-- ---- the space

-- a space whose meaning comes to such a point means the same in the other map
live-same : (x : Item) (o q : Items) → Agree x o q → (s : Capability) → NamesAnother x s → is_live o s ≡ is_live q s
live-same x o q same s another = on (is_counted s.kind) refl
  where
    on : (b : Bool) → is_counted s.kind ≡ b → (if b then is_current (counts_of o.counts (object_kind s.kind)) s.object s.count else true) ≡ (if b then is_current (counts_of q.counts (object_kind s.kind)) s.object s.count else true)
    on false e = refl
    on true e =
        ap (λ (size : ℕ). nat_lt s.object size && (count_of o (object_kind s.kind) s.object == s.count)) (same.sizes (object_kind s.kind))
        ∙ ap (λ (count : ℕ). nat_lt s.object (size_of q (object_kind s.kind)) && (count == s.count)) (same.counts (object_kind s.kind) s.object (another e))

module _ (x : Item) (o q : Items) (same : Agree x o q) (kind : Kind) (a : ℕ) (p : Point) (gpt : p.cap.kind ≡ Gpt) where
  -- the first read of a walk that comes to the point is of the header of what the space names
  first_unread : (n : ℕ) (c : Capability) (w : At) (reads : List Noted) → Meets o kind a n c w p reads → Unread x (reads ++ header_noted p.cap a p.at.l2) → NamesAnother x c
  first_unread zero c w reads meets unread = absurd (Meets-zero o kind a p c w reads meets)
  first_unread (suc n) c w reads meets unread = on (Meets-suc o kind a p n c w reads meets)
    where
      on : Onward o kind a p n c w reads → NamesAnother x c
      on (inl here) =
          let header = (unread-append x reads (header_noted p.cap a p.at.l2) unread).1 in
          subst (λ (d : Capability). NamesAnother x d) here.cap (header_unread x p.cap a p.at.l2 header)
      on (inr goes) =
          let all = parts x o q same kind a p gpt c w goes.gpt goes.slot goes.next goes.rest reads goes.reads_are unread in
          header_unread x c a w.l2 all.header

  pub space-stays : (s : Capability) (reads : List Noted) → Meets o kind a 32 (meaning o s) (start_at a) p reads → Unread x (reads ++ header_noted p.cap a p.at.l2) → meaning o s ≡ meaning q s
  space-stays s reads meets unread = on (is_live o s) refl
    where
      on : (b : Bool) → is_live o s ≡ b → meaning o s ≡ meaning q s
      on false dead =
          let nothing : meaning o s ≡ null = ap (λ (b : Bool). if b then bare s else null) dead in
          absurd (null_met x o q same kind a p gpt 32 (start_at a) reads (subst (λ (d : Capability). Meets o kind a 32 d (start_at a) p reads) nothing meets))
      on true live =
          let whole : meaning o s ≡ bare s = ap (λ (b : Bool). if b then bare s else null) live in
          let another = first_unread 32 (bare s) (start_at a) reads (subst (λ (d : Capability). Meets o kind a 32 d (start_at a) p reads) whole meets) unread in
          ap (λ (b : Bool). if b then bare s else null) (live-same x o q same s another)
