-- A walk that ends at a page to which nobody else comes goes by GPTs to which nobody else comes.
use Rattle.std.proofs.Common.{◌≡◌, ℕ, zero, suc, ◌==◌, ◌&&◌, inl, inr, Bool, true, false, if◌then◌else◌, List, [], ◌∷◌, ◌++◌, Some, Result, Ok, Err, refl, sym, ◌∙◌, ap, subst}
use Rattle.std.proofs.lemmas.Bool.{false≢true, false_from_ne_true, eq-eqb}
use Rattle.std.specs.List.{AllByRecursion as Each}
use Rattle.cap_format.specs.declared.item.Item.TheVariants.{Header}
use Rattle.cap_format.specs.declared.kind.CapKind.{CapKind}
use Rattle.cap_format.specs.declared.kind.CapKind.TheVariants.{Page, Gpt, Window, LocalWindow}
use Rattle.cap_format.specs.Capability.{Capability}
use Rattle.cap_format.specs.Kind.{number_of, is_counted, object_kind}
use Rattle.object_store.specs.Store.{Items, slot_at}
use Rattle.walk_meaning.specs.declared.at.At.{At}
use Rattle.walk_meaning.specs.declared.kind.Kind.{Kind}
use Rattle.walk_meaning.specs.declared.noted.Noted.{Noted}
use Rattle.walk_meaning.specs.declared.place.Place.{Place}
use Rattle.walk_meaning.specs.declared.place.WalkFault.{WalkFault}
use Rattle.walk_meaning.specs.declared.step.Step.{Step}
use Rattle.walk_meaning.specs.declared.step.Step.TheVariants.{Reach, Fault, Go}
use Rattle.walk_meaning.specs.Walk.{is_data, past, step, walk}
use Rattle.walk_meaning.specs.Trail.{noted, header_noted, trail_from}
use Rattle.walk_meaning.specs.After.{walk_after, trail_after}
use Rattle.walk_meaning.proofs.Walked.{walk-zero, walk-suc, trail_from-suc, trail_from-zero}
use Rattle.walk_meaning.proofs.Ways.{Way, gone}
use Rattle.walk_meaning.proofs.Ways.Way.{BySlot, ByWindow, ByLocal}
use Rattle.walk_meaning.proofs.Ends.{Serves, reached}
use Rattle.confinement.specs.declared.cut_side.CutSide.TheVariants.{Left}
use Rattle.confinement.specs.Cut.{Cut, side_of}
use Rattle.independence.specs.Quiet.{MayRead, MayPass}
use Rattle.quiet_runs.specs.Reaching.{names}

-- a capability of this kind names its object
names-own : (c : Capability) (kind : CapKind) → (is_counted kind && ((number_of (object_kind kind) == number_of kind) && (c.object == c.object))) ≡ true → c.kind ≡ kind → names c kind c.object ≡ true
names-own c kind is at = ap (λ (k : CapKind). is_counted k && ((number_of (object_kind k) == number_of kind) && (c.object == c.object))) at ∙ is

-- the GPT from which a walk goes on is its holding GPT
way-holds : (o : Items) (c : Capability) (w next : At) (g i : ℕ) → Way o c w next g i → next.holding ≡ Some g
way-holds o c w next g i (BySlot k object index free into) = subst (λ (t : At). t.holding ≡ Some g) into (ap Some object)
way-holds o c w next g i (ByWindow k back index through) = subst (λ (t : At). t.holding ≡ Some g) through refl
way-holds o c w next g i (ByLocal k hold index free through) = subst (λ (t : At). t.holding ≡ Some g) through refl

module _ (o : Items) (shared : CapKind → ℕ → Bool) (kind : Kind) (of_data : is_data kind ≡ true)
    (near : (g i : ℕ) → (slot_at o g i).kind ≡ Window → ⊥)
    (closed : (g i : ℕ) (k : CapKind) (n : ℕ) → shared Gpt g ≡ true → names (slot_at o g i) k n ≡ true → shared k n ≡ true) where
  -- a data access ends at the page that the last capability names
  page-end : (c : Capability) (w : At) (place : Place) → step o kind c w ≡ Reach place → (c.kind ≡ Page) × (c.object ≡ place.number)
  page-end c w place e = let r = reached kind place o c w e in (on r.serves, ap (λ (p : Place). p.number) r.place)
    where
      on : Serves c.kind kind → c.kind ≡ Page
      on (inl page) = page.0
      on (inr cappage) = absurd (false≢true (sym cappage.1 ∙ of_data))

  module _ (place : Place) where
    -- what a walk reaches from a GPT that is shared is shared
    abbrev Shares : ℕ → Type 0
    Shares n = (g i : ℕ) (w : At) → shared Gpt g ≡ true → w.holding ≡ Some g → walk o kind n (slot_at o g i) w ≡ Ok place → shared Page place.number ≡ true

    -- and the next GPT is
    next-shared : (g i : ℕ) (w next : At) (h j : ℕ) → shared Gpt g ≡ true → w.holding ≡ Some g → Way o (slot_at o g i) (past (slot_at o g i) w) next h j → shared Gpt h ≡ true
    next-shared g i w next h j is holding (BySlot k object index free into) =
        let c = slot_at o g i in
        subst (λ (f : ℕ). shared Gpt f ≡ true) object (closed g i Gpt c.object is (names-own c Gpt (eq-eqb c.object c.object refl) k))
    next-shared g i w next h j is holding (ByWindow k back index through) = absurd (near g i k)
    next-shared g i w next h j is holding (ByLocal k hold index free through) =
        let same : g ≡ h = cc (holding, hold) in subst (λ (f : ℕ). shared Gpt f ≡ true) same is

    shares-after : (n : ℕ) → Shares n → (g i : ℕ) (w : At) → shared Gpt g ≡ true → w.holding ≡ Some g → (s : Step) → step o kind (slot_at o g i) w ≡ s → walk_after o kind n s ≡ Ok place → shared Page place.number ≡ true
    shares-after n rest g i w is holding (Reach p) e ends =
        let c = slot_at o g i in
        let at : p ≡ place = cc (ends) in
        let last = page-end c w p e in
        let number : c.object ≡ place.number = last.1 ∙ ap (λ (q : Place). q.number) at in
        subst (λ (n : ℕ). shared Page n ≡ true) number (closed g i Page c.object is (names-own c Page (eq-eqb c.object c.object refl) last.0))
    shares-after n rest g i w is holding (Fault code h) e ends = absurd (cc (ends))
    shares-after n rest g i w is holding (Go next h j) e ends =
        let way = (gone o next h j (slot_at o g i) kind w e).way in
        rest h j next (next-shared g i w next h j is holding way) (way-holds o (slot_at o g i) (past (slot_at o g i) w) next h j way) ends

    shares : (n : ℕ) → Shares n
    shares zero g i w is holding ends = let no : ◌≡◌ {A = Result Place WalkFault} (Err _) (Ok place) = sym (walk-zero o kind (slot_at o g i) w) ∙ ends in absurd (cc (no))
    shares (suc n) g i w is holding ends =
        shares-after n (λ g i w is holding ends. shares n g i w is holding ends) g i w is holding (step o kind (slot_at o g i) w) refl (sym (walk-suc o kind n (slot_at o g i) w) ∙ ends)

    module _ (cut : Cut) (settled : ℕ → Bool) (own : shared Page place.number ≡ false) (page : MayRead cut settled place.number)
        (gpts : (g : ℕ) → shared Gpt g ≡ false → side_of cut Gpt g ≡ Left) (address : ℕ) where
      -- what is read is on the left
      abbrev OnLeft : List Noted → Type 0
      OnLeft reads = Each (λ (n : Noted). MayPass cut settled n.item) reads

      left-append : (xs ys : List Noted) → OnLeft xs → OnLeft ys → OnLeft (xs ++ ys)
      left-append [] ys first second = second
      left-append (x ∷ xs) ys first second = (first.0, left-append xs ys first.1 second)

      -- the header of what a capability of this kind names
      left-header : (c : Capability) (l2 : ℕ) (k : CapKind) → c.kind ≡ k → OnLeft (if is_counted k then noted (Header (object_kind k) c.object) address l2 ∷ [] else []) → OnLeft (header_noted c address l2)
      left-header c l2 k at left = subst (λ (k : CapKind). OnLeft (if is_counted k then noted (Header (object_kind k) c.object) address l2 ∷ [] else [])) (sym at) left

      -- that of the GPT from which a walk goes on
      left-way : (c : Capability) (l2 : ℕ) (w next : At) (g i : ℕ) → Way o c w next g i → side_of cut Gpt g ≡ Left → OnLeft (header_noted c address l2)
      left-way c l2 w next g i (BySlot k object index free into) left = left-header c l2 Gpt k (subst (λ (f : ℕ). side_of cut Gpt f ≡ Left) (sym object) left, tt)
      left-way c l2 w next g i (ByWindow k back index through) left = left-header c l2 Window k tt
      left-way c l2 w next g i (ByLocal k hold index free through) left = left-header c l2 LocalWindow k tt

      abbrev Stays : ℕ → Type 0
      Stays n = (c : Capability) (w : At) → walk o kind n c w ≡ Ok place → OnLeft (trail_from o kind address n c w)

      stays-after : (n : ℕ) → Stays n → (c : Capability) (w : At) (s : Step) → step o kind c w ≡ s → walk_after o kind n s ≡ Ok place → OnLeft (header_noted c address w.l2 ++ trail_after o kind address n s)
      stays-after n rest c w (Reach p) e ends =
          let at : p ≡ place = cc (ends) in
          let last = page-end c w p e in
          let number : c.object ≡ place.number = last.1 ∙ ap (λ (q : Place). q.number) at in
          left-append (header_noted c address w.l2) [] (left-header c w.l2 Page last.0 (subst (λ (n : ℕ). MayRead cut settled n) (sym number) page, tt)) tt
      stays-after n rest c w (Fault code h) e ends = absurd (cc (ends))
      stays-after n rest c w (Go next g i) e ends =
          let way = (gone o next g i c kind w e).way in
          let holding = way-holds o c (past c w) next g i way in
          let left = gpts g (false_from_ne_true (shared Gpt g) (λ is. false≢true (sym own ∙ shares n g i next is holding ends))) in
          left-append (header_noted c address w.l2) (trail_after o kind address n (Go next g i)) (left-way c w.l2 (past c w) next g i way left) (left, rest (slot_at o g i) next ends)

      -- a walk that reaches the page reads what is on the left alone
      pub stays : (n : ℕ) (c : Capability) (w : At) → walk o kind n c w ≡ Ok place → OnLeft (trail_from o kind address n c w)
      stays zero c w ends = subst OnLeft (sym (trail_from-zero o kind address c w)) tt
      stays (suc n) c w ends =
          subst OnLeft (sym (trail_from-suc o kind address n c w))
          (stays-after n (λ c w ends. stays n c w ends) c w (step o kind c w) refl (sym (walk-suc o kind n c w) ∙ ends))
