-- A walk that reads nothing but what is on the left is the same in two maps of items whose GPTs of the left are, and so is what it
-- reads.
use Rattle.std.proofs.Common.{◌≡◌, ℕ, zero, suc, Bool, if◌then◌else◌, List, [], ◌∷◌, ◌++◌, Option, Some, None, Result, Ok, Err, refl, sym, ◌∙◌, ap, subst}
use Rattle.std.specs.List.{AllByRecursion as Each}
use Rattle.cap_format.specs.declared.kind.CapKind.{CapKind}
use Rattle.cap_format.specs.declared.kind.CapKind.TheVariants.{Gpt}
use Rattle.cap_format.specs.declared.item.Item.TheVariants.{Header, Slot}
use Rattle.cap_format.specs.Kind.{is_counted, object_kind}
use Rattle.cap_format.specs.Capability.{Capability}
use Rattle.gpt_objects.specs.Gpt.{GptValue, slot_of}
use Rattle.object_store.specs.Store.{Items, gpt_at, slot_at}
use Rattle.walk_meaning.specs.declared.at.At.{At}
use Rattle.walk_meaning.specs.declared.kind.Kind.{Kind}
use Rattle.walk_meaning.specs.declared.noted.Noted.{Noted}
use Rattle.walk_meaning.specs.declared.place.Place.{Place}
use Rattle.walk_meaning.specs.declared.place.WalkFault.{WalkFault}
use Rattle.walk_meaning.specs.declared.step.Step.{Step}
use Rattle.walk_meaning.specs.declared.step.Step.TheVariants.{Reach, Fault, Go}
use Rattle.walk_meaning.specs.Walk.{past, step, walk}
use Rattle.walk_meaning.specs.Trail.{noted, header_noted, trail_from}
use Rattle.walk_meaning.specs.After.{walk_after, trail_after}
use Rattle.walk_meaning.proofs.Walked.{walk-zero, walk-suc, trail_from-suc}
use Rattle.walk_meaning.proofs.Ways.{Way, gone, step-headers}
use Rattle.walk_meaning.proofs.Ways.Way.{BySlot, ByWindow, ByLocal}
use Rattle.confinement.specs.declared.cut_side.CutSide.TheVariants.{Left}
use Rattle.confinement.specs.Cut.{Cut, side_of}
use Rattle.independence.specs.Quiet.{MayPass}

-- what holds of each of a list holds of each of its two parts
each-parts : {A : Type 0} (P : A → Type 0) (xs ys : List A) → Each P (xs ++ ys) → Each P xs × Each P ys
each-parts P [] ys each = (tt, each)
each-parts P (x ∷ xs) ys each = let rest = each-parts P xs ys each.1 in ((each.0, rest.0), rest.1)

module _ (cut : Cut) (settled : ℕ → Bool) where
  -- these reads are of what is on the left
  abbrev pub ReadsLeft : List Noted → Type 0
  ReadsLeft reads = Each (λ (n : Noted). MayPass cut settled n.item) reads

  -- there is no such GPT, or it is on the left
  abbrev OnLeft : Option ℕ → Type 0
  OnLeft None = Unit {0}
  OnLeft (Some g) = side_of cut Gpt g ≡ Left

  on-some : (h : Option ℕ) (g : ℕ) → h ≡ Some g → OnLeft h → side_of cut Gpt g ≡ Left
  on-some h g e on = subst OnLeft e on

  -- a GPT whose header is read is on the left
  header-left : (c : Capability) (address l2 : ℕ) → c.kind ≡ Gpt → ReadsLeft (header_noted c address l2) → side_of cut Gpt c.object ≡ Left
  header-left c address l2 k reads =
      let one = subst (λ (kind : CapKind). ReadsLeft (if is_counted kind then noted (Header (object_kind kind) c.object) address l2 ∷ [] else [])) k reads in one.0

  -- the GPT from which a walk goes on is its holding GPT
  holds-left : (o : Items) (c : Capability) (w next : At) (g i : ℕ) → Way o c w next g i → side_of cut Gpt g ≡ Left → OnLeft next.holding
  holds-left o c w next g i (BySlot k object index free into) left = subst (λ (t : At). OnLeft t.holding) into (subst (λ (f : ℕ). side_of cut Gpt f ≡ Left) (sym object) left)
  holds-left o c w next g i (ByWindow k back index through) left = subst (λ (t : At). OnLeft t.holding) through left
  holds-left o c w next g i (ByLocal k hold index free through) left = subst (λ (t : At). OnLeft t.holding) through left

  module _ (o u : Items) (same : (g : ℕ) → side_of cut Gpt g ≡ Left → gpt_at o g ≡ gpt_at u g) (kind : Kind) (address : ℕ) where
    -- a walk and its reads are the same
    pub record SameWalk (n : ℕ) (c : Capability) (w : At) : Type 0 where
      pub walked : walk u kind n c w ≡ walk o kind n c w
      pub read : trail_from u kind address n c w ≡ trail_from o kind address n c w

    record SameAfter (n : ℕ) (s : Step) : Type 0 where
      walked : walk_after u kind n s ≡ walk_after o kind n s
      read : trail_after u kind address n s ≡ trail_after o kind address n s

    same-step : (c : Capability) (w : At) → OnLeft w.holding → ReadsLeft (header_noted c address w.l2) → step o kind c w ≡ step u kind c w
    same-step c w on reads =
        step-headers o u kind c w (λ k. ap (λ (gpt : GptValue). gpt.header) (same c.object (header-left c address w.l2 k reads)))
        (λ g hold. ap (λ (gpt : GptValue). gpt.header) (same g (on-some w.holding g hold on)))

    abbrev Follows : ℕ → Type 0
    Follows n = (c : Capability) (w : At) → OnLeft w.holding → ReadsLeft (trail_from o kind address n c w) → (place : Place) → walk o kind n c w ≡ Ok place → SameWalk n c w

    same-after : (n : ℕ) → Follows n → (c : Capability) (w : At) (s : Step) → step o kind c w ≡ s → ReadsLeft (trail_after o kind address n s) → (place : Place) → walk_after o kind n s ≡ Ok place
        → SameAfter n s
    same-after n rest c w (Reach p) e reads place ends = record { walked = refl; read = refl }
    same-after n rest c w (Fault code h) e reads place ends = absurd (cc (ends))
    same-after n rest c w (Go next g i) e reads place ends =
        let left = reads.0 in
        let on = rest (slot_at o g i) next (holds-left o c (past c w) next g i (gone o next g i c kind w e).way left) reads.1 place ends in
        let slot : slot_at u g i ≡ slot_at o g i = sym (ap (λ (gpt : GptValue). slot_of gpt i) (same g left)) in
        record {
          walked = ap (λ (c : Capability). walk u kind n c next) slot ∙ on.walked;
          read = ap (λ (c : Capability). noted (Slot g i) address next.l2 ∷ trail_from u kind address n c next) slot
              ∙ ap (λ (ns : List Noted). noted (Slot g i) address next.l2 ∷ ns) on.read;
        }

    follows : (n : ℕ) → Follows n
    follows zero c w on reads place ends = let no : ◌≡◌ {A = Result Place WalkFault} (Err _) (Ok place) = sym (walk-zero o kind c w) ∙ ends in absurd (cc (no))
    follows (suc n) c w on reads place ends =
        let parts = each-parts (λ (n : Noted). MayPass cut settled n.item) (header_noted c address w.l2) (trail_after o kind address n (step o kind c w)) (subst ReadsLeft (trail_from-suc o kind address n c w) reads) in
        let step_is = same-step c w on parts.0 in
        let rest = same-after n (λ c w on reads place ends. follows n c w on reads place ends) c w (step o kind c w) refl parts.1 place (sym (walk-suc o kind n c w) ∙ ends) in
        record {
          walked = walk-suc u kind n c w ∙ (ap (λ (s : Step). walk_after u kind n s) (sym step_is) ∙ (rest.walked ∙ sym (walk-suc o kind n c w)));
          read = trail_from-suc u kind address n c w ∙ (ap (λ (s : Step). header_noted c address w.l2 ++ trail_after u kind address n s) (sym step_is)
              ∙ (ap (λ (ns : List Noted). header_noted c address w.l2 ++ ns) rest.read ∙ sym (trail_from-suc o kind address n c w)));
        }

    -- a walk of any length
    pub walk-follows : (n : ℕ) (c : Capability) (w : At) → OnLeft w.holding → ReadsLeft (trail_from o kind address n c w) → (place : Place) → walk o kind n c w ≡ Ok place → SameWalk n c w
    walk-follows n c w on reads place ends = follows n c w on reads place ends
