use Rattle.std.proofs.Common.{◌≡◌, ℕ, ◌+◌, ◌<◌, ◌⊎◌, inl, inr, List, get_or, Some, slice_get, sym, ap, ◌∙◌, subst, arith}
use Rattle.std.proofs.lemmas.Bool.{cases_eq}
use Rattle.std.proofs.lemmas.Option.{get_or_from_slice_get, slice_get_within}
use Rattle.std.specs.Option.{MatchOption}
use Rattle.fair_rounds.specs.declared.breadth.Found.{Found}
use Rattle.fair_rounds.specs.Loops.{NoneFrom, OneFrom}
use Rattle.fair_rounds.proofs.evading.first_caught.Goals as goal

none-more : (P : ℕ → Type 0) (found : List Found) (d : Found) (place : ℕ) → ((i : ℕ) (f : Found) → i < place → slice_get found i ≡ Some f → P f.node) → P (get_or found place d).node
    → (i : ℕ) (f : Found) → i < place + 1 → slice_get found i ≡ Some f → P f.node
none-more P found d place before here i f l h = by (cases_eq i place)
  where
    by : (i ≡ place) ⊎ (i ≡ place → ⊥) → P f.node
    by (inl e) = subst (λ (g : Found). P g.node) (ap (λ j. get_or found j d) (sym e) ∙ get_or_from_slice_get found i f d h) here
    by (inr apart) = before i f (omega (arith, l, apart)) h

pub loop-place-preserved : goal.loop-place-preserved
loop-place-preserved c =
    let a = c.args in
    let d : Found = record { node = 0; parent = 0; choice = 0; depth = 0 } in
    let double : ℕ = (get_or a.found.now c.loop-place.place d).node in
    let none = subst (λ o. MatchOption o (NoneFrom a.width a.walls.now a.nodes double) (λ b. OneFrom a.width a.walls.now a.nodes double b.items)) c.in_default.is c.in_ok-cycle.ensures in
    none-more (NoneFrom a.width a.walls.now a.nodes) a.found.now d c.loop-place.place c.loop-place.invariant none

pub returns : goal.returns
returns c i f h = c.loop-place.invariant i f (omega (arith, slice_get_within c.args.found.now i f h, c.loop-place-test.false)) h
