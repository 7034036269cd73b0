use Rattle.std.proofs.Common.{◌≡◌, ◌≤◌, true, false, [], ◌∷◌, length, slice_get, refl, sym, ap, ◌∙◌, subst, arith, set, replicate, length-set}
use Rattle.std.proofs.lemmas.List.{length-replicate}
use Rattle.fair_rounds.specs.declared.breadth.Found.{Found}
use Rattle.fair_rounds.specs.Search.{IsSearched, IsSpread}
use Rattle.fair_rounds.proofs.Spreading.{spread-start, spread-all}
use Rattle.fair_rounds.proofs.breadth.search.Goals as goal

pub loop-at-init : goal.loop-at-init
loop-at-init c =
    let a = c.args in
    let f : Found = record { node = a.start; parent = 0; choice = 0; depth = 0 } in
    let found : c.in_ok-found.found.items ≡ f ∷ [] = c.in_ok-found.ensures.items in
    let seen : c.in_ok-seen.seen.items ≡ replicate a.nodes false = c.in_ok-seen.ensures.items_if_clones_equal (λ y e. e) in
    record {
      many = length-set c.in_ok-seen.seen.items a.start true ∙ ap length seen ∙ length-replicate a.nodes false;
      first = (f, ap (λ fs. slice_get fs 0) found, refl);
      spread = subst (λ ms. IsSpread a.width a.ends.now (set ms a.start true) c.in_ok-found.found.items 0) (sym seen)
          (subst (λ fs. IsSpread a.width a.ends.now (set (replicate a.nodes false) a.start true) fs 0) (sym found) (spread-start a.width a.ends.now a.nodes a.start f c.requires.start refl refl));
    }

pub returns : goal.returns
returns c =
    let a = c.args in
    let l = c.loop-at in
    let inv = l.invariant in
    let past : length l.found.items ≤ l.at = omega (arith, c.loop-at-test.false, c.len.ensures) in
    subst (λ n. IsSearched a.width a.ends.now n a.start l.found.items) inv.many
    (spread-all a.width a.ends.now l.seen.items l.found.items l.at past inv.spread a.start inv.first.0 inv.first.1 inv.first.2)
