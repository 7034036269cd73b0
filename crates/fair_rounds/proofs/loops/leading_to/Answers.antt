use Rattle.std.proofs.Common.{◌≡◌, ℕ, ◌<◌, ◌↔◌, true, false, Bool, List, length, replicate, set, sym, ap, ◌∙◌, subst, arith}
use Rattle.reaches_back.specs.Edges.{CanReach}
use Rattle.fair_rounds.specs.Table.{IsTable, is_marked}
use Rattle.fair_rounds.specs.Loops.{AreLeading}
use Rattle.fair_rounds.proofs.Places.{came-back}
use Rattle.fair_rounds.proofs.Looping.{leading, one-marked, one-long}
use Rattle.fair_rounds.proofs.loops.leading_to.Goals as goal

pub mark_leading-requires : goal.mark_leading-requires
mark_leading-requires c =
    let n = c.args.nodes in
    let is : c.deref_mut.result.now ≡ set (replicate n false) c.args.at true = c.deref_mut.ensures.value ∙ c.in_ok-marks.ensures in
    let long : length c.deref_mut.result.now ≡ n = ap length is ∙ one-long n c.args.at in
    record {
      table = subst (IsTable c.args.width c.args.ends.now) (sym long) c.requires.table;
      at = ap (λ ms. is_marked ms c.args.at) is ∙ one-marked n c.args.at c.requires.at;
      within = omega (arith, long, c.requires.at);
    }

pub returns : goal.returns
returns c =
    let n = c.args.nodes in
    let w = c.args.width in
    let e = c.args.ends.now in
    let only = set (replicate n false) c.args.at true in
    let is : c.deref_mut.result.now ≡ only = c.deref_mut.ensures.value ∙ c.in_ok-marks.ensures in
    let now = c.mark_leading.new.marks in
    let back = came-back c.in_ok-marks.marks.len now c.in_ok-marks.marks.items (c.mark_leading.auto.marks ∙ c.deref_mut.ensures.len) in
    let many : length now ≡ n = c.mark_leading.auto.marks ∙ ap length is ∙ one-long n c.args.at in
    let reach : (i : ℕ) → i < length only → (is_marked now i ≡ true) ↔ CanReach w e only i =
    subst (λ (ms : List Bool). (i : ℕ) → i < length ms → (is_marked now i ≡ true) ↔ CanReach w e ms i) is c.in_ok-mark_leading.ensures in
    subst (AreLeading w e n c.args.at) (sym back) (leading w e n c.args.at c.requires.at now many reach)
