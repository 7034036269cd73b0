use Rattle.std.proofs.Common.{◌≡◌, ℕ, ◌+◌, ◌-◌, max, List, Option, None, get_or, take, drop, sym, subst, ◌∙◌, ap, arith}
use Rattle.std.proofs.lemmas.Grind.{common_steps}
use Rattle.std.specs.List.{list_any}
use Rattle.std.proofs.lemmas.Bool.{lt-leb}
use Rattle.std.proofs.lemmas.List.{get_or_read}
use Rattle.separation_policy.specs.Making.{is_other}
use Rattle.separation_policy.specs.ObjectDomains.{KnowsRuns}
use Rattle.separation_policy.proofs.Ranges.{other-first, others-behind, none-before}
use Rattle.separation_policy.proofs.object_domains.ObjectDomains.is_assigned_other.Goals as goal

pub returns-then-is_other : goal.returns-then-is_other
returns-then-is_other c =
    let xs = c.args.self.now in
    let from = c.args.from in
    let d = c.args.domain in
    let first : c.index.result.now ≡ get_or xs from None =
    get_or_read xs from c.index.result.now (omega arith) (subst (λ (ys : List (Option ℕ)). c.index.result.now ≡ get_or ys from c.index.result.now) c.self.view_is c.index.ensures) None in
    sym (other-first xs d from (c.args.to + 1 - from) (omega arith) (omega arith) (sym (c.if-is_other.ensures ∙ ap (is_other d) first)))

pub returns-then-behind-last : goal.returns-then-behind-last
returns-then-behind-last c =
    let xs = c.args.self.now in
    let from = c.args.from in
    let d = c.args.domain in
    let end = get_or c.self.inside.ends.items from 0 in
    let behind = c.max-behind.result in
    let is : behind ≡ max end (from + 1) = grind (arith, common_steps) in
    let known = subst (λ (ys : List (Option ℕ)). KnowsRuns ys c.self.inside.ends.items) c.self.view_is c.self.invariant in
    let first : c.index.result.now ≡ get_or xs from None =
    get_or_read xs from c.index.result.now (omega arith) (subst (λ (ys : List (Option ℕ)). c.index.result.now ≡ get_or ys from c.index.result.now) c.self.view_is c.index.ensures) None in
    c.has_other.ensures
    ∙ (ap (λ (ys : List (Option ℕ)). list_any (is_other d) (take (c.args.to + 1 - behind) (drop behind ys))) (c.deref.ensures.value ∙ c.self.view_is)
    ∙ sym (others-behind xs from end behind (known.each from) is d c.args.to (sym (c.if-is_other.ensures ∙ ap (is_other d) first)) (omega arith)))

pub returns-else-behind-last : goal.returns-else-behind-last
returns-else-behind-last c =
    let xs = c.args.self.now in
    let from = c.args.from in
    let d = c.args.domain in
    let end = get_or c.self.inside.ends.items from 0 in
    let behind = c.max-behind.result in
    let is : behind ≡ max end (from + 1) = grind (arith, common_steps) in
    let known = subst (λ (ys : List (Option ℕ)). KnowsRuns ys c.self.inside.ends.items) c.self.view_is c.self.invariant in
    let first : c.index.result.now ≡ get_or xs from None =
    get_or_read xs from c.index.result.now (omega arith) (subst (λ (ys : List (Option ℕ)). c.index.result.now ≡ get_or ys from c.index.result.now) c.self.view_is c.index.ensures) None in
    lt-leb behind c.args.to (omega arith)
    ∙ sym (none-before xs from end behind (known.each from) is d (c.args.to + 1 - from) (sym (c.if-is_other.ensures ∙ ap (is_other d) first)) (omega arith))
