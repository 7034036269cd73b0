use Rattle.std.proofs.Common.{◌≡◌, ℕ, ◌+◌, ◌-◌, ◌<◌, ◌++◌, max, false, List, Option, length, get_or, set, take, drop, sym, subst, ◌∙◌, ap, arith}
use Rattle.std.proofs.lemmas.Grind.{common_steps}
use Rattle.std.specs.List.{list_any}
use Rattle.separation_policy.specs.Making.{assigned_between, is_other}
use Rattle.separation_policy.specs.ObjectDomains.{KnowsRuns}
use Rattle.separation_policy.proofs.Ranges.{written-behind, held-whole, known-assigned}
use Rattle.separation_policy.proofs.object_domains.ObjectDomains.extend.Goals as goal

pub invariant_of-self : goal.invariant_of-self
invariant_of-self c =
    let xs = c.self.inside.domains.items in
    let ends = c.self.inside.ends.items in
    let from = c.args.from in
    let to = c.args.to in
    let d = c.args.domain in
    let there : to < length xs = subst (λ (ys : List (Option ℕ)). to < length ys) (sym c.self.view_is) c.requires.there in
    let free = subst (λ (ys : List (Option ℕ)). list_any (is_other d) (take (to + 1 - from) (drop from ys)) ≡ false) (sym c.self.view_is) c.requires.free in
    let is : c.max-behind.result ≡ max (get_or ends from 0) from = grind (arith, common_steps) in
    let written : take c.self.inside.domains.len (c.put_between.new.assigned ++ drop (length c.put_between.new.assigned) xs) ≡ assigned_between xs from to d =
    written-behind xs from to d c.requires.order there free _ _ (c.self.invariant.each from) is (omega arith) _ _ c.deref_mut.ensures.value c.put_between.ensures _ (omega arith) in
    subst (λ (ys : List (Option ℕ)). KnowsRuns ys (set ends from (to + 1))) (sym written) (known-assigned xs from to d c.requires.order there free ends c.self.invariant)

pub returns-then-behind-to : goal.returns-then-behind-to
returns-then-behind-to c =
    let xs = c.self.inside.domains.items in
    let ends = c.self.inside.ends.items in
    let from = c.args.from in
    let to = c.args.to in
    let d = c.args.domain in
    let there : to < length xs = subst (λ (ys : List (Option ℕ)). to < length ys) (sym c.self.view_is) c.requires.there in
    let free = subst (λ (ys : List (Option ℕ)). list_any (is_other d) (take (to + 1 - from) (drop from ys)) ≡ false) (sym c.self.view_is) c.requires.free in
    let is : c.max-behind.result ≡ max (get_or ends from 0) from = grind (arith, common_steps) in
    written-behind xs from to d c.requires.order there free _ _ (c.self.invariant.each from) is (omega arith) _ _ c.deref_mut.ensures.value c.put_between.ensures _ (omega arith)
    ∙ ap (λ (ys : List (Option ℕ)). assigned_between ys from to d) c.self.view_is

pub returns-else-behind-to : goal.returns-else-behind-to
returns-else-behind-to c =
    let ends = c.self.inside.ends.items in
    let from = c.args.from in
    let is : c.max-behind.result ≡ max (get_or ends from 0) from = grind (arith, common_steps) in
    let known = subst (λ (ys : List (Option ℕ)). KnowsRuns ys ends) c.self.view_is c.self.invariant in
    held-whole c.args.self.now from c.args.to c.args.domain c.requires.order c.requires.there c.requires.free _ _ (known.each from) is (omega arith)
