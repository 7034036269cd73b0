use Rattle.std.proofs.Common.{◌≡◌, ℕ, ◌<◌, ◌∷◌, [], List, length, get_or, refl, sym, subst, ◌∙◌, ap, arith}
use Rattle.std.proofs.lemmas.List.{length-append}
use Rattle.separation_policy.specs.declared.domain_set.DomainSet.{DomainSet}
use Rattle.separation_policy.specs.DomainSet.{no_domains, has_domain, with_domain}
use Rattle.separation_policy.specs.Policy.{domain_at, may_read, reach_below}
use Rattle.separation_policy.proofs.Closing.{read-row, rows-more}
use Rattle.separation_policy.proofs.closure.read_rows.Goals as goal

pub each-preserved : goal.each-preserved
each-preserved c =
    let policy = c.args.policy.now in
    let items = c.in_ok-push.ensures.items in
    let long = length-append c.each.rows.items (c.with.result ∷ []) in
    let last : (b : ℕ) → has_domain c.with.result b ≡ reach_below (may_read policy) 0 c.each.a b = λ b. ap (λ (r : DomainSet). has_domain r b) (c.with.ensures ∙ ap (λ (r : DomainSet). with_domain r c.each.a) c.reads.ensures) ∙ read-row policy c.each.a b (domain_at policy c.each.a).reads refl in
    record {
      size = ap length items ∙ (long ∙ omega (arith, c.each.invariant.size));
      each = subst (λ (rows : List DomainSet). (a b : ℕ) → a < length rows → has_domain (get_or rows a no_domains) b ≡ reach_below (may_read policy) 0 a b) (sym items)
          (rows-more (may_read policy) c.each.rows.items c.with.result c.each.invariant.each (λ b. last b ∙ ap (λ (n : ℕ). reach_below (may_read policy) 0 n b) (sym c.each.invariant.size)));
    }
