use Rattle.std.proofs.Common.{◌≡◌, ◌∙◌, ◌+◌, ◌<◌, ◌≤◌, [], ℕ, List, length, drop, get_or, Ok, Err, refl, sym, ap, subst, append-nil, arith}
use Rattle.std.proofs.lemmas.List.{at_drop_all, at_drop_more}
use Rattle.coy_text.specs.Words.{words_of}
use Rattle.separation_policy.specs.declared.policy.Domain.{Domain}
use Rattle.separation_policy.specs.Making.{with_first}
use Rattle.separation_policy.specs.Policy.{PolicyValue}
use Rattle.separation_lines.specs.DomainsLine.{listed_each, listed_one}
use Rattle.separation_lines.proofs.Listing.{first-again, listed-none, listed-refused, listed-taken, more-behind}
use Rattle.separation_lines.proofs.domains.list_each.Goals as goal

pub each-init : goal.each-init
each-init c = record {
  listed = refl;
  kept = ([], ap (λ (ds : List Domain). record c.args.policy.now { domains = ds }) (sym (append-nil c.args.policy.now.domains)));
}

pub each-preserved : goal.each-preserved
each-preserved c =
    let ws = words_of c.args.line.now in
    let place = c.each.place in
    let within : place < length ws = omega (arith, c.word_count-count.ensures, c.each-test.true) in
    let one = subst (λ (word : List ℕ). listed_one c.each.policy word ≡ Ok c.list_one.new.policy) c.word.ensures c.in-Ok.ensures.ok in
    record {
      listed =
          c.each.invariant.listed
          ∙ at_drop_more (listed_each c.each.policy) ws place [] within
          ∙ listed-taken c.each.policy c.list_one.new.policy (get_or ws place []) (drop (place + 1) ws) one;
      kept = more-behind c.args.policy.now c.each.policy c.list_one.new.policy (get_or ws place []) c.each.invariant.kept.0 c.each.invariant.kept.1 one;
    }

pub returns-in-Err-clause-fault : goal.returns-in-Err-clause-fault
returns-in-Err-clause-fault c =
    let ws = words_of c.args.line.now in
    let place = c.each.place in
    let within : place < length ws = omega (arith, c.word_count-count.ensures, c.each-test.true) in
    let one = subst (λ (word : List ℕ). listed_one c.each.policy word ≡ Err c.in-Err.fault) c.word.ensures c.in-Err.ensures.fault in
    c.each.invariant.listed
    ∙ at_drop_more (listed_each c.each.policy) ws place [] within
    ∙ listed-refused c.each.policy (get_or ws place []) (drop (place + 1) ws) c.in-Err.fault one

pub returns-in-Err-clause-before : goal.returns-in-Err-clause-before
returns-in-Err-clause-before c =
    c.keep_first.ensures
    ∙ ap (λ (policy : PolicyValue). with_first policy c.len-before.result) c.in-Err.ensures.before
    ∙ first-again c.args.policy.now c.each.policy c.each.invariant.kept.0 c.len-before.result c.each.invariant.kept.1 c.len-before.ensures.value

pub returns-clause-ok : goal.returns-clause-ok
returns-clause-ok c =
    let ws = words_of c.args.line.now in
    let over : length ws ≤ c.each.place = omega (arith, c.word_count-count.ensures, c.each-test.false) in
    c.each.invariant.listed ∙ at_drop_all (listed_each c.each.policy) ws c.each.place over ∙ listed-none c.each.policy
