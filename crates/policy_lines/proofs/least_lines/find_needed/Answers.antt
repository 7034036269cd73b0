use Rattle.std.proofs.Common.{◌≡◌, ℕ, ◌+◌, ◌*◌, ◌≤◌, ◌==◌, List, [], length, sym, ◌∙◌, ap, ap₂, subst}
use Rattle.cap_format.specs.declared.kind.CapKind.TheVariants.{Gpt}
use Rattle.object_store.specs.Store.{size_of}
use Rattle.machine_state.specs.State.{state_of}
use Rattle.separation_policy.specs.Policy.{PolicyValue}
use Rattle.separation_policy.specs.Making.{bare_policy}
use Rattle.separation_check.specs.declared.crossing.Crossing.{Crossing}
use Rattle.policy_lines.specs.Passages.{ReadsWhole}
use Rattle.policy_lines.specs.Permission.{lines_of}
use Rattle.policy_lines.specs.Unused.{holds_in}
use Rattle.policy_lines.specs.Least.{only, thinned}
use Rattle.policy_lines.specs.Needed.{barred, named_by}
use Rattle.policy_lines.proofs.Adding.{bare-twice}
use Rattle.policy_lines.proofs.Passing.{passages-some, reads-more, reads-none, reads-once}
use Rattle.policy_lines.proofs.Results.{so_err}
use Rattle.policy_lines.proofs.Telling.{tells-barred, tells-lines, tells-passages, read-once, read-all, within-all}
use Rattle.policy_lines.proofs.least_lines.find_needed.Goals as goal

pub returns-in_err-found-clause-bare : goal.returns-in_err-found-clause-bare
returns-in_err-found-clause-bare g c = ap (λ (p : PolicyValue). bare_policy p) c.in_err-found.ensures.after ∙ bare-twice c.args.policy.now

pub returns-in_err-those-clause-bare : goal.returns-in_err-those-clause-bare
returns-in_err-those-clause-bare g c = ap (λ (p : PolicyValue). bare_policy p) c.in_ok-found.ensures.after ∙ bare-twice c.args.policy.now

pub returns-then-not-is_empty-clause-value : goal.returns-then-not-is_empty-clause-value
returns-then-not-is_empty-clause-value g c =
    let are : c.in_ok-those.those.items ≡ barred (length c.bare_crossings.new.policy.domains) c.in_ok-found.found.items =
    c.in_ok-those.ensures ∙ ap₂ (λ (n : ℕ) (xs : List Crossing). barred n xs) c.len.ensures.value c.deref.ensures.value in
    (tells-barred c.args.policy.now c.bare_crossings.new.policy (state_of c.args.machine.now) c.in_ok-found.found.items c.in_ok-found.ensures.after c.in_ok-found.ensures.means
    c.in_ok-those.those.items are (ap (λ (n : ℕ). n == 0) (sym c.in_ok-those.those.ok.0) ∙ (sym c.is_empty.ensures ∙ c.if-not-is_empty.true))).0

pub returns-then-not-is_empty-clause-bare : goal.returns-then-not-is_empty-clause-bare
returns-then-not-is_empty-clause-bare g c = ap (λ (p : PolicyValue). bare_policy p) c.in_ok-found.ensures.after ∙ bare-twice c.args.policy.now

pub returns-then-not-is_empty-clause-counted : goal.returns-then-not-is_empty-clause-counted
returns-then-not-is_empty-clause-counted g c =
    let are : c.in_ok-those.those.items ≡ barred (length c.bare_crossings.new.policy.domains) c.in_ok-found.found.items =
    c.in_ok-those.ensures ∙ ap₂ (λ (n : ℕ) (xs : List Crossing). barred n xs) c.len.ensures.value c.deref.ensures.value in
    let once = (tells-barred c.args.policy.now c.bare_crossings.new.policy (state_of c.args.machine.now) c.in_ok-found.found.items c.in_ok-found.ensures.after c.in_ok-found.ensures.means
    c.in_ok-those.those.items are (ap (λ (n : ℕ). n == 0) (sym c.in_ok-those.those.ok.0) ∙ (sym c.is_empty.ensures ∙ c.if-not-is_empty.true))).1 in
    read-once c.args.fetches.now c.bare_crossings.new.fetches (16 * size_of c.args.machine.now.objects.items Gpt) _ once c.in_ok-found.ensures.counted

pub returns-in_err-kept-clause-bare : goal.returns-in_err-kept-clause-bare
returns-in_err-kept-clause-bare g c =
    c.in_err-kept.ensures.bare ∙ (ap (λ (p : PolicyValue). bare_policy p) c.in_ok-found.ensures.after ∙ bare-twice c.args.policy.now)

pub returns-clause-bare : goal.returns-clause-bare
returns-clause-bare g c =
    c.in_ok-kept.ensures.bare ∙ (ap (λ (p : PolicyValue). bare_policy p) c.in_ok-found.ensures.after ∙ bare-twice c.args.policy.now)

pub returns-in_err-kept-clause-most : goal.returns-in_err-kept-clause-most
returns-in_err-kept-clause-most g c =
    let are : c.in_ok-those.those.items ≡ barred (length c.bare_crossings.new.policy.domains) c.in_ok-found.found.items =
    c.in_ok-those.ensures ∙ ap₂ (λ (n : ℕ) (xs : List Crossing). barred n xs) c.len.ensures.value c.deref.ensures.value in
    let all = tells-passages c.args.policy.now c.bare_crossings.new.policy (state_of c.args.machine.now) c.in_ok-found.found.items c.in_ok-found.ensures.after c.in_ok-found.ensures.means
    c.in_ok-those.those.items are (ap (λ (n : ℕ). n == 0) (sym c.in_ok-those.those.ok.0) ∙ (sym c.is_empty.ensures ∙ c.if-not-is_empty.false)) in
    let tried : c.find_least.new.fetches ≤ c.bare_crossings.new.fetches + 16 * size_of c.args.machine.now.objects.items Gpt
    * length (lines_of (only c.bare_crossings.new.policy (named_by (length c.bare_crossings.new.policy.domains) c.in_ok-found.found.items))) =
    subst (λ (xs : List Crossing). c.find_least.new.fetches ≤ c.bare_crossings.new.fetches + 16 * size_of c.args.machine.now.objects.items Gpt
    * length (lines_of (only c.bare_crossings.new.policy (named_by (length c.bare_crossings.new.policy.domains) xs)))) c.deref-2.ensures.value c.in_err-kept.ensures.most in
    within-all c.args.fetches.now c.bare_crossings.new.fetches c.find_least.new.fetches (16 * size_of c.args.machine.now.objects.items Gpt) _ _ all c.in_ok-found.ensures.counted tried

pub returns-clause-value : goal.returns-clause-value
returns-clause-value g c =
    let policy = c.args.policy.now in
    let s = state_of c.args.machine.now in
    let after = c.bare_crossings.new.policy in
    let are : c.in_ok-those.those.items ≡ barred (length after.domains) c.in_ok-found.found.items =
    c.in_ok-those.ensures ∙ ap₂ (λ (n : ℕ) (xs : List Crossing). barred n xs) c.len.ensures.value c.deref.ensures.value in
    let kept : c.in_ok-kept.kept.items ≡ thinned (λ some. holds_in (only after some) s) [] (lines_of (only after (named_by (length after.domains) c.in_ok-found.found.items))) =
    c.in_ok-kept.ensures.value
    ∙ ap (λ (xs : List Crossing). thinned (λ some. holds_in (only after some) s) [] (lines_of (only after (named_by (length after.domains) xs)))) c.deref-2.ensures.value in
    tells-lines policy after s c.in_ok-found.found.items c.in_ok-found.ensures.after c.in_ok-found.ensures.means
    c.in_ok-those.those.items are (ap (λ (n : ℕ). n == 0) (sym c.in_ok-those.those.ok.0) ∙ (sym c.is_empty.ensures ∙ c.if-not-is_empty.false)) c.in_ok-kept.kept.items kept

pub returns-clause-counted : goal.returns-clause-counted
returns-clause-counted g c =
    let are : c.in_ok-those.those.items ≡ barred (length c.bare_crossings.new.policy.domains) c.in_ok-found.found.items =
    c.in_ok-those.ensures ∙ ap₂ (λ (n : ℕ) (xs : List Crossing). barred n xs) c.len.ensures.value c.deref.ensures.value in
    let all = tells-passages c.args.policy.now c.bare_crossings.new.policy (state_of c.args.machine.now) c.in_ok-found.found.items c.in_ok-found.ensures.after c.in_ok-found.ensures.means
    c.in_ok-those.those.items are (ap (λ (n : ℕ). n == 0) (sym c.in_ok-those.those.ok.0) ∙ (sym c.is_empty.ensures ∙ c.if-not-is_empty.false)) in
    let tried : c.find_least.new.fetches ≡ c.bare_crossings.new.fetches + 16 * size_of c.args.machine.now.objects.items Gpt
    * length (lines_of (only c.bare_crossings.new.policy (named_by (length c.bare_crossings.new.policy.domains) c.in_ok-found.found.items))) =
    subst (λ (xs : List Crossing). c.find_least.new.fetches ≡ c.bare_crossings.new.fetches + 16 * size_of c.args.machine.now.objects.items Gpt
    * length (lines_of (only c.bare_crossings.new.policy (named_by (length c.bare_crossings.new.policy.domains) xs)))) c.deref-2.ensures.value c.in_ok-kept.ensures.counted in
    read-all c.args.fetches.now c.bare_crossings.new.fetches c.find_least.new.fetches (16 * size_of c.args.machine.now.objects.items Gpt) _ _ all c.in_ok-found.ensures.counted tried

pub returns-clause-most : goal.returns-clause-most
returns-clause-most g c =
    let are : c.in_ok-those.those.items ≡ barred (length c.bare_crossings.new.policy.domains) c.in_ok-found.found.items =
    c.in_ok-those.ensures ∙ ap₂ (λ (n : ℕ) (xs : List Crossing). barred n xs) c.len.ensures.value c.deref.ensures.value in
    let all = tells-passages c.args.policy.now c.bare_crossings.new.policy (state_of c.args.machine.now) c.in_ok-found.found.items c.in_ok-found.ensures.after c.in_ok-found.ensures.means
    c.in_ok-those.those.items are (ap (λ (n : ℕ). n == 0) (sym c.in_ok-those.those.ok.0) ∙ (sym c.is_empty.ensures ∙ c.if-not-is_empty.false)) in
    let tried : c.find_least.new.fetches ≤ c.bare_crossings.new.fetches + 16 * size_of c.args.machine.now.objects.items Gpt
    * length (lines_of (only c.bare_crossings.new.policy (named_by (length c.bare_crossings.new.policy.domains) c.in_ok-found.found.items))) =
    subst (λ (xs : List Crossing). c.find_least.new.fetches ≤ c.bare_crossings.new.fetches + 16 * size_of c.args.machine.now.objects.items Gpt
    * length (lines_of (only c.bare_crossings.new.policy (named_by (length c.bare_crossings.new.policy.domains) xs)))) c.deref-2.ensures.value c.in_ok-kept.ensures.most in
    within-all c.args.fetches.now c.bare_crossings.new.fetches c.find_least.new.fetches (16 * size_of c.args.machine.now.objects.items Gpt) _ _ all c.in_ok-found.ensures.counted tried

-- ---- where memory is wanting

pub returns-in_err-found-clause-err : goal.returns-in_err-found-clause-err
returns-in_err-found-clause-err g c = so_err _ _ (subst (ReadsWhole _ _ c.args.fetches.now) (sym c.in_err-found.ensures.err) (reads-none _ _ _))

pub returns-in_err-those-clause-err : goal.returns-in_err-those-clause-err
returns-in_err-those-clause-err g c = so_err _ _ (reads-once _ _ _ _ (passages-some c.args.policy.now (state_of c.args.machine.now)) c.in_ok-found.ensures.counted)

pub returns-in_err-kept-clause-err : goal.returns-in_err-kept-clause-err
returns-in_err-kept-clause-err g c =
    let are : c.in_ok-those.those.items ≡ barred (length c.bare_crossings.new.policy.domains) c.in_ok-found.found.items =
    c.in_ok-those.ensures ∙ ap₂ (λ (n : ℕ) (xs : List Crossing). barred n xs) c.len.ensures.value c.deref.ensures.value in
    let all = tells-passages c.args.policy.now c.bare_crossings.new.policy (state_of c.args.machine.now) c.in_ok-found.found.items c.in_ok-found.ensures.after c.in_ok-found.ensures.means
    c.in_ok-those.those.items are (ap (λ (n : ℕ). n == 0) (sym c.in_ok-those.those.ok.0) ∙ (sym c.is_empty.ensures ∙ c.if-not-is_empty.false)) in
    let slots = 16 * size_of c.args.machine.now.objects.items Gpt in
    let more = subst (λ (xs : List Crossing). ReadsWhole slots (length (lines_of (only c.bare_crossings.new.policy (named_by (length c.bare_crossings.new.policy.domains) xs))))
    c.bare_crossings.new.fetches c.find_least.new.fetches) c.deref-2.ensures.value c.in_err-kept.ensures.err in
    so_err _ _ (reads-more slots _ _ c.args.fetches.now c.bare_crossings.new.fetches c.find_least.new.fetches all c.in_ok-found.ensures.counted more)
