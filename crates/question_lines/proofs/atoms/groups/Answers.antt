use Rattle.std.proofs.Common.{◌≡◌, ◌∙◌, ◌+◌, ◌==◌, Bool, true, false, if◌then◌else◌, List, length, drop, take, Result, Ok, sym, ap, ap₂, subst, inl, inr, arith}
use Rattle.std.specs.Prelude.{codes}
use Rattle.std.proofs.lemmas.Bool.{cases_lt, eq-eqb, ne_eqb}
use Rattle.std.proofs.lemmas.List.{drop-drop, length-drop}
use Rattle.questions.specs.declared.atom.Atom.{Atom}
use Rattle.listing_read.specs.declared.object_fault.QuestionFault.{QuestionFault}
use Rattle.question_lines.specs.AtomLine.{atoms_from, groups_from}
use Rattle.question_lines.specs.Parts.{IsPushed, before}
use Rattle.question_lines.specs.QuestionLine.{IsUntaken}
use Rattle.question_lines.proofs.Parting.{behind, part-pushed, part-untaken}
use Rattle.question_lines.proofs.atoms.groups.Goals as goal

-- behind one that is the last, or is not
by_last : (new : List (List Atom)) (rest : Result (List (List Atom)) QuestionFault) (b last : Bool) → b ≡ last → (if b then Ok new else rest) ≡ (if last then Ok new else rest)
by_last new rest b last is = ap (λ (b : Bool). if b then Ok new else rest) is

pub returns-in-Err-clause-untaken : goal.returns-in-Err-clause-untaken
returns-in-Err-clause-untaken c =
    let ws = drop c.parts.at c.args.words.now in
    let k = c.before-count.result in
    let rest = c.behind-rest.ensures in
    subst (λ (r : Result (List (List Atom)) QuestionFault). IsUntaken r c.in-Err.untaken) (sym c.parts.invariant.goes_on)
    (part-untaken (atoms_from c.args.sizes) (codes "or") ws c.parts.groups.items k c.in-Err.untaken
    (c.before-count.ensures.value ∙ ap₂ before c.as_slice.ensures rest)
    (subst (λ part. IsUntaken (atoms_from c.args.sizes part) c.in-Err.untaken) (c.first.ensures ∙ ap (take k) rest) c.in-Err.ensures.untaken))

pub returns-then-count-clause-value : goal.returns-then-count-clause-value
returns-then-count-clause-value c =
    let ws = drop c.parts.at c.args.words.now in
    let k = c.before-count.result in
    let new = c.push_group.new.groups.items in
    let rest = c.behind-rest.ensures in
    let all : k ≡ length ws = c.if-count.true ∙ c.count.ensures ∙ ap length rest in
    c.parts.invariant.goes_on
    ∙ part-pushed (atoms_from c.args.sizes) (codes "or") ws c.parts.groups.items k new
    (c.before-count.ensures.value ∙ ap₂ before c.as_slice.ensures rest)
    (subst (λ part. IsPushed (atoms_from c.args.sizes part) c.parts.groups.items new) (c.first.ensures ∙ ap (take k) rest) c.in-Ok.ensures.value)
    ∙ by_last new _ (k == length ws) true (eq-eqb k (length ws) all)

pub parts-preserved : goal.parts-preserved
parts-preserved c =
    let ws = drop c.parts.at c.args.words.now in
    let k = c.before-count.result in
    let new = c.push_group.new.groups.items in
    let rest = c.behind-rest.ensures in
    let more : length ws ≡ length c.behind-rest.result = ap length (sym rest) in
    record {
      goes_on =
          c.parts.invariant.goes_on
          ∙ part-pushed (atoms_from c.args.sizes) (codes "or") ws c.parts.groups.items k new
          (c.before-count.ensures.value ∙ ap₂ before c.as_slice.ensures rest)
          (subst (λ part. IsPushed (atoms_from c.args.sizes part) c.parts.groups.items new) (c.first.ensures ∙ ap (take k) rest) c.in-Ok.ensures.value)
          ∙ by_last new _ (k == length ws) false (ne_eqb k (length ws) (λ all. c.if-count.false (all ∙ more ∙ sym c.count.ensures)))
          ∙ ap (λ words. behind new (groups_from c.args.sizes words)) (drop-drop (k + 1) c.parts.at c.args.words.now);
      range = c.in-Ok.ensures.range;
      within = elim (cases_lt k (length ws)) [
        | inl lower ↦ omega (arith, lower, length-drop c.parts.at c.args.words.now, c.parts.invariant.within)
        | inr past ↦ absurd (c.if-count.false (omega (arith, past, more, c.before-count.ensures.most, c.count.ensures)))
      ];
    }

pub overflow_add-at-in-parts : goal.overflow_add-at-in-parts
overflow_add-at-in-parts c =
    let rest = c.behind-rest.ensures in
    omega (arith, ap length rest, length-drop c.parts.at c.args.words.now, c.before-count.ensures.most, c.count.ensures, c.count-count.ensures, c.parts.invariant.within)
