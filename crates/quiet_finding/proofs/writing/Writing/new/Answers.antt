use Rattle.std.proofs.Common.{◌≡◌, ◌∙◌, Bool, List, false, replicate, ap, subst}
use Rattle.cap_format.specs.declared.kind.CapKind.TheVariants.{Page}
use Rattle.object_store.specs.Store.{size_of}
use Rattle.quiet_finding.proofs.Written.{all-writing}
use Rattle.quiet_finding.proofs.writing.Writing.new.Goals as goal

pub returns-clause-value : goal.returns-clause-value
returns-clause-value g c =
    let s = c.args.objects.now in
    let none = c.in_ok-writing.writing in
    let empty : none.pages ≡ replicate (size_of s.items Page) false = c.in_ok-writing.ensures.pages ∙ ap (λ n. replicate n false) c.size.ensures in
    all-writing s c.tell_full.ensures none c.add_kind.new.self c.add_kind-2.new.self c.add_kind-3.new.self c.add_kind-4.new.self
    empty c.in_ok-writing.ensures.range c.add_kind.ensures.value c.add_kind-2.ensures.value c.add_kind-3.ensures.value c.add_kind-4.ensures.value
