use Rattle.std.proofs.Common.{◌≡◌, IfOk, sym, subst, ◌∙◌}
use Rattle.cap_format.specs.declared.kind.CapKind.TheVariants.{CapPage, Gpt, Process}
use Rattle.object_store.specs.Object.{ObjectValue, object_at}
use Rattle.object_parts.specs.Live.{live_store, live_object}
use Rattle.object_parts.specs.Objects.{object_in}
use Rattle.object_parts.proofs.Buried.{object_live}
use Rattle.object_parts.proofs.making.part_of.Goals as goal

pub returns-in-CapPage-clause-object : goal.returns-in-CapPage-clause-object
returns-in-CapPage-clause-object g c =
    let s = c.args.objects.now in
    let e : live_object s.items (object_at s CapPage c.args.number) ≡ object_at (live_store s) c.args.kind c.args.number = rw c.in-CapPage.is (sym (object_live s CapPage c.args.number)) in
    let Makes : ObjectValue → Type 0 = λ x. IfOk c.cap_page_part.result (λ part. object_in part ≡ x) in
    subst Makes e c.cap_page_part.ensures.object

pub returns-in-Gpt-clause-object : goal.returns-in-Gpt-clause-object
returns-in-Gpt-clause-object g c =
    let s = c.args.objects.now in
    let e : live_object s.items (object_at s Gpt c.args.number) ≡ object_at (live_store s) c.args.kind c.args.number = rw c.in-Gpt.is (sym (object_live s Gpt c.args.number)) in
    c.gpt_part.ensures.object ∙ e

pub returns-in-Process-clause-object : goal.returns-in-Process-clause-object
returns-in-Process-clause-object g c =
    let s = c.args.objects.now in
    let e : live_object s.items (object_at s Process c.args.number) ≡ object_at (live_store s) c.args.kind c.args.number = rw c.in-Process.is (sym (object_live s Process c.args.number)) in
    let Makes : ObjectValue → Type 0 = λ x. IfOk c.process_part.result (λ part. object_in part ≡ x) in
    subst Makes e c.process_part.ensures.object
