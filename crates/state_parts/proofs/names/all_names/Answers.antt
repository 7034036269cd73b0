use Rattle.std.proofs.Common.{◌≡◌, [], ◌++◌, List, sym, ap, ◌∙◌, subst}
use Rattle.object_store.specs.Object.{ObjectName}
use Rattle.cap_format.specs.declared.kind.CapKind.TheVariants.{Page, CapPage, Gpt, Endpoint, Process}
use Rattle.machine_state.specs.Taking.{names_of}
use Rattle.state_parts.specs.Keys.{AreAll, numbered}
use Rattle.state_parts.proofs.Marked.{all_numbered}
use Rattle.state_parts.proofs.names.all_names.Goals as goal

pub returns : goal.returns
returns c =
    let z = c.args.sizes in
    let All_of : List ObjectName → Type 0 = λ names. AreAll z names in
    let e : names_of c.add_names-5.new.names.items ≡ [] ++ numbered Page z.pages ++ numbered CapPage z.cappages ++ numbered Gpt z.gpts ++ numbered Process z.processes ++ numbered Endpoint z.endpoints =
    c.in_ok-add_names-5.ensures
    ∙ ap (λ (xs : List ObjectName). xs ++ numbered Endpoint z.endpoints) (c.in_ok-add_names-4.ensures
    ∙ ap (λ (xs : List ObjectName). xs ++ numbered Process z.processes) (c.in_ok-add_names-3.ensures
    ∙ ap (λ (xs : List ObjectName). xs ++ numbered Gpt z.gpts) (c.in_ok-add_names-2.ensures
    ∙ ap (λ (xs : List ObjectName). xs ++ numbered CapPage z.cappages) (c.in_ok-add_names.ensures
    ∙ ap (λ xs. names_of xs ++ numbered Page z.pages) c.new-names.ensures.items)))) in
    subst All_of (sym e) (all_numbered z)
