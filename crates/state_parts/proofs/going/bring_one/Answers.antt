use Rattle.std.proofs.Common.{◌<◌, sym, ◌∙◌, subst}
use Rattle.cap_format.specs.declared.kind.CapKind.{CapKind}
use Rattle.object_store.specs.Store.{size_of}
use Rattle.object_parts.specs.Objects.{object_in}
use Rattle.state_parts.proofs.Brought.{kind_of_part}
use Rattle.state_parts.proofs.going.bring_one.Goals as goal

pub put_part-requires : goal.put_part-requires
put_part-requires c =
    let part = c.get.result.now in
    let There : CapKind → Type 0 = λ k. c.args.name.number < size_of c.args.objects.now.items k in
    subst There (sym (sym (kind_of_part part) ∙ c.requires.kind (object_in part) c.get.ensures.value)) c.requires.there
