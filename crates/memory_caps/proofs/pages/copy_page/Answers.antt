use Rattle.std.proofs.Common.{ap, ◌∙◌, sym, length}
use Rattle.std.proofs.lemmas.List.{length-replicate}
use Rattle.object_store.specs.Store.{with_page}
use Rattle.memory_caps.proofs.Whole.{whole_page}
use Rattle.memory_caps.proofs.pages.copy_page.Goals as goal

pub returns : goal.returns
returns c =
    let copied = whole_page 4096 c.page_mut.result.now c.page.result.now c.read.new.into c.read.ensures.size c.read.ensures.bytes (ap length (sym c.write.ensures.bytes) ∙ c.write.ensures.size) in
    ap (with_page c.args.objects.now c.args.to) (c.write.ensures.bytes ∙ (copied ∙ c.page.ensures.value))
