use Rattle.std.proofs.Common.{List, ap, ◌∙◌}
use Rattle.tlb_model.specs.declared.entry.Entry.{Entry}
use Rattle.map_cache.specs.Cache.{tlb_at}
use Rattle.shared_leaves.specs.Cache.{cache_of}
use Rattle.shared_leaves.proofs.Blank.{cache-blank, kept-blank, tlb_at-replicate}
use Rattle.shared_leaves.proofs.leaves.LeafTables.new.Goals as goal

pub returns-clause-kept : goal.returns-clause-kept
returns-clause-kept c =
    cache-blank c.in_ok-new.field-0 c.new-2.result.items c.in_ok-empty_tlbs.field-0.items c.in_ok-new-2.field-0 c.in_ok-new.ensures.unused c.new-2.ensures
    (λ k. ap (λ (ts : List (List Entry)). tlb_at ts k) c.in_ok-empty_tlbs.ensures ∙ tlb_at-replicate c.args.harts k) c.in_ok-new-2.ensures

pub returns-clause-nothing : goal.returns-clause-nothing
returns-clause-nothing c = kept-blank (cache_of c.in_ok-new.field-0 c.new-2.result.items c.in_ok-empty_tlbs.field-0.items c.in_ok-new-2.field-0) (record {
  tables = c.in_ok-new.ensures.unused;
  keys = c.new-2.ensures;
  tlbs = λ k. ap (λ (ts : List (List Entry)). tlb_at ts k) c.in_ok-empty_tlbs.ensures ∙ tlb_at-replicate c.args.harts k;
  records = c.in_ok-new-2.ensures;
})
