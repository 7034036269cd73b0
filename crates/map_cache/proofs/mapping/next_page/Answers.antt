use Rattle.std.proofs.Common.{◌≡◌, ◌*◌, ◌/◌, None, sym, ap, ◌∙◌, arith}
use Rattle.std.specs.Result.{result_ok}
use Rattle.sv32_tables.specs.Pool.{leaf_at}
use Rattle.map_cache.proofs.Listed.{one-none}
use Rattle.map_cache.proofs.mapping.next_page.Goals as goal

pub pages-preserved : goal.pages-preserved
pages-preserved c =
    let page : c.pages.page * 4096 / 4096 ≡ c.pages.page = omega arith in
    let here : leaf_at c.args.tables.now c.args.root c.pages.page ≡ None = ap (leaf_at c.args.tables.now c.args.root) (sym page) ∙ sym c.hw_walk.ensures.leaf ∙ ap result_ok c.in_default.is in
    one-none c.args.tables.now c.args.root c.args.first c.pages.page c.pages.invariant here
