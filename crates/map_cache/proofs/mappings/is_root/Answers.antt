use Rattle.std.proofs.Common.{List, Some, length, sym, ap, ◌∙◌}
use Rattle.std.specs.Prelude.{slice_get}
use Rattle.std.proofs.lemmas.Option.{slice_get_read}
use Rattle.map_cache.specs.declared.key.Key.{Key}
use Rattle.map_cache.specs.Key.{root_key}
use Rattle.map_cache.proofs.mappings.is_root.Goals as goal
use Rattle.depend_table.proofs.Coded.{key_tells}
use Rattle.map_cache.proofs.Codes.{key_coding}

pub returns : goal.returns
returns c = λ is.
    let keys = c.deref.result.now in
    let same = c.deref.ensures.0 in
    let long = c.len.ensures.value ∙ ap (λ (ks : List Key). length ks) (sym same) in
    let at = slice_get_read keys c.len.result c.args.frame c.index-deref-frame.result long c.if-frame-len.false c.index-deref-frame.is in
    ap (λ (ks : List Key). slice_get ks c.args.frame) (sym same) ∙ at ∙ ap (λ (k : Key). Some k) (sym (key_tells key_coding (root_key c.args.space) c.index-deref-frame.result (sym c.is_root_of.ensures ∙ is)))
