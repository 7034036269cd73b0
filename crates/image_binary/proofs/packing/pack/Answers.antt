use Rattle.std.proofs.Common.{length, flat_map}
use Rattle.coy_io.proofs.Texts.{go_on, stop}
use Rattle.image_binary.specs.Statements.{statement_bytes}
use Rattle.image_binary.specs.Image.{head_bytes}
use Rattle.image_binary.proofs.packing.pack.Goals as goal

pub returns-in_err-put_head : goal.returns-in_err-put_head
returns-in_err-put_head g c =
    let l = c.args.listing.now in
    stop _ _ _ _ _ _ (head_bytes l.sizes (length l.statements)) (flat_map (statement_bytes l.sizes) l.statements) c.from_residual.ensures.0 c.in_err-put_head.ensures

pub returns : goal.returns
returns g c =
    let l = c.args.listing.now in
    go_on _ _ _ _ _ _ _ _ (head_bytes l.sizes (length l.statements)) (flat_map (statement_bytes l.sizes) l.statements) c.in_ok-put_head.ensures c.put_statements.ensures
