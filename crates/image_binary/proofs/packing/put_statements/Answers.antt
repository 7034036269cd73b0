use Rattle.std.proofs.Common.{◌≤◌, length, refl, arith}
use Rattle.std.proofs.KnownBytes.{Appends-nil}
use Rattle.coy_io.proofs.Texts.{member_more, member_stops, members_done}
use Rattle.image_binary.specs.Statements.{statement_bytes}
use Rattle.image_binary.proofs.HasWords.{stated_has_word}
use Rattle.image_binary.proofs.packing.put_statements.Goals as goal

pub each-init : goal.each-init
each-init g c = record { bytes = Appends-nil _; quiet = refl }

pub put_statement-requires : goal.put_statement-requires
put_statement-requires g c =
    let told = c.statements-statement-items.ensures in
    stated_has_word _ _ _ _ _ told.value c.each-test.true c.statement-item.is told.range

pub each-preserved : goal.each-preserved
each-preserved g c =
    let told = c.statements-statement-items.ensures in
    let sizes = c.args.listing.now.sizes in
    member_more (statement_bytes sizes) _ _ _ _ told.value c.each-test.true c.statement-item.is _ _ _ _ _ _ c.each.invariant _ (c.in_ok-put_statement.ensures sizes)

pub returns-in_err-put_statement : goal.returns-in_err-put_statement
returns-in_err-put_statement g c =
    let told = c.statements-statement-items.ensures in
    let sizes = c.args.listing.now.sizes in
    member_stops (statement_bytes sizes) _ _ _ _ told.value c.each-test.true c.statement-item.is _ _ _ _ _ _ c.each.invariant _ _ c.from_residual.ensures.0 (c.in_err-put_statement.ensures sizes)

pub returns : goal.returns
returns g c =
    let told = c.statements-statement-items.ensures in
    let past : length c.statements-statement-items.result.now ≤ c.each.statement-index = omega arith in
    let within : c.each.statement-index ≤ length c.statements-statement-items.result.now = omega arith in
    members_done (statement_bytes c.args.listing.now.sizes) _ _ _ _ _ _ _ _ told.value past within c.each.invariant
