use Rattle.std.proofs.Common.{◌≡◌, ◌<◌, ◌+◌, ◌*◌, ◌∙◌, sym, arith, [], ◌∷◌, ◌++◌, length, length-append}
use Rattle.listing_read.proofs.Pairs.{pairs_none, pairs_some, pairs_end}
use Rattle.listing_read.proofs.hex_bytes.pairs.Goals as goal

pub returns-in_err-byte-clause-value : goal.returns-in_err-byte-clause-value
returns-in_err-byte-clause-value c =
    c.from_residual.ensures
    ∙ sym (pairs_none c.args.digits.now c.pairs.bytes c.pairs.i (omega (arith, c.requires.even, c.pairs-test.true)) c.pairs.invariant.rest (sym c.in_err-byte.ensures))

pub pairs-preserved : goal.pairs-preserved
pairs-preserved c =
    let within : 2 * c.pairs.i + 1 < length c.args.digits.now = omega (arith, c.requires.even, c.pairs-test.true) in
    let rest = pairs_some c.args.digits.now c.pairs.bytes c.pairs.i c.in_ok-byte.field-0 within c.pairs.invariant.rest (sym c.in_ok-byte.ensures) in
    let count : length (c.pairs.bytes ++ c.in_ok-byte.field-0 ∷ []) ≡ c.pairs.i + 1 = omega (arith, length-append c.pairs.bytes (c.in_ok-byte.field-0 ∷ []), c.pairs.invariant.count) in
    rw c.push.ensures (record { count = count; rest = rest })

pub returns-clause-value : goal.returns-clause-value
returns-clause-value c = sym (pairs_end c.args.digits.now c.pairs.bytes c.pairs.i (omega (arith, c.requires.even, c.pairs-test.false)) c.pairs.invariant.rest)
