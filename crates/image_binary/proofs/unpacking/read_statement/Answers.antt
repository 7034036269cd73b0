use Rattle.std.proofs.Common.{◌++◌, [], refl, sym, ap, subst, ◌∙◌, arith, Err}
use Rattle.std.proofs.lemmas.Result.{err_from_is_err_and}
use Rattle.image_binary.specs.Fields.{counted}
use Rattle.image_binary.specs.Laws.{AreBytes}
use Rattle.image_binary.specs.Reader.{offset_of}
use Rattle.image_binary.proofs.Reading.{fills_none, fills_more, fills_longer, left_within, steps_to, wrong_within, stops_wrong, short_within, short_few, stops_short}
use Rattle.image_binary.specs.Statements.{statement_of}
use Rattle.image_binary.proofs.StatementLaws.{Fits, statement, statement_is}
use Rattle.image_binary.proofs.unpacking.read_statement.Goals as goal

pub reading-init : goal.reading-init
reading-init g c = record { fills = ([], fills_none c.args.reader.now (g.S.Source.held c.args.input.now)); quiet = refl }

pub keep-requires : goal.keep-requires
keep-requires g c =
    let sizes = c.args.sizes in
    let f = c.reading.invariant.fills in
    let is = c.held-held.ensures in
    let are = subst AreBytes is.value is.bytes in
    left_within (statement sizes) (Fits sizes) 70 (statement_is sizes) c.args.reader.now c.reading.reader (g.S.Source.held c.args.input.now) (g.S.Source.held c.reading.input) f.0 f.1 are c.in-Ok.statement c.in-Ok.left (c.in-Ok.ensures.value ∙ ap (λ l. counted (statement_of sizes l)) is.value)

pub returns-in-Ok-clause-steps : goal.returns-in-Ok-clause-steps
returns-in-Ok-clause-steps g c =
    let sizes = c.args.sizes in
    let f = c.reading.invariant.fills in
    let is = c.held-held.ensures in
    let are = subst AreBytes is.value is.bytes in
    steps_to (statement sizes) (Fits sizes) 70 (statement_is sizes) c.args.reader.now c.reading.reader (g.S.Source.held c.args.input.now) (g.S.Source.held c.reading.input) f.0 f.1 are c.keep.new.self c.in-Ok.statement c.in-Ok.left (c.in-Ok.ensures.value ∙ ap (λ l. counted (statement_of sizes l)) is.value) is.limit c.keep.ensures.at c.keep.ensures.held

pub refused-requires : goal.refused-requires
refused-requires g c =
    let sizes = c.args.sizes in
    let f = c.reading.invariant.fills in
    let is = c.held-held.ensures in
    let are = subst AreBytes is.value is.bytes in
    wrong_within (statement sizes) (Fits sizes) 70 (statement_is sizes) c.args.reader.now c.reading.reader (g.S.Source.held c.args.input.now) (g.S.Source.held c.reading.input) f.0 f.1 are c.in-Err-Wrong.left c.in-Err-Wrong.fault (ap (λ s. Err s) (sym c.in-Err-Wrong.field-0-is) ∙ c.in-Err-Wrong.ensures.value ∙ ap (λ l. counted (statement_of sizes l)) is.value)

pub returns-in-Err-Wrong-clause-steps : goal.returns-in-Err-Wrong-clause-steps
returns-in-Err-Wrong-clause-steps g c =
    let sizes = c.args.sizes in
    let f = c.reading.invariant.fills in
    let is = c.held-held.ensures in
    let are = subst AreBytes is.value is.bytes in
    rw c.refused.ensures (stops_wrong (statement sizes) (Fits sizes) 70 (statement_is sizes) c.args.reader.now c.reading.reader (g.S.Source.held c.args.input.now) (g.S.Source.held c.reading.input) f.0 f.1 are c.in-Err-Wrong.left (offset_of c.reading.reader c.in-Err-Wrong.left) c.in-Err-Wrong.fault (ap (λ s. Err s) (sym c.in-Err-Wrong.field-0-is) ∙ c.in-Err-Wrong.ensures.value ∙ ap (λ l. counted (statement_of sizes l)) is.value) is.limit refl)

pub supply-requires : goal.supply-requires
supply-requires g c =
    let sizes = c.args.sizes in
    let f = c.reading.invariant.fills in
    let is = c.held-held.ensures in
    let are = subst AreBytes is.value is.bytes in
    let e = (ap (λ s. Err s) (sym c.in-Err-Short.field-0-is) ∙ c.in-Err-Short.ensures.value ∙ ap (λ l. counted (statement_of sizes l)) is.value) in
    let few = short_few (statement sizes) (Fits sizes) 70 (statement_is sizes) c.args.reader.now c.reading.reader (g.S.Source.held c.args.input.now) (g.S.Source.held c.reading.input) f.0 f.1 are c.in-Err-Short.left e in
    record { room = omega (arith, few); field = short_within (statement sizes) (Fits sizes) 70 (statement_is sizes) c.args.reader.now c.reading.reader (g.S.Source.held c.args.input.now) (g.S.Source.held c.reading.input) f.0 f.1 are c.in-Err-Short.left e }

pub reading-smaller : goal.reading-smaller
reading-smaller g c =
    let s = c.in_ok-supply-in-Err-Short.ensures.supplies in
    let longer = fills_longer c.reading.reader c.supply.new.reader (g.S.Source.held c.reading.input) (g.S.Source.held c.supply.new.input) s.0 s.1 s.2 in
    let sizes = c.args.sizes in
    let f = c.reading.invariant.fills in
    let is = c.held-held.ensures in
    let are = subst AreBytes is.value is.bytes in
    let few = short_few (statement sizes) (Fits sizes) 70 (statement_is sizes) c.args.reader.now c.reading.reader (g.S.Source.held c.args.input.now) (g.S.Source.held c.reading.input) f.0 f.1 are c.in-Err-Short.left (ap (λ s. Err s) (sym c.in-Err-Short.field-0-is) ∙ c.in-Err-Short.ensures.value ∙ ap (λ l. counted (statement_of sizes l)) is.value) in
    omega (arith, longer, few)

pub reading-preserved : goal.reading-preserved
reading-preserved g c =
    let f = c.reading.invariant.fills in
    let s = c.in_ok-supply-in-Err-Short.ensures.supplies in
    record {
      fills = (
        f.0 ++ s.0,
        fills_more c.args.reader.now c.reading.reader c.supply.new.reader (g.S.Source.held c.args.input.now) (g.S.Source.held c.reading.input) (g.S.Source.held c.supply.new.input) f.0 s.0 f.1 s.2,
      );
      quiet = c.in_ok-supply-in-Err-Short.ensures.quiet (λ same. cc) ∙ c.reading.invariant.quiet;
    }

pub returns-in_err-supply-in-Err-Short-clause-steps : goal.returns-in_err-supply-in-Err-Short-clause-steps
returns-in_err-supply-in-Err-Short-clause-steps g c =
    let sizes = c.args.sizes in
    let f = c.reading.invariant.fills in
    let is = c.held-held.ensures in
    let are = subst AreBytes is.value is.bytes in
    let p = err_from_is_err_and c.from_residual.result c.from_residual.ensures.1 in
    rw (p.1, p.2)
    (stops_short (statement sizes) (Fits sizes) 70 (statement_is sizes) c.args.reader.now c.reading.reader (g.S.Source.held c.args.input.now) (g.S.Source.held c.reading.input) f.0 f.1 are c.in-Err-Short.left c.supply.new.reader (g.S.Source.held c.supply.new.input) c.in_err-supply-in-Err-Short.field-0.0 (ap (λ s. Err s) (sym c.in-Err-Short.field-0-is) ∙ c.in-Err-Short.ensures.value ∙ ap (λ l. counted (statement_of sizes l)) is.value) is.limit c.in_err-supply-in-Err-Short.ensures.supplies)
