use Rattle.std.proofs.Common.{◌-◌, arith, sym, ap, ◌∙◌, subst, None, length, length-drop, drop, take_all}
use Rattle.listing_read.specs.Names.{number_called}
use Rattle.listing_read.specs.NameIndex.{IsFound, IsFirst}
use Rattle.listing_read.proofs.NameIndex.{number_called-unfound, number_called-drop}
use Rattle.listing_read.proofs.names.Names.number_called.Goals as goal

pub returns-in_err-place : goal.returns-in_err-place
returns-in_err-place c =
    let names = c.self.inside.all.items in
    let found : IsFound c.args.name.now names None = subst (IsFound c.args.name.now names) (sym c.in_err-place.ensures) (c.self.invariant c.args.name.now) in
    c.from_residual.ensures ∙ sym (number_called-unfound c.args.kind c.args.name.now names found) ∙ ap (number_called c.args.kind c.args.name.now) c.self.view_is

pub returns : goal.returns
returns c =
    let names = c.self.inside.all.items in
    let first : IsFirst c.args.name.now names c.in_ok-place.place = subst (IsFound c.args.name.now names) (sym c.in_ok-place.ensures) (c.self.invariant c.args.name.now) in
    let slice = c.as_slice.result.now in
    let place = c.in_ok-place.place in
    let rest = take_all (length slice - place) (drop place slice) (omega (arith, length-drop place slice)) ∙ ap (drop place) c.as_slice.ensures.value in
    c.number_among.ensures
    ∙ ap (number_called c.args.kind c.args.name.now) rest
    ∙ number_called-drop c.args.kind c.args.name.now names place first
    ∙ ap (number_called c.args.kind c.args.name.now) c.self.view_is
