use Rattle.std.proofs.Common.{rules, ◌≡◌, sym, subst, false, None, is_some}
use Rattle.listing_read.specs.NameIndex.{place_in, Notes}
use Rattle.listing_read.proofs.NameIndex.{none_from_not_some, notes_inserted}
use Rattle.listing_read.proofs.names.note.Goals as goal

pub returns-clause-ok : goal.returns-clause-ok
returns-clause-ok c =
    let old = c.args.places.now in
    let items = c.in_ok-from_slice.ensures.items in
    let unplaced : is_some (place_in old c.args.name.now) ≡ false = search rules in
    let absent = subst (λ name. place_in old name ≡ None) (sym items) (none_from_not_some (place_in old c.args.name.now) unplaced) in
    subst (λ name. Notes old c.insert.new.self name c.args.place) items
    (notes_inserted old c.insert.new.self c.in_ok-from_slice.field-0 c.args.place c.in_ok-insert.ensures.updates absent)
