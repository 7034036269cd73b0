use Rattle.boot_again.proofs.listing_boots_in_ranges.Goals as goal

pub returns : goal.returns
returns c = c.booted_is_in_ranges.ensures c.args.listing.now c.tell_listing.ensures.kept c.tell_listing.ensures.typed
