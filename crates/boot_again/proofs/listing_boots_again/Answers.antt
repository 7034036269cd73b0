use Rattle.boot_again.specs.Again.{AllAccepted, IsAccepted}
use Rattle.boot_again.proofs.listing_boots_again.Goals as goal

pub returns : goal.returns
returns c =
    let taken : AllAccepted c.args.listing.now → IsAccepted c.args.listing.now = λ accepted. record {
      listing_is = c.tell_listing.ensures.kept;
      typed = c.tell_listing.ensures.typed;
      accepted = accepted;
    } in
    record {
      listable = λ accepted. c.booted_is_listable.ensures c.args.listing.now (taken accepted);
      again = λ accepted. c.booted_again.ensures c.args.listing.now (taken accepted);
    }
