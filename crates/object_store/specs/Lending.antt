-- What is lent: the store ends with the object that the borrower leaves.
use Rattle.std.specs.Prelude.{ℕ, List}
use Rattle.std.specs.Borrow.{Lends, MutBor, Fml}
use Rattle.cap_format.specs.Capability.{Capability}
use Rattle.process_objects.specs.Process.{ProcessValue}
use Rattle.endpoint_objects.specs.declared.endpoint.Endpoint.{Endpoint as EndpointValue}
use Rattle.page_store.specs.contracts.page.Page.{the_row as page_row}
use Rattle.page_store.specs.contracts.cap_page.CapPage.{the_row as cappage_row}
use Rattle.process_objects.specs.contracts.process.Process.{the_row as process_row}
use Rattle.endpoint_objects.specs.contracts.endpoint.Endpoint.{the_row as endpoint_row}
use Rattle.object_store.specs.contracts.objects.Objects.{the_row}
use Rattle.object_store.specs.Store.{Store, with_page, with_cappage, with_process, with_endpoint}

-- page `n` of the store afterwards is what the borrower of `r` leaves, and all else is as before
abbrev pub LendsPage : MutBor Store → ℕ → MutBor (List ℕ) → Fml
LendsPage s n r = Lends the_row page_row s r (with_page s.now n)

-- capability page `n` of the store afterwards is what the borrower of `r` leaves, and all else is as before
abbrev pub LendsCapPage : MutBor Store → ℕ → MutBor (List Capability) → Fml
LendsCapPage s n r = Lends the_row cappage_row s r (with_cappage s.now n)

-- process `n` of the store afterwards is what the borrower of `r` leaves, and all else is as before
abbrev pub LendsProcess : MutBor Store → ℕ → MutBor ProcessValue → Fml
LendsProcess s n r = Lends the_row process_row s r (with_process s.now n)

-- endpoint `n` of the store afterwards is what the borrower of `r` leaves, and all else is as before
abbrev pub LendsEndpoint : MutBor Store → ℕ → MutBor EndpointValue → Fml
LendsEndpoint s n r = Lends the_row endpoint_row s r (with_endpoint s.now n)
