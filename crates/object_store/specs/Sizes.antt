-- How many objects there are that a number may name.
use Rattle.std.specs.Prelude.{ℕ}
use Rattle.cap_format.specs.declared.kind.CapKind.{CapKind}
use Rattle.cap_format.specs.declared.kind.CapKind.TheVariants.{Page, CapPage, Gpt, Endpoint, Process}
use Rattle.object_store.specs.declared.sizes.Sizes.{Sizes}

-- how many objects of a kind a machine of these sizes has
abbrev pub size_in : Sizes → CapKind → ℕ
size_in sizes Page = sizes.pages
size_in sizes CapPage = sizes.cappages
size_in sizes Gpt = sizes.gpts
size_in sizes Process = sizes.processes
size_in sizes Endpoint = sizes.endpoints
size_in sizes _ = 0
