-- The objects that a listing can say: all that stands in them is in its range, and no process waits or is at a fault.
use Rattle.std.specs.Prelude.{◌≡◌, ◌<◌, ◌^◌, true}
use Rattle.std.specs.List.{All}
use Rattle.std.specs.Option.{is_some}
use Rattle.cap_format.specs.Capability.{IsCapability}
use Rattle.page_store.specs.Page.{IsPage}
use Rattle.page_store.specs.CapPage.{IsCapPage}
use Rattle.process_objects.specs.Process.{IsProcess}
use Rattle.object_store.specs.Store.{Store, sizes_of}
use Rattle.object_store.specs.Ranges.{IsStore}
use Rattle.object_store.specs.Ahead.{EachCapability}
use Rattle.listing_read.specs.CapWord.{IsStated}
use Rattle.listing_read.specs.Statement.{is_recipient}
use Rattle.read_back.specs.Laws.{runs_of}

-- objects of which each printed line is a statement of a machine of their sizes
pub record IsListable (s : Store) : Type 0 where
  -- sizes, counts and GPTs are in their ranges
  pub store : IsStore s
  -- so are pages, capability pages and processes
  pub pages : All IsPage s.contents.pages
  pub cappages : All IsCapPage s.contents.cappages
  pub processes : All IsProcess s.contents.processes
  -- bytes have 8 bits
  pub bytes : All (All (λ byte. byte < 256)) s.contents.pages
  -- the pc and the registers of a process have 32 bits
  pub pcs : All (λ process. process.pc < 2 ^ 32) s.contents.processes
  pub registers : All (λ process. All (λ value. value < 2 ^ 32) process.regs) s.contents.processes
  -- so have the id and the payload of an endpoint
  pub ids : All (λ endpoint. endpoint.id < 2 ^ 32) s.contents.endpoints
  pub payloads : All (λ endpoint. endpoint.payload < 2 ^ 32) s.contents.endpoints
  -- an endpoint's recipient is a process or Null
  pub recipients : All (λ endpoint. IsCapability endpoint.recipient) s.contents.endpoints
  pub receive : All (λ endpoint. is_recipient endpoint.recipient.kind ≡ true) s.contents.endpoints
  -- each capability is without a count, and names an object that is there if it is to one
  pub stated : EachCapability (IsStated (sizes_of s)) s
  -- each process runs or was stopped
  pub running : All (λ process. is_some (runs_of process.state) ≡ true) s.contents.processes
