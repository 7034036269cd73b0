-- What a listing may say of a machine of some sizes.
use Rattle.std.specs.Prelude.{◌≡◌, ◌+◌, ◌%◌, ◌^◌, ◌<◌, ◌≤◌, Bool, true, false, List, [], ◌∷◌, ◌++◌, length, ⊤}
use Rattle.std.specs.List.{All}
use Rattle.cap_format.specs.Capability.{IsCapability}
use Rattle.cap_format.specs.Kind.{is_object}
use Rattle.cap_format.specs.declared.kind.CapKind.{CapKind}
use Rattle.cap_format.specs.declared.kind.CapKind.TheVariants as kinds
use Rattle.gpt_objects.specs.Header.{IsHeader}
use Rattle.object_store.specs.Ranges.{IsWithinLimits}
use Rattle.object_store.specs.declared.sizes.Sizes.{Sizes}
use Rattle.rv32_decode.specs.InRange.{InRange}
use Rattle.object_store.specs.Sizes.{size_in}
use Rattle.listing_read.specs.CapWord.{IsStated}
use Rattle.listing_read.specs.declared.statement.Statement.{Statement}
use Rattle.listing_read.specs.declared.statement.Statement.TheVariants.{Page, Code, CapSlot, Gpt, GptSlot, Endpoint, Process, Reg, CapReg, Count, Region}

-- the kinds that may receive for an endpoint
abbrev pub is_recipient : CapKind → Bool
is_recipient kinds.Process = true
is_recipient kinds.Null = true
is_recipient _ = false

-- the statement names what a machine of these sizes has, and its values are in their ranges; those that its type does
-- not keep
abbrev pub IsStatement : Sizes → Statement → Type 0
IsStatement sizes (Page number at bytes) = (number < sizes.pages) × (at + length bytes ≤ 4096) × (1 ≤ length bytes)
IsStatement sizes (Code number at insn) = (number < sizes.pages) × (at + 4 ≤ 4096) × InRange insn × (at % 4 ≡ 0)
IsStatement sizes (CapSlot number slot cap) = (number < sizes.cappages) × IsStated sizes cap
IsStatement sizes (Gpt number header) = number < sizes.gpts
IsStatement sizes (GptSlot number slot cap) = (number < sizes.gpts) × (slot < 16) × IsStated sizes cap
IsStatement sizes (Endpoint number recipient id payload matching) =
    (number < sizes.endpoints) × (is_recipient recipient.kind ≡ true) × IsStated sizes recipient
IsStatement sizes (Process number pc space schedule handler runs) =
    (number < sizes.processes) × (pc % 4 ≡ 0) × IsStated sizes space × IsStated sizes schedule × IsStated sizes handler
IsStatement sizes (Reg number index value) = (number < sizes.processes) × (index < 32) × (1 ≤ index)
IsStatement sizes (CapReg number index cap) = (number < sizes.processes) × (index < 32) × (1 ≤ index) × IsStated sizes cap
IsStatement sizes (Count kind number count) = (number < size_in sizes kind) × (count ≤ 1048575) × (is_object kind ≡ true)
IsStatement sizes (Region gpt slot count page restr) =
    (gpt < sizes.gpts) × (slot + count ≤ 16) × (1 ≤ count) × (page + count ≤ sizes.pages) × (restr.0 < 32)

-- the values of a statement are in the ranges that their types keep: there are at most 64 bytes at once, which have 8
-- bits, as has the slot of a capability page; a pc, an id, a payload and the value of a register have 32; and
-- capabilities and headers are what they are everywhere
abbrev pub IsTyped : Statement → Type 0
IsTyped (Page number at bytes) = All (λ byte. byte < 256) bytes × (length bytes ≤ 64)
IsTyped (Code number at insn) = ⊤
IsTyped (CapSlot number slot cap) = IsCapability cap × (slot < 256)
IsTyped (Gpt number header) = IsHeader header
IsTyped (GptSlot number slot cap) = IsCapability cap
IsTyped (Endpoint number recipient id payload matching) = IsCapability recipient × (id < 2 ^ 32) × (payload < 2 ^ 32)
IsTyped (Process number pc space schedule handler runs) =
    (pc < 2 ^ 32) × IsCapability space × IsCapability schedule × IsCapability handler
IsTyped (Reg number index value) = value < 2 ^ 32
IsTyped (CapReg number index cap) = IsCapability cap
IsTyped (Count kind number count) = ⊤
IsTyped (Region gpt slot count page restr) = ⊤

-- a listing: the sizes of its machine and its statements
pub record ListingValue : Type 0 where
  pub sizes : Sizes
  pub statements : List Statement

-- a listing that says nothing
abbrev pub silent : Sizes → ListingValue
silent sizes = record { sizes = sizes; statements = [] }

-- a listing with one statement more behind the others
abbrev pub saying : ListingValue → Statement → ListingValue
saying listing statement = record listing { statements = listing.statements ++ statement ∷ [] }

-- what every listing keeps
pub record IsListing (listing : ListingValue) : Type 0 where
  pub limits : IsWithinLimits listing.sizes
  pub statements : All (IsStatement listing.sizes) listing.statements
  pub typed : All IsTyped listing.statements
  pub few : length listing.statements < 2 ^ 32
