-- Producers: the last GPT of a walk up to which only sizes of a region of 2^22 bytes or more were passed. From there on all
-- walks with one key go alike, whatever their spaces (this project's own).
use Rattle.std.specs.Prelude.{ℕ, zero, suc, ◌+◌, ◌*◌, ◌/◌, ◌%◌, ◌^◌, min, nat_le, Bool, true, false, ◌&&◌, if◌then◌else◌, Option, Some, None, List, [], ◌∷◌, ◌++◌, length, map, Result, Ok, Err}
use Rattle.std.specs.Option.{option_or}
use Rattle.cap_format.specs.Capability.{Capability, to_object}
use Rattle.cap_format.specs.declared.kind.CapKind.{CapKind}
use Rattle.cap_format.specs.declared.kind.CapKind.TheVariants.{Gpt}
use Rattle.cap_format.specs.declared.item.Item.TheVariants.{Slot}
use Rattle.guard_math.specs.Block.{BlockValue, around}
use Rattle.guard_math.specs.Pass.{passes}
use Rattle.object_store.specs.Store.{Items, count_of, slot_at}
use Rattle.walk_meaning.specs.declared.at.At.{At}
use Rattle.walk_meaning.specs.declared.kind.Kind.{Kind}
use Rattle.walk_meaning.specs.declared.noted.Noted.{Noted}
use Rattle.walk_meaning.specs.declared.place.Place.{Place}
use Rattle.walk_meaning.specs.declared.place.WalkFault.{WalkFault}
use Rattle.walk_meaning.specs.declared.step.Step.TheVariants.{Reach, Fault, Go}
use Rattle.walk_meaning.specs.Walk.{past, start_at, step, walk}
use Rattle.walk_meaning.specs.Trail.{header_noted, noted, noted_in, trail_from}
use Rattle.producers.specs.declared.producer.Background.{Background}
use Rattle.producers.specs.declared.producer.Produced.{Produced}
use Rattle.producers.specs.declared.producer.Producer.{Producer}
use Rattle.producers.specs.declared.walking.Walked.{Walked}

-- ---- the producer of a walk

-- whether a kind is that of GPTs
abbrev pub is_gpt : CapKind → Bool
is_gpt Gpt = true
is_gpt _ = false

-- whether a walk that meets a capability may join others there: it names a GPT, the address passes its guard, and no size
-- below that of a region was passed up to and with that
abbrev pub joins : Capability → At → Bool
joins c w = is_gpt c.kind && (passes c.guard w.address && nat_le 22 (past c w).l2)

-- a background GPT with its age
abbrev pub aged : Items → Option ℕ → Option Background
aged o None = None
aged o (Some g) = Some (record { gpt = g; age = count_of o Gpt g })

-- the key of a GPT that a walk meets, where n capabilities may be met behind it
abbrev pub producer_at : Items → ℕ → Capability → At → Producer
producer_at o n c w = record {
  gpt = c.object;
  age = count_of o Gpt c.object;
  top = (past c w).address / 2 ^ 22;
  restr = (past c w).restr;
  background = aged o w.background;
  left = n;
}

-- a point of a walk: a capability that is met, where it stands before it, how many may be met behind it, and what was read
-- before its header
pub record Point : Type 0 where
  pub left : ℕ
  pub cap : Capability
  pub at : At
  pub before : List Noted

-- a point by its parts
abbrev pub point : ℕ → Capability → At → List Noted → Point
point left cap at before = record { left = left; cap = cap; at = at; before = before }

-- the point here, if walks join here
abbrev pub here : ℕ → Capability → At → List Noted → Option Point
here n c w reads = if joins c w then Some (point n c w reads) else None

-- the last point from here on at which the walk passes a GPT and joins others, where n capabilities may be met and these
-- reads were made
unfoldable pub last_join : Items → Kind → ℕ → ℕ → Capability → At → List Noted → Option Point
last_join o kind address zero c w reads = None
last_join o kind address (suc n) c w reads = elim (step o kind c w) [
  | Reach place ↦ None
  | Fault code handler ↦ None
  | Go next g i ↦
      option_or (last_join o kind address n (slot_at o g i) next ((reads ++ header_noted c address w.l2) ++ noted (Slot g i) address next.l2 ∷ []))
      (here n c w reads)
]

-- the point of an access at its producer; it counts where the access reaches
abbrev pub join_of : Items → Capability → ℕ → Kind → Option Point
join_of o space address kind = last_join o kind address 32 space (start_at address) []

-- the key of a point
abbrev pub key_of : Items → Point → Producer
key_of o p = producer_at o p.left p.cap p.at

-- the producer of a point, and how many reads lie before it
abbrev pub produced_by : Items → Option Point → Option Produced
produced_by o None = None
produced_by o (Some p) = Some (record { producer = key_of o p; before = length p.before })

-- where a walk ended, or its fault
abbrev pub place_of : Result Walked WalkFault → Result Place WalkFault
place_of (Ok walked) = Ok walked.place
place_of (Err fault) = Err fault

-- ---- what walks with one key have in common

-- a block cut to its region, with addresses counted from the region's first one
abbrev pub cut_block : BlockValue → BlockValue
cut_block block = around (block.base % 2 ^ 22) (min block.l2 22)

-- a read cut to its region
abbrev pub cut : Noted → Noted
cut n = noted_in n.item (cut_block n.block)

-- the number of a background GPT
abbrev pub background_number : Option Background → Option ℕ
background_number None = None
background_number (Some b) = Some b.gpt

-- where a walk with this key, and these bits of the address in the region, stands before its producer
abbrev pub at_join : Producer → ℕ → At
at_join k low = record {
  holding = None;
  background = background_number k.background;
  handler = None;
  restr = k.restr;
  address = k.top * 2 ^ 22 + low;
  l2 = 22;
}

-- a capability to a GPT with no restriction, and a guard that every address passes
abbrev pub gpt_cap : ℕ → Capability
gpt_cap g = to_object Gpt g 0

-- what a walk with this key comes to from its producer on
abbrev pub joined_walk : Items → Producer → ℕ → Kind → Result Place WalkFault
joined_walk o k low kind = walk o kind (suc k.left) (gpt_cap k.gpt) (at_join k low)

-- what it reads from its producer's header on, cut to the region
abbrev pub joined_trail : Items → Producer → ℕ → Kind → List Noted
joined_trail o k low kind = map cut (trail_from o kind low (suc k.left) (gpt_cap k.gpt) (at_join k low))
