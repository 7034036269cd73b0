-- What a listing may say fits the fields of its image.
use Rattle.std.proofs.Common.{◌≡◌, ℕ, ◌+◌, ◌-◌, ◌%◌, ◌^◌, ◌<◌, ◌≤◌, min, Bool, true, false, length, refl, arith}
use Rattle.std.specs.Prelude.{nat_le, ◌==◌}
use Rattle.std.proofs.lemmas.Bool.{and_from, le-leb, lt-ltb, eq-eqb}
use Rattle.cap_format.specs.declared.kind.CapKind.{CapKind}
use Rattle.cap_format.specs.declared.kind.CapKind.TheVariants as kinds
use Rattle.cap_format.specs.Kind.{is_counted, object_kind}
use Rattle.cap_format.specs.Capability.{Capability, IsCapability}
use Rattle.object_store.specs.declared.sizes.Sizes.{Sizes}
use Rattle.object_store.specs.Ranges.{IsWithinLimits}
use Rattle.object_store.specs.Sizes.{size_in}
use Rattle.rv32_decode.proofs.RoundTrip.{reads_back}
use Rattle.listing_read.specs.CapWord.{IsStated}
use Rattle.listing_read.specs.Statement.{IsStatement, IsTyped}
use Rattle.listing_read.specs.declared.statement.Statement.{Statement}
use Rattle.listing_read.specs.declared.statement.Statement.TheVariants as says
use Rattle.image_binary.specs.Values.{is_there}
use Rattle.image_binary.proofs.ValueLaws.{IsUncounted}
use Rattle.image_binary.proofs.StatementLaws.{IsObject, IsBetween, IsWord, Fits}
use Rattle.image_binary.proofs.WordLaws.{word_small}

-- no size is over 4,096
size_small : (sizes : Sizes) → IsWithinLimits sizes → (kind : CapKind) → size_in sizes kind ≤ 4096
size_small sizes limits kinds.Page = limits.pages
size_small sizes limits kinds.CapPage = omega (arith, limits.cappages)
size_small sizes limits kinds.Gpt = omega (arith, limits.gpts)
size_small sizes limits kinds.Process = omega (arith, limits.processes)
size_small sizes limits kinds.Endpoint = omega (arith, limits.endpoints)
size_small sizes limits _ = omega arith

object_fits : (sizes : Sizes) (kind : CapKind) (n : ℕ) → IsWithinLimits sizes → n < size_in sizes kind → IsObject sizes kind n
object_fits sizes kind n limits below =
    let small = size_small sizes limits kind in
    record { small = omega arith; passes = lt-ltb n (size_in sizes kind) below }

between_fits : (least most n : ℕ) → least ≤ n → n ≤ most → n < 256 → IsBetween least most n
between_fits least most n low high small =
    record { small = omega arith; passes = and_from (nat_le least n) (nat_le n most) (le-leb least n low) (le-leb n most high) }

word_fits : (n : ℕ) → n < 2 ^ 32 → IsWord n
word_fits n small = record { small = omega arith; passes = refl }

cap_fits : (sizes : Sizes) (c : Capability) → IsCapability c → IsStated sizes c → IsUncounted sizes c
cap_fits sizes c is stated = record { is = is; none = stated.uncounted; there = on (is_counted c.kind) refl }
  where
    on : (b : Bool) → is_counted c.kind ≡ b → is_there sizes c ≡ true
    on true counted = rw (counted, lt-ltb c.object (size_in sizes (object_kind c.kind)) (stated.there counted)) refl
    on false other = rw other refl

pub fitting : (sizes : Sizes) → IsWithinLimits sizes → (s : Statement) → IsStatement sizes s → IsTyped s → Fits sizes s
fitting sizes limits (says.Page number at bytes) is typed = (
  object_fits sizes kinds.Page number limits is.0,
  (
    record { small = omega (arith, is.1, is.2); passes = le-leb at 4095 (omega (arith, is.1, is.2)) },
    (between_fits 1 (min 64 (4096 - at)) (length bytes) is.2 (omega (arith, is.1, typed.1)) (omega (arith, typed.1)), refl),
  ),
)
fitting sizes limits (says.Code number at insn) is typed = (
  object_fits sizes kinds.Page number limits is.0,
  (
    record {
      small = omega (arith, is.1);
      passes = and_from (nat_le at 4092) (at % 4 == 0) (le-leb at 4092 (omega (arith, is.1))) (eq-eqb (at % 4) 0 is.3);
    },
    record { small = word_small insn is.2; says = reads_back insn is.2 },
  ),
)
fitting sizes limits (says.CapSlot number slot cap) is typed =
    (object_fits sizes kinds.CapPage number limits is.0, (between_fits 0 255 slot (omega arith) (omega (arith, typed.1)) typed.1, cap_fits sizes cap typed.0 is.1))
fitting sizes limits (says.Gpt number header) is typed =
    (object_fits sizes kinds.Gpt number limits is, (between_fits 12 31 header.l2v typed.low typed.high (omega (arith, typed.high)), tt))
fitting sizes limits (says.GptSlot number slot cap) is typed =
    (object_fits sizes kinds.Gpt number limits is.0, (between_fits 0 15 slot (omega arith) (omega (arith, is.1)) (omega (arith, is.1)), cap_fits sizes cap typed is.2))
fitting sizes limits (says.Endpoint number recipient id payload matching) is typed = (
  object_fits sizes kinds.Endpoint number limits is.0,
  (
    record { cap = cap_fits sizes recipient typed.0 is.2; kind = is.1 },
    (word_fits id typed.1, (word_fits payload typed.2, tt)),
  ),
)
fitting sizes limits (says.Process number pc space schedule handler runs) is typed = (
  object_fits sizes kinds.Process number limits is.0,
  (
    record { small = omega (arith, typed.0); passes = eq-eqb (pc % 4) 0 is.1 },
    (cap_fits sizes space typed.1 is.2, (cap_fits sizes schedule typed.2 is.3, (cap_fits sizes handler typed.3 is.4, tt))),
  ),
)
fitting sizes limits (says.Reg number index value) is typed = (
  object_fits sizes kinds.Process number limits is.0,
  (between_fits 1 31 index is.2 (omega (arith, is.1)) (omega (arith, is.1)), word_fits value typed),
)
fitting sizes limits (says.CapReg number index cap) is typed = (
  object_fits sizes kinds.Process number limits is.0,
  (between_fits 1 31 index is.2 (omega (arith, is.1)) (omega (arith, is.1)), cap_fits sizes cap typed is.3),
)
fitting sizes limits (says.Count kind number count) is typed =
    (is.2, (object_fits sizes kind number limits is.0, record { small = omega (arith, is.1); passes = le-leb count 1048575 is.1 }))
fitting sizes limits (says.Region gpt slot count page restr) is typed = (
  object_fits sizes kinds.Gpt gpt limits is.0,
  (
    between_fits 0 15 slot (omega arith) (omega (arith, is.1, is.2)) (omega (arith, is.1)),
    (
      between_fits 1 (16 - slot) count is.2 (omega (arith, is.1)) (omega (arith, is.1)),
      (
        record { small = omega (arith, is.3, limits.pages); passes = le-leb (page + count) sizes.pages is.3 },
        between_fits 0 31 restr.0 (omega arith) (omega (arith, is.4)) (omega (arith, is.4)),
      ),
    ),
  ),
)
