-- What the statements of a listing give is in its range, and so is what stands in the end.
use Rattle.std.proofs.Common.{ℕ, ◌≡◌, ◌+◌, ◌-◌, ◌%◌, ◌^◌, ◌<◌, ◌≤◌, ◌==◌, ◌&&◌, Bool, true, false, if◌then◌else◌, List, [], ◌∷◌, Option, Some, None, length, refl, subst, sym, inl, inr, arith, nat_le}
use Rattle.std.specs.Prelude.{slice_get, zero, suc, nat_lt}
use Rattle.std.specs.List.{All, filter_map, cons_option, last_or}
use Rattle.std.specs.Option.{IfSome, unwrap_or}
use Rattle.std.proofs.lemmas.Bool.{cases_lt, ne_eqb, and_parts, leb-true, ltb-true}
use Rattle.std.proofs.lemmas.List.Elements.{All-tail}
use Rattle.std.proofs.lemmas.Option.{slice_get-get_or, slice_get_past}
use Rattle.cap_format.specs.declared.kind.CapKind.{CapKind}
use Rattle.cap_format.specs.Kind.{number_of}
use Rattle.cap_format.specs.Capability.{Capability, IsCapability, null}
use Rattle.cap_format.proofs.Ranges.{IsCapability-null}
use Rattle.gpt_objects.specs.Header.{IsHeader}
use Rattle.endpoint_objects.specs.declared.endpoint.Endpoint.{Endpoint}
use Rattle.cap_format.specs.declared.restr.Restr.{Restr}
use Rattle.object_store.specs.declared.sizes.Sizes.{Sizes}
use Rattle.object_store.specs.Ranges.{IsWithinLimits}
use Rattle.listing_read.specs.CapWord.{IsStated}
use Rattle.listing_read.specs.Statement.{IsStatement, IsTyped, is_recipient}
use Rattle.listing_read.specs.declared.statement.Statement.{Statement}
use Rattle.listing_read.specs.declared.statement.Statement.TheVariants as says
use Rattle.image_builder.specs.Given.{last_given, instruction_bytes, byte_in, count_given, byte_given, cap_given, header_given, region_cap, is_among, slot_given, endpoint_given, pc_given, slot_among, place_given, reg_given, capreg_given}

-- ---- what stands in the end

-- a fact of what each statement gives, if it gives anything, is one of what the last gives
module _ {A : Type 0} (P : A → Type 0) (holds : Statement → Type 0) (given : Statement → Option A) (gives : (x : Statement) → holds x → IfSome (given x) P) where
  last_or_kept : (found : Option A) (empty : A) (xs : List Statement) → P (unwrap_or found empty) → All holds xs → P (unwrap_or (last_or found (filter_map given xs)) empty)
  last_or_kept found empty [] is all = is
  last_or_kept found empty (x ∷ xs) is all =
      on (given x) (gives x (all 0 x (omega arith)))
      (last_or_kept found empty xs is (All-tail holds x xs all))
      (λ y some. last_or_kept (Some y) empty xs some (All-tail holds x xs all))
    where
      on : (o : Option A) → IfSome o P → P (unwrap_or (last_or found (filter_map given xs)) empty) → ((y : A) → P y → P (unwrap_or (last_or (Some y) (filter_map given xs)) empty)) → P (unwrap_or (last_or found (cons_option o (filter_map given xs))) empty)
      on None none before behind = before
      on (Some y) some before behind = behind y some

  pub last_kept : (empty : A) (xs : List Statement) → P empty → All holds xs → P (last_given given empty xs)
  unfolding last_given
  last_kept empty xs is all = last_or_kept None empty xs is all

-- what is given under a test
if_given : {A : Type 0} (P : A → Type 0) (b : Bool) (v : A) → P v → IfSome (if b then Some v else None) P
if_given P true v is = is
if_given P false v is = tt

-- an element of a list
element_kept : {A : Type 0} (P : A → Type 0) (xs : List A) (d : A) (i : ℕ) → All P xs → IfSome (slice_get xs i) P
element_kept P xs d i all = elim (cases_lt i (length xs)) [
  | inl there ↦ subst (λ o. IfSome o P) (sym (slice_get-get_or xs i d there)) (all i d there)
  | inr past ↦ subst (λ o. IfSome o P) (sym (slice_get_past xs i past)) tt
]

byte_in_kept : (at : ℕ) (bytes : List ℕ) (i : ℕ) → All (λ byte. byte < 256) bytes → IfSome (byte_in at bytes i) (λ byte. byte < 256)
byte_in_kept at bytes i all = on (nat_le at i)
  where
    on : (b : Bool) → IfSome (if b then slice_get bytes (i - at) else None) (λ byte. byte < 256)
    on true = element_kept (λ byte. byte < 256) bytes 0 (i - at) all
    on false = tt

-- where that is tested too
if_byte_in : (b : Bool) (at : ℕ) (bytes : List ℕ) (i : ℕ) → All (λ byte. byte < 256) bytes → IfSome (if b then byte_in at bytes i else None) (λ byte. byte < 256)
if_byte_in true at bytes i all = byte_in_kept at bytes i all
if_byte_in false at bytes i all = tt

-- the bytes of a word
four_bytes : (a b c d : ℕ) → a < 256 → b < 256 → c < 256 → d < 256 → All (λ byte. byte < 256) (a ∷ b ∷ c ∷ d ∷ [])
four_bytes a b c d one two three four zero e there = one
four_bytes a b c d one two three four (suc zero) e there = two
four_bytes a b c d one two three four (suc (suc zero)) e there = three
four_bytes a b c d one two three four (suc (suc (suc zero))) e there = four
four_bytes a b c d one two three four (suc (suc (suc (suc i)))) e there = absurd (omega (arith, there))

-- ---- what each statement gives

-- a capability in its range that a machine of these sizes may have
abbrev pub IsKept : Sizes → Capability → Type 0
IsKept sizes c = IsCapability c × IsStated sizes c

pub kept-null : (sizes : Sizes) → IsKept sizes null
kept-null sizes = (IsCapability-null, record { uncounted = refl; there = λ counts. absurd (cc) })

-- the capability of a page that a region assigns, of a machine that has the page
region_is : (sizes : Sizes) → IsWithinLimits sizes → (n restr : ℕ) → n < sizes.pages → restr < 32 → IsKept sizes (region_cap n restr)
region_is sizes limits n restr there below = (
  record {
    restr = below;
    count = omega arith;
    guard = record { low = omega arith; high = omega arith; fits = omega arith };
    unguarded = λ plain. absurd (cc);
    object = omega (arith, limits.pages);
    aligned = λ window. absurd (cc);
    payload = omega arith;
    slot = omega arith;
  },
  record { uncounted = refl; there = λ _. there },
)

-- what a region gives a slot
region_kept : (sizes : Sizes) → IsWithinLimits sizes → (n i gpt slot count page : ℕ) (restr : Restr) → IsStatement sizes (says.Region gpt slot count page restr) → IfSome (slot_given n i (says.Region gpt slot count page restr)) (IsKept sizes)
region_kept sizes limits n i gpt slot count page restr is = on (gpt == n && is_among slot count i) refl
  where
    on : (b : Bool) → (gpt == n && is_among slot count i) ≡ b → IfSome (if b then Some (region_cap (page + (i - slot)) restr.0) else None) (IsKept sizes)
    on false none = tt
    on true some =
        let inside = and_parts (nat_le slot i) (nat_lt i (slot + count)) (and_parts (gpt == n) (is_among slot count i) some).1 in
        let from : slot ≤ i = leb-true slot i inside.0 in
        let below : i < slot + count = ltb-true i (slot + count) inside.1 in
        region_is sizes limits (page + (i - slot)) restr.0 (omega (arith, is.3)) is.4

-- the parts of an endpoint
abbrev pub IsKeptEndpoint : Sizes → Endpoint → Type 0
IsKeptEndpoint sizes e =
    IsKept sizes e.recipient × (is_recipient e.recipient.kind ≡ true) × (e.id < 2 ^ 32) × (e.payload < 2 ^ 32)

module _ (sizes : Sizes) where
  -- what a statement keeps
  abbrev pub Holds : Statement → Type 0
  Holds x = IsStatement sizes x × IsTyped x

  pub count_kept : (kind : CapKind) (n : ℕ) (x : Statement) → Holds x → IfSome (count_given kind n x) (λ count. count < 2 ^ 20)
  count_kept kind n (says.Count named number count) is = if_given (λ count. count < 2 ^ 20) (number_of named == number_of kind && number == n) count (omega (arith, is.0.1))
  count_kept kind n _ is = tt

  pub byte_kept : (n i : ℕ) (x : Statement) → Holds x → IfSome (byte_given n i x) (λ byte. byte < 256)
  byte_kept n i (says.Page number at bytes) is = if_byte_in (number == n) at bytes i is.1.0
  byte_kept n i (says.Code number at insn) is =
      if_byte_in (number == n) at (instruction_bytes insn) i (four_bytes _ _ _ _ (omega arith) (omega arith) (omega arith) (omega arith))
  byte_kept n i _ is = tt

  pub cap_kept : (n i : ℕ) (x : Statement) → Holds x → IfSome (cap_given n i x) (IsKept sizes)
  cap_kept n i (says.CapSlot number slot c) is = if_given (IsKept sizes) (number == n && slot == i) c (is.1.0, is.0.1)
  cap_kept n i _ is = tt

  pub header_kept : (n : ℕ) (x : Statement) → Holds x → IfSome (header_given n x) IsHeader
  header_kept n (says.Gpt number header) is = if_given IsHeader (number == n) header is.1
  header_kept n _ is = tt

  pub slot_kept : (limits : IsWithinLimits sizes) (n i : ℕ) (x : Statement) → Holds x → IfSome (slot_given n i x) (IsKept sizes)
  slot_kept limits n i (says.GptSlot number slot c) is = if_given (IsKept sizes) (number == n && slot == i) c (is.1, is.0.2)
  slot_kept limits n i (says.Region gpt slot count page restr) is = region_kept sizes limits n i gpt slot count page restr is.0
  slot_kept limits n i _ is = tt

  pub endpoint_kept : (n : ℕ) (x : Statement) → Holds x → IfSome (endpoint_given n x) (IsKeptEndpoint sizes)
  endpoint_kept n (says.Endpoint number recipient id payload matching) is =
      if_given (IsKeptEndpoint sizes) (number == n) (record { recipient = recipient; id = id; payload = payload; matching = matching })
      ((is.1.0, is.0.2), is.0.1, is.1.1, is.1.2)
  endpoint_kept n _ is = tt

  pub pc_kept : (p : ℕ) (x : Statement) → Holds x → IfSome (pc_given p x) (λ pc. (pc % 4 ≡ 0) × (pc < 2 ^ 32))
  pc_kept p (says.Process number pc space schedule handler runs) is = if_given (λ pc. (pc % 4 ≡ 0) × (pc < 2 ^ 32)) (number == p) pc (is.0.1, is.1.0)
  pc_kept p _ is = tt

  among_kept : (i : ℕ) (space schedule handler : Capability) → IsKept sizes space → IsKept sizes schedule → IsKept sizes handler → IsKept sizes (slot_among i space schedule handler)
  among_kept zero space schedule handler first second third = first
  among_kept (suc zero) space schedule handler first second third = second
  among_kept (suc (suc i)) space schedule handler first second third = third

  pub place_kept : (p i : ℕ) (x : Statement) → Holds x → IfSome (place_given p i x) (IsKept sizes)
  place_kept p i (says.Process number pc space schedule handler runs) is =
      if_given (IsKept sizes) (number == p) (slot_among i space schedule handler)
      (among_kept i space schedule handler (is.1.1, is.0.2) (is.1.2, is.0.3) (is.1.3, is.0.4))
  place_kept p i _ is = tt

  pub reg_kept : (p i : ℕ) (x : Statement) → Holds x → IfSome (reg_given p i x) (λ value. value < 2 ^ 32)
  reg_kept p i (says.Reg number index value) is = if_given (λ value. value < 2 ^ 32) (number == p && index == i) value is.1
  reg_kept p i _ is = tt

  pub capreg_kept : (p i : ℕ) (x : Statement) → Holds x → IfSome (capreg_given p i x) (IsKept sizes)
  capreg_kept p i (says.CapReg number index c) is = if_given (IsKept sizes) (number == p && index == i) c (is.1, is.0.3)
  capreg_kept p i _ is = tt

  -- nothing is given to register 0
  never : {A : Type 0} (P : A → Type 0) (b : Bool) (index : ℕ) (v : A) → 1 ≤ index → IfSome (if b && index == 0 then Some v else None) P
  never P true index v some = let off = ne_eqb index 0 (λ none. omega arith) in rw off tt
  never P false index v some = tt

  pub x0_kept : (p : ℕ) (x : Statement) → Holds x → IfSome (reg_given p 0 x) (λ value. value ≡ 0)
  x0_kept p (says.Reg number index value) is = never (λ value. value ≡ 0) (number == p) index value is.0.2
  x0_kept p _ is = tt

  pub c0_kept : (p : ℕ) (x : Statement) → Holds x → IfSome (capreg_given p 0 x) (λ c. c ≡ null)
  c0_kept p (says.CapReg number index c) is = never (λ c. c ≡ null) (number == p) index c is.0.2
  c0_kept p _ is = tt
