-- The numbers in a spelling are the fields of its capability, and they tell it from every other.
use Rattle.std.proofs.Common.{ℕ, List, [], ◌++◌, drop, Bool, true, false, ◌≡◌, ◌<◌, ◌%◌, ◌^◌, refl, sym, ap, subst, ◌∙◌, arith, if◌then◌else◌}
use Rattle.byteorder.specs.Endian.{little_bytes, little_number}
use Rattle.byteorder.specs.Numbers.{little_number-reads_back}
use Rattle.cap_format.specs.declared.kind.CapKind.{CapKind}
use Rattle.cap_format.specs.Kind.{number_of, is_memory, payload_limit}
use Rattle.cap_format.specs.Guard.{GuardValue, IsGuard, guard_of}
use Rattle.cap_format.specs.Capability.{Capability, IsCapability, capability}
use Rattle.cap_format.proofs.KindNumbers.{kind_of_number, number_small}
use Rattle.cap_format.proofs.Ranges.{limits, matches_small}
use Rattle.cap_format.specs.Spelling.{head_of, second_of, guard_number, spelling, type_of, HasNumbers, Spells}

-- the number 0, of the kind, the restrictions and the count, has 32 bits
pub head_small : (c : Capability) → IsCapability c → head_of c < 2 ^ 32
head_small c is =
    let most = limits c.kind in
    let kind = number_small c.kind in
    omega (arith, is.restr, is.count, most.restr, most.count, kind)

-- so has the number 1, of the guard or the payload
pub second_small : (c : Capability) → IsCapability c → second_of c < 2 ^ 32
second_small c is = on (is_memory c.kind)
  where
    on : (b : Bool) → (if b then guard_number c.guard else c.payload) < 2 ^ 32
    on true = let small = matches_small c.guard is.guard in omega (arith, small, is.guard.high)
    on false = omega (arith, is.payload, (limits c.kind).payload)

-- what the four numbers of these bytes are, where they spell this capability
pub record Words (bytes : List ℕ) (c : Capability) : Type 0 where
  pub kind : type_of bytes ≡ number_of c.kind
  pub head : little_number 4 bytes ≡ head_of c
  pub second : little_number 4 (drop 4 bytes) ≡ second_of c
  pub object : little_number 4 (drop 8 bytes) ≡ c.object
  pub slot : little_number 4 (drop 12 bytes) ≡ c.slot

words_of_spelling : (c : Capability) → IsCapability c → Words (spelling c) c
words_of_spelling c is =
    let most = limits c.kind in
    let object : c.object < 2 ^ 32 = omega (arith, is.object, most.object) in
    let slot : c.slot < 2 ^ 32 = omega (arith, is.slot, most.slot) in
    let last = little_bytes 4 c.slot in
    let late = little_bytes 4 c.object ++ last in
    let head : little_number 4 (spelling c) ≡ head_of c =
    little_number-reads_back 4 (head_of c) (little_bytes 4 (second_of c) ++ late) (head_small c is) in
    let kind : head_of c % 64 ≡ number_of c.kind = omega (arith, number_small c.kind) in
    record {
      kind = ap (λ (n : ℕ). n % 64) head ∙ kind;
      head = head;
      second = little_number-reads_back 4 (second_of c) late (second_small c is);
      object = little_number-reads_back 4 c.object last object;
      slot = little_number-reads_back 4 c.slot [] slot;
    }

-- bytes that spell a capability have its four numbers
pub words_of : (bytes : List ℕ) (c : Capability) → Spells bytes c → Words bytes c
words_of bytes c spells = subst (λ (xs : List ℕ). Words xs c) (sym spells.bytes_are) (words_of_spelling c spells.in_range)

-- the capability that is spelled has the numbers of the bytes, however these were read
pub numbers_of : (bytes : List ℕ) (kind : CapKind) (head second object slot : ℕ) (c : Capability) → Spells bytes c → number_of kind ≡ type_of bytes
    → head ≡ little_number 4 bytes → second ≡ little_number 4 (drop 4 bytes) → object ≡ little_number 4 (drop 8 bytes) → slot ≡ little_number 4 (drop 12 bytes)
    → HasNumbers c kind head second object slot
numbers_of bytes kind head second object slot c spells number p q r s =
    let words = words_of bytes c spells in
    record {
      in_range = spells.in_range;
      kind_is = kind_of_number kind c.kind (number ∙ words.kind);
      head_is = p ∙ words.head;
      second_is = q ∙ words.second;
      object_is = r ∙ words.object;
      slot_is = s ∙ words.slot;
    }

-- a guard by its number
guard_of_number : (g h : GuardValue) → IsGuard g → IsGuard h → guard_number g ≡ guard_number h → g ≡ h
guard_of_number g h isg ish same =
    let l2g : g.l2g ≡ h.l2g = omega (arith, same, isg.high, ish.high) in
    let matches : g.matches ≡ h.matches = omega (arith, same, isg.high, ish.high) in
    ap (λ (n : ℕ). guard_of n g.matches) l2g ∙ ap (λ (n : ℕ). guard_of h.l2g n) matches

-- the second number tells the guard and the payload
module _ (c d : Capability) (isc : IsCapability c) (isd : IsCapability d) (kind : c.kind ≡ d.kind) (second : second_of c ≡ second_of d) where
  same_guard : c.guard ≡ d.guard
  same_guard = on (is_memory c.kind) refl
    where
      on : (b : Bool) → is_memory c.kind ≡ b → c.guard ≡ d.guard
      on true memory =
          let numbers : guard_number c.guard ≡ guard_number d.guard =
          sym (rw memory refl) ∙ second ∙ rw (sym kind, memory) refl in
          guard_of_number c.guard d.guard isc.guard isd.guard numbers
      on false other = isc.unguarded other ∙ sym (isd.unguarded (ap is_memory (sym kind) ∙ other))

  same_payload : c.payload ≡ d.payload
  same_payload = on (is_memory c.kind) refl
    where
      on : (b : Bool) → is_memory c.kind ≡ b → c.payload ≡ d.payload
      on true memory =
          let none : payload_limit c.kind ≡ 1 = sym (rw memory refl) ∙ (limits c.kind).payload_of_memory in
          let none_too : payload_limit d.kind ≡ 1 = ap payload_limit (sym kind) ∙ none in
          omega (arith, isc.payload, isd.payload, none, none_too)
      on false other = sym (rw other refl) ∙ second ∙ rw (sym kind, other) refl

-- the four numbers tell a capability
pub same_numbers : (c d : Capability) → IsCapability c → IsCapability d → c.kind ≡ d.kind → head_of c ≡ head_of d → second_of c ≡ second_of d → c.object ≡ d.object → c.slot ≡ d.slot → c ≡ d
same_numbers c d isc isd kind head second object slot =
    let most = limits c.kind in
    let most_too = limits d.kind in
    let number = ap number_of kind in
    let restr : c.restr ≡ d.restr = omega (arith, head, number, isc.restr, isd.restr, most.restr, most_too.restr) in
    let count : c.count ≡ d.count = omega (arith, head, number, restr) in
    let guard = same_guard c d isc isd kind second in
    let payload = same_payload c d isc isd kind second in
    let whole : capability c.kind c.restr c.count c.guard c.object c.payload c.slot ≡ capability d.kind d.restr d.count d.guard d.object d.payload d.slot =
    cc (kind, restr, count, guard, object, payload, slot) in
    whole
