-- The capability without a count that sixteen bytes spell, by their four numbers.
use Rattle.std.proofs.Common.{◌≡◌, ℕ, ◌-◌, ◌/◌, ◌%◌, ◌^◌, ◌<◌, ◌&&◌, ◌||◌, not, Bool, true, false, if◌then◌else◌, List, [], ◌++◌, drop, Option, Some, None, refl, sym, ap, subst, ◌∙◌, arith}
use Rattle.std.specs.Prelude.{nat_le, nat_lt, ◌==◌, bytes_eq, option_and_then}
use Rattle.std.proofs.lemmas.Bool.{and_parts, and_from, leb-true, ltb-true, le-leb, lt-ltb, eqb-true, cond-true}
use Rattle.std.proofs.lemmas.Option.{cond_some, option_and_then_some}
use Rattle.std.proofs.lemmas.Slice.Eq.{bytes_eq-Decides}
use Rattle.byteorder.specs.Endian.{little_bytes, little_number}
use Rattle.byteorder.specs.Numbers.{little_number-reads_back}
use Rattle.cap_format.specs.declared.kind.CapKind.{CapKind}
use Rattle.cap_format.specs.Kind.{number_of, kind_with, is_memory, is_window, restr_limit, object_limit, payload_limit, slot_limit}
use Rattle.cap_format.specs.Guard.{guard_of}
use Rattle.cap_format.specs.Capability.{Capability, IsCapability, capability}
use Rattle.cap_format.specs.Spelling.{head_of, second_of, guard_number, spelling, type_of, Spells}
use Rattle.cap_format.proofs.KindNumbers.{kind_with-number, number_small}
use Rattle.cap_format.proofs.Ranges.{limits, matches_small}
use Rattle.image_binary.specs.Values.{guard_in, made_of, is_guard, is_in_range, spelled_by, uncounted_of}

-- ---- what a capability without a count is made of

-- its guard and its payload, by the second number
guard_back : (c : Capability) → IsCapability c → guard_in c.kind (second_of c) ≡ c.guard
guard_back c is = on (is_memory c.kind) refl
  where
    on : (b : Bool) → is_memory c.kind ≡ b → guard_in c.kind (second_of c) ≡ c.guard
    on true memory =
        let l2g : guard_number c.guard % 64 ≡ c.guard.l2g = omega (arith, is.guard.high) in
        let matches : guard_number c.guard / 4096 ≡ c.guard.matches = omega (arith, is.guard.high) in
        rw memory (ap (λ (n : ℕ). guard_of n (guard_number c.guard / 4096)) l2g ∙ ap (λ (n : ℕ). guard_of c.guard.l2g n) matches)
    on false other = rw other (sym (is.unguarded other))

payload_back : (c : Capability) → IsCapability c → (if is_memory c.kind then 0 else second_of c) ≡ c.payload
payload_back c is = on (is_memory c.kind) refl
  where
    on : (b : Bool) → is_memory c.kind ≡ b → (if is_memory c.kind then 0 else second_of c) ≡ c.payload
    on true memory =
        let none : payload_limit c.kind ≡ 1 = sym (rw memory refl) ∙ (limits c.kind).payload_of_memory in
        let zero_is : 0 ≡ c.payload = omega (arith, is.payload) in
        rw memory zero_is
    on false other = rw other refl

-- its restrictions, by the first
restr_back : (c : Capability) → IsCapability c → c.count ≡ 0 → head_of c / 64 ≡ c.restr
restr_back c is none = omega (arith, number_small c.kind)

made_back : (c : Capability) → IsCapability c → c.count ≡ 0 → made_of c.kind (head_of c) (second_of c) c.object c.slot ≡ c
made_back c is none =
    let restr = restr_back c is none in
    let guard = guard_back c is in
    let payload = payload_back c is in
    let whole : capability c.kind (head_of c / 64) 0 (guard_in c.kind (second_of c)) c.object (if is_memory c.kind then 0 else second_of c) c.slot
    ≡ capability c.kind c.restr c.count c.guard c.object c.payload c.slot = cc (restr, sym none, guard, payload) in
    whole

-- ---- its four numbers

-- the numbers in the bytes that spell it
record Numbers (bytes : List ℕ) (c : Capability) : Type 0 where
  kind : type_of bytes ≡ number_of c.kind
  head : little_number 4 bytes ≡ head_of c
  second : little_number 4 (drop 4 bytes) ≡ second_of c
  object : little_number 4 (drop 8 bytes) ≡ c.object
  slot : little_number 4 (drop 12 bytes) ≡ c.slot

second_small : (c : Capability) → IsCapability c → second_of c < 2 ^ 32
second_small c is = on (is_memory c.kind)
  where
    on : (b : Bool) → (if b then guard_number c.guard else c.payload) < 2 ^ 32
    on true = let small = matches_small c.guard is.guard in omega (arith, small, is.guard.high)
    on false = omega (arith, is.payload, (limits c.kind).payload)

numbers_in : (c : Capability) → IsCapability c → Numbers (spelling c) c
numbers_in c is =
    let most = limits c.kind in
    let object : c.object < 2 ^ 32 = omega (arith, is.object, most.object) in
    let slot : c.slot < 2 ^ 32 = omega (arith, is.slot, most.slot) in
    let last = little_bytes 4 c.slot in
    let late = little_bytes 4 c.object ++ last in
    let small : head_of c < 2 ^ 32 = omega (arith, is.restr, is.count, most.restr, most.count, number_small c.kind) in
    let head : little_number 4 (spelling c) ≡ head_of c = little_number-reads_back 4 (head_of c) (little_bytes 4 (second_of c) ++ late) small in
    let kind : head_of c % 64 ≡ number_of c.kind = omega (arith, number_small c.kind) in
    record {
      kind = ap (λ (n : ℕ). n % 64) head ∙ kind;
      head = head;
      second = little_number-reads_back 4 (second_of c) late (second_small c is);
      object = little_number-reads_back 4 c.object last object;
      slot = little_number-reads_back 4 c.slot [] slot;
    }

-- ---- its ranges, as they are tested

aligned_tested : (c : Capability) → IsCapability c → (not (is_window c.kind) || (c.object % 2 ^ c.guard.l2g == 0)) ≡ true
aligned_tested c is = on (is_window c.kind) refl
  where
    on : (b : Bool) → is_window c.kind ≡ b → (not (is_window c.kind) || (c.object % 2 ^ c.guard.l2g == 0)) ≡ true
    on true window = rw (window, is.aligned window) refl
    on false other = rw other refl

in_range_tested : (c : Capability) → IsCapability c → is_in_range c ≡ true
in_range_tested c is =
    rw (
      lt-ltb c.restr (restr_limit c.kind) is.restr,
      le-leb 12 c.guard.l2g is.guard.low,
      le-leb c.guard.l2g 32 is.guard.high,
      lt-ltb c.guard.matches (2 ^ (32 - c.guard.l2g)) is.guard.fits,
      lt-ltb c.object (object_limit c.kind) is.object,
      aligned_tested c is,
      lt-ltb c.payload (payload_limit c.kind) is.payload,
      lt-ltb c.slot (slot_limit c.kind) is.slot,
    )
    refl

same_bytes : (bytes : List ℕ) → bytes_eq bytes bytes ≡ true
same_bytes bytes = (bytes_eq-Decides bytes bytes).1 refl

-- a capability in its ranges that has these numbers, and these bytes
spelled_is : (bytes : List ℕ) (kind : CapKind) (c : Capability)
    → made_of kind (little_number 4 bytes) (little_number 4 (drop 4 bytes)) (little_number 4 (drop 8 bytes)) (little_number 4 (drop 12 bytes)) ≡ c
    → is_in_range c ≡ true → bytes_eq (spelling c) bytes ≡ true → spelled_by bytes kind ≡ Some c
spelled_is bytes kind c made ranged same =
    ap (λ (m : Capability). if is_in_range m && bytes_eq (spelling m) bytes then Some m else None) made
    ∙ cond-true (is_in_range c && bytes_eq (spelling c) bytes) (Some c) None (and_from (is_in_range c) (bytes_eq (spelling c) bytes) ranged same)

-- what is spelled is read
pub uncounted_again : (c : Capability) → IsCapability c → c.count ≡ 0 → uncounted_of (spelling c) ≡ Some c
unfolding uncounted_of
uncounted_again c is none =
    let n = numbers_in c is in
    let bytes = spelling c in
    let made : made_of c.kind (little_number 4 bytes) (little_number 4 (drop 4 bytes)) (little_number 4 (drop 8 bytes)) (little_number 4 (drop 12 bytes)) ≡ c =
    ap (λ (h : ℕ). made_of c.kind h (little_number 4 (drop 4 bytes)) (little_number 4 (drop 8 bytes)) (little_number 4 (drop 12 bytes))) n.head
    ∙ ap (λ (h : ℕ). made_of c.kind (head_of c) h (little_number 4 (drop 8 bytes)) (little_number 4 (drop 12 bytes))) n.second
    ∙ ap (λ (h : ℕ). made_of c.kind (head_of c) (second_of c) h (little_number 4 (drop 12 bytes))) n.object
    ∙ ap (λ (h : ℕ). made_of c.kind (head_of c) (second_of c) c.object h) n.slot
    ∙ made_back c is none in
    ap (option_and_then (spelled_by bytes)) (ap kind_with n.kind ∙ kind_with-number c.kind)
    ∙ spelled_is bytes c.kind c made (in_range_tested c is) (same_bytes bytes)

-- ---- back

aligned_back : (b : Bool) (n : ℕ) → (not b || (n == 0)) ≡ true → b ≡ true → n ≡ 0
aligned_back true n e is = eqb-true n 0 e
aligned_back false n e is = absurd cc

-- what a kind and numbers make, where it is in its ranges
module _ (kind : CapKind) (head second object slot : ℕ) where
  built : Capability
  built = made_of kind head second object slot

  built_in_range : is_in_range built ≡ true → IsCapability built
  unfolding built
  built_in_range e =
      let c = made_of kind head second object slot in
      let a = and_parts (nat_lt c.restr (restr_limit kind) && is_guard c.guard && nat_lt c.object (object_limit kind) && (not (is_window kind) || (c.object % 2 ^ c.guard.l2g == 0)) && nat_lt c.payload (payload_limit kind)) (nat_lt c.slot (slot_limit kind)) e in
      let b = and_parts (nat_lt c.restr (restr_limit kind) && is_guard c.guard && nat_lt c.object (object_limit kind) && (not (is_window kind) || (c.object % 2 ^ c.guard.l2g == 0))) (nat_lt c.payload (payload_limit kind)) a.0 in
      let d = and_parts (nat_lt c.restr (restr_limit kind) && is_guard c.guard && nat_lt c.object (object_limit kind)) (not (is_window kind) || (c.object % 2 ^ c.guard.l2g == 0)) b.0 in
      let f = and_parts (nat_lt c.restr (restr_limit kind) && is_guard c.guard) (nat_lt c.object (object_limit kind)) d.0 in
      let g = and_parts (nat_lt c.restr (restr_limit kind)) (is_guard c.guard) f.0 in
      let h = and_parts (nat_le 12 c.guard.l2g && nat_le c.guard.l2g 32) (nat_lt c.guard.matches (2 ^ (32 - c.guard.l2g))) g.1 in
      let j = and_parts (nat_le 12 c.guard.l2g) (nat_le c.guard.l2g 32) h.0 in
      record {
        restr = ltb-true _ _ g.0;
        count = (limits kind).count_positive;
        guard = record { low = leb-true _ _ j.0; high = leb-true _ _ j.1; fits = ltb-true _ _ h.1 };
        unguarded = λ other. rw other refl;
        object = ltb-true _ _ f.1;
        aligned = aligned_back (is_window kind) (c.object % 2 ^ c.guard.l2g) d.1;
        payload = ltb-true _ _ b.1;
        slot = ltb-true _ _ a.1;
      }

-- what is read is spelled so
pub uncounted_ok : (bytes : List ℕ) (c : Capability) → uncounted_of bytes ≡ Some c → (spelling c ≡ bytes) × IsCapability c × (c.count ≡ 0)
unfolding uncounted_of built
uncounted_ok bytes c e =
    option_and_then_some (spelled_by bytes) (kind_with (type_of bytes)) c e
    (λ kind known by.
    let head = little_number 4 bytes in
    let second = little_number 4 (drop 4 bytes) in
    let object = little_number 4 (drop 8 bytes) in
    let slot = little_number 4 (drop 12 bytes) in
    let m = made_of kind head second object slot in
    let given = cond_some (is_in_range m && bytes_eq (spelling m) bytes) m c by in
    let tests = and_parts (is_in_range m) (bytes_eq (spelling m) bytes) given.0 in
    let found : (spelling m ≡ bytes) × IsCapability m × (m.count ≡ 0) =
    ((bytes_eq-Decides (spelling m) bytes).0 tests.1, built_in_range kind head second object slot tests.0, refl) in
    subst (λ (x : Capability). (spelling x ≡ bytes) × IsCapability x × (x.count ≡ 0)) given.1 found)

-- bytes that spell nothing give none
pub no_spelling : (bytes : List ℕ) → ((c : Capability) → ¬ Spells bytes c) → uncounted_of bytes ≡ None
no_spelling bytes none = on (uncounted_of bytes) refl
  where
    on : (o : Option Capability) → uncounted_of bytes ≡ o → o ≡ None
    on None e = refl
    on (Some c) e = let u = uncounted_ok bytes c e in absurd (none c (record { in_range = u.1; bytes_are = sym u.0 }))

-- nor do those that spell a capability with a count
pub is_counted : (bytes : List ℕ) (c : Capability) → Spells bytes c → (c.count ≡ 0 → ⊥) → uncounted_of bytes ≡ None
is_counted bytes c spells some = on (uncounted_of bytes) refl
  where
    on : (o : Option Capability) → uncounted_of bytes ≡ o → o ≡ None
    on None e = refl
    on (Some d) e =
        let u = uncounted_ok bytes d e in
        let heads : head_of c ≡ head_of d =
        sym (numbers_in c spells.in_range).head ∙ ap (little_number 4) (sym spells.bytes_are ∙ sym u.0) ∙ (numbers_in d u.1).head in
        absurd (some (omega (arith, heads, u.2, u.1.restr, (limits d.kind).restr, number_small d.kind)))

-- those that spell one without give it
pub is_uncounted : (bytes : List ℕ) (c : Capability) → Spells bytes c → c.count ≡ 0 → uncounted_of bytes ≡ Some c
is_uncounted bytes c spells none = ap uncounted_of spells.bytes_are ∙ uncounted_again c spells.in_range none
