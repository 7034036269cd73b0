-- What keeps a capability in its ranges.
use Rattle.std.proofs.Common.{ℕ, ◌≡◌, ◌≤◌, ◌<◌, ◌-◌, ◌^◌, true, refl, sym, subst, bit_or, arith, if◌then◌else◌}
use Rattle.std.proofs.Common.{◌⊎◌, inl, inr, List, All, length, slice_index_or}
use Rattle.std.proofs.Math.Nat.{pow-le-pow_right}
use Rattle.std.proofs.lemmas.Bool.{cases_lt}
use Rattle.std.proofs.lemmas.List.{get_or_past}
use Rattle.std.proofs.lemmas.Nat.{or_lt}
use Rattle.cap_format.specs.declared.kind.CapKind.{CapKind}
use Rattle.cap_format.specs.declared.kind.CapKind.TheVariants.{Null, Page, CapPage, Gpt, Window, LocalWindow, Endpoint, Entry, Process, Schedule, Range, Discrim, KernLog, SysCtl}
use Rattle.cap_format.specs.Kind.{is_memory, restr_limit, count_limit, object_limit, payload_limit, slot_limit}
use Rattle.cap_format.specs.Guard.{GuardValue, IsGuard, no_guard}
use Rattle.cap_format.specs.Capability.{Capability, IsCapability, null, bare}
use Rattle.cap_format.specs.Weakening.{reduced, weakened, weakened_kind}

-- the guard where none is used is one
pub IsGuard-none : IsGuard no_guard
IsGuard-none = record { low = omega arith; high = omega arith; fits = omega arith }

-- Null is a capability
pub IsCapability-null : IsCapability null
IsCapability-null =
    record {
      restr = omega arith;
      count = omega arith;
      guard = IsGuard-none;
      unguarded = λ _. refl;
      object = omega arith;
      aligned = λ _. refl;
      payload = omega arith;
      slot = omega arith;
    }

-- the match of a guard has 20 bits
pub matches_small : (guard : GuardValue) → IsGuard guard → guard.matches < 2 ^ 20
matches_small guard is =
    let small : 2 ^ (32 - guard.l2g) ≤ 2 ^ 20 = let fewer : 32 - guard.l2g ≤ 20 = omega (arith, is.low) in
    pow-le-pow_right {n = 2} (omega arith) fewer in
    omega (arith, is.fits, small)

-- every limit is positive, and a field of any kind has the bits that its place in the spelling has
pub record Limits (kind : CapKind) : Type 0 where
  pub count_positive : 0 < count_limit kind
  pub restr : restr_limit kind ≤ 32
  pub count : count_limit kind ≤ 2 ^ 20
  pub object : object_limit kind ≤ 2 ^ 32
  pub payload : payload_limit kind ≤ 2 ^ 32
  pub slot : slot_limit kind ≤ 16
  pub payload_of_memory : (if is_memory kind then payload_limit kind else 1) ≡ 1

-- they hold of every kind
pub limits : (kind : CapKind) → Limits kind
limits Null = record { count_positive = omega arith; restr = omega arith; count = omega arith; object = omega arith; payload = omega arith; slot = omega arith; payload_of_memory = refl }
limits Page = record { count_positive = omega arith; restr = omega arith; count = omega arith; object = omega arith; payload = omega arith; slot = omega arith; payload_of_memory = refl }
limits CapPage = record { count_positive = omega arith; restr = omega arith; count = omega arith; object = omega arith; payload = omega arith; slot = omega arith; payload_of_memory = refl }
limits Gpt = record { count_positive = omega arith; restr = omega arith; count = omega arith; object = omega arith; payload = omega arith; slot = omega arith; payload_of_memory = refl }
limits Window = record { count_positive = omega arith; restr = omega arith; count = omega arith; object = omega arith; payload = omega arith; slot = omega arith; payload_of_memory = refl }
limits LocalWindow = record { count_positive = omega arith; restr = omega arith; count = omega arith; object = omega arith; payload = omega arith; slot = omega arith; payload_of_memory = refl }
limits Endpoint = record { count_positive = omega arith; restr = omega arith; count = omega arith; object = omega arith; payload = omega arith; slot = omega arith; payload_of_memory = refl }
limits Entry = record { count_positive = omega arith; restr = omega arith; count = omega arith; object = omega arith; payload = omega arith; slot = omega arith; payload_of_memory = refl }
limits Process = record { count_positive = omega arith; restr = omega arith; count = omega arith; object = omega arith; payload = omega arith; slot = omega arith; payload_of_memory = refl }
limits Schedule = record { count_positive = omega arith; restr = omega arith; count = omega arith; object = omega arith; payload = omega arith; slot = omega arith; payload_of_memory = refl }
limits Range = record { count_positive = omega arith; restr = omega arith; count = omega arith; object = omega arith; payload = omega arith; slot = omega arith; payload_of_memory = refl }
limits Discrim = record { count_positive = omega arith; restr = omega arith; count = omega arith; object = omega arith; payload = omega arith; slot = omega arith; payload_of_memory = refl }
limits KernLog = record { count_positive = omega arith; restr = omega arith; count = omega arith; object = omega arith; payload = omega arith; slot = omega arith; payload_of_memory = refl }
limits SysCtl = record { count_positive = omega arith; restr = omega arith; count = omega arith; object = omega arith; payload = omega arith; slot = omega arith; payload_of_memory = refl }

-- a capability without its count is one
pub IsCapability-bare : (c : Capability) → IsCapability c → IsCapability (bare c)
IsCapability-bare c is =
    record {
      restr = is.restr;
      count = (limits c.kind).count_positive;
      guard = is.guard;
      unguarded = is.unguarded;
      object = is.object;
      aligned = is.aligned;
      payload = is.payload;
      slot = is.slot;
    }

-- more restrictions leave a memory capability in its ranges
pub IsCapability-reduced : (c : Capability) (more : ℕ) → is_memory c.kind ≡ true → more < 32 → IsCapability c → IsCapability (reduced c more)
IsCapability-reduced c more memory five is =
    let limit : restr_limit c.kind ≡ 32 = rw memory refl in
    let below : c.restr < 32 = subst (λ (n : ℕ). c.restr < n) limit is.restr in
    record {
      restr = subst (λ (n : ℕ). bit_or c.restr more < n) (sym limit) (or_lt 5 c.restr more below five);
      count = is.count;
      guard = is.guard;
      unguarded = is.unguarded;
      object = is.object;
      aligned = is.aligned;
      payload = is.payload;
      slot = is.slot;
    }

-- weakening looks at no count
pub weakened-bare : (c : Capability) → weakened (bare c) ≡ bare (weakened c)
weakened-bare c = on c.kind
  where
    on : (kind : CapKind) → weakened_kind kind (bare c) ≡ bare (weakened_kind kind c)
    on Null = refl
    on Page = refl
    on CapPage = refl
    on Gpt = refl
    on Window = refl
    on LocalWindow = refl
    on Endpoint = refl
    on Entry = refl
    on Process = refl
    on Schedule = refl
    on Range = refl
    on Discrim = refl
    on KernLog = refl
    on SysCtl = refl

-- each read of a list of capabilities gives one in its ranges, also past the end
pub IsCapability-at : (caps : List Capability) (i : ℕ) → All IsCapability caps → IsCapability (slice_index_or caps i null)
IsCapability-at caps i all = on (cases_lt i (length caps))
  where
    on : (i < length caps) ⊎ (length caps ≤ i) → IsCapability (slice_index_or caps i null)
    on (inl below) = all i null below
    on (inr past) = subst IsCapability (sym (get_or_past caps i null past)) IsCapability-null
