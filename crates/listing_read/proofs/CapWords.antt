-- That what a capability word gives is what its tests say.
use Rattle.std.proofs.Common.{◌≡◌, ◌<◌, ◌-◌, ◌^◌, ◌%◌, ◌==◌, not, ◌||◌, true, false, refl, sym, Bool}
use Rattle.std.proofs.lemmas.Bool.{le-leb, lt-ltb, eqb-true, true≢false}
use Rattle.cap_format.proofs.Ranges.{limits}
use Rattle.cap_format.specs.Kind.{is_window, object_limit}
use Rattle.cap_format.specs.Guard.{IsGuard, guard_of}
use Rattle.cap_format.specs.Capability.{IsCapability}
use Rattle.cap_words.specs.declared.spelling.Spelled.{Spelled}
use Rattle.cap_words.specs.Spelling.{IsSpelled}
use Rattle.listing_read.specs.CapWord.{has_guard, is_aligned, meant}

-- a guard in its range passes the test
pub guard_tested : (spelled : Spelled) → IsGuard (guard_of spelled.l2g spelled.matches) → has_guard spelled ≡ true
guard_tested spelled is =
    rw (
      le-leb 12 spelled.l2g is.low,
      le-leb spelled.l2g 32 is.high,
      lt-ltb spelled.matches (2 ^ (32 - spelled.l2g)) is.fits,
    )
    refl

-- what the second test says where the first is wanted
second_of : (first second : Bool) → first ≡ true → (not first || second) ≡ true → second ≡ true
second_of true second wanted either = either
second_of false second wanted either = absurd (true≢false (sym wanted))

-- what is spelled is a capability, where its number, its guard and its offset are in range
pub cap_tested : (spelled : Spelled) → IsSpelled spelled → spelled.object < object_limit spelled.kind → IsGuard (guard_of spelled.l2g spelled.matches) → is_aligned spelled ≡ true → IsCapability (meant spelled)
cap_tested spelled is below guard aligned =
    record {
      restr = is.restr;
      count = (limits spelled.kind).count_positive;
      guard = guard;
      unguarded = is.unguarded;
      object = below;
      aligned = λ window. eqb-true _ _ (second_of (is_window spelled.kind) (spelled.object % 2 ^ spelled.l2g == 0) window aligned);
      payload = is.payload;
      slot = is.slot;
    }
