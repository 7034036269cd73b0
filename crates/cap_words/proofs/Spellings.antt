-- That what a word spells keeps the ranges of its kind.
use Rattle.std.proofs.Common.{ℕ, ◌≡◌, ◌<◌, true, false, refl, sym, ap, ◌∙◌, arith, if◌then◌else◌}
use Rattle.std.proofs.lemmas.Bool.{true≢false}
use Rattle.cap_format.specs.declared.kind.CapKind.{CapKind}
use Rattle.cap_format.specs.declared.kind.CapKind.TheVariants.{LocalWindow, Entry}
use Rattle.cap_format.specs.Kind.{is_counted, is_memory, object_limit, payload_limit, restr_limit, slot_limit}
use Rattle.cap_words.specs.declared.spelling.Spelled.{Spelled}
use Rattle.cap_words.specs.declared.spelling.Guarded.{Guarded}
use Rattle.cap_words.specs.Spelling.{named, behind, IsSpelled}

-- every kind may have no restriction
positive_restr : (kind : CapKind) → 0 < restr_limit kind
positive_restr kind = elim (is_memory kind) as (λ b. 0 < (if b then 32 else 1)) [ true ↦ omega arith | false ↦ omega arith ]

-- a payload of 0
positive_payload : (kind : CapKind) → 0 < payload_limit kind
positive_payload Entry = omega arith
positive_payload _ = omega arith

-- and slot 0
positive_slot : (kind : CapKind) → 0 < slot_limit kind
positive_slot LocalWindow = omega arith
positive_slot _ = omega arith

-- a capability without guard and restrictions
pub IsSpelled_named : (kind : CapKind) (object : ℕ) → (is_counted kind ≡ false → object < object_limit kind) → IsSpelled (named kind object)
IsSpelled_named kind object fits =
    record {
      restr = positive_restr kind;
      unguarded = λ _. refl;
      object = fits;
      name = λ _. refl;
      payload = positive_payload kind;
      slot = positive_slot kind;
    }

-- the same behind a guard
pub IsSpelled_behind : (guarded : Guarded) (spelled : Spelled) → is_memory spelled.kind ≡ true → guarded.restr < 32 → IsSpelled spelled → IsSpelled (behind guarded spelled)
IsSpelled_behind guarded spelled memory below is =
    let limit : restr_limit spelled.kind ≡ 32 = ap (λ b. if b then 32 else 1) memory in
    record {
      restr = omega (arith, limit, below);
      unguarded = λ plain. absurd (true≢false (sym memory ∙ plain));
      object = is.object;
      name = is.name;
      payload = is.payload;
      slot = is.slot;
    }
