-- Tests of records, settled by which records are there.
use Rattle.std.proofs.Common.{◌≡◌, ◌⊎◌, inl, inr, ◌+◌, Bool, true, false, not, ◌&&◌, ◌||◌, if◌then◌else◌, List, [], ◌∷◌, length, refl, sym, ap, ◌∙◌}
use Rattle.std.specs.List.{list_any}
use Rattle.depend_table.specs.Depend.{Adds, Depend, Takes, has, same}
use Rattle.depend_table.proofs.Members.{has-added, has-added_cases, has-added_itself, has-taken_itself, same_itself, same_tells}
use Rattle.depend_table.proofs.Tests.{either, or_left, or_right, same_tests}

-- a record that is there and passes the test
pub has_any : (p : Depend → Bool) (ds : List Depend) (d : Depend) → has ds d ≡ true → p d ≡ true → list_any p ds ≡ true
has_any p [] d there holds = absurd (cc)
has_any p (e ∷ ds) d there holds = on (either (same e d) (has ds d) there) (has_any p ds d)
  where
    on : (same e d ≡ true) ⊎ (has ds d ≡ true) → (has ds d ≡ true → p d ≡ true → list_any p ds ≡ true) → list_any p (e ∷ ds) ≡ true
    on (inl here) later = or_left (p e) (list_any p ds) (ap p (same_tells e d here) ∙ holds)
    on (inr there) later = or_right (p e) (list_any p ds) (later there holds)

-- where some record passes the test, one that is there does
pub any_has : (p : Depend → Bool) (ds : List Depend) → list_any p ds ≡ true → (d : Depend) × ((has ds d ≡ true) × (p d ≡ true))
any_has p [] holds = absurd (cc)
any_has p (e ∷ ds) holds = on (either (p e) (list_any p ds) holds) (any_has p ds)
  where
    on : (p e ≡ true) ⊎ (list_any p ds ≡ true) → (list_any p ds ≡ true → (d : Depend) × ((has ds d ≡ true) × (p d ≡ true))) → (d : Depend) × ((has (e ∷ ds) d ≡ true) × (p d ≡ true))
    on (inl here) later = (e, (or_left (same e e) (has ds e) (same_itself e), here))
    on (inr there) later = let next = later there in (next.0, (or_right (same e next.0) (has ds next.0) next.1.0, next.1.1))

-- with a record more
pub any-added : (p : Depend → Bool) (old new : List Depend) (d : Depend) → Adds old new d → list_any p new ≡ (p d || list_any p old)
any-added p old new d adds = same_tests (list_any p new) (p d || list_any p old) to from
  where
    to : list_any p new ≡ true → (p d || list_any p old) ≡ true
    to holds =
        let found = any_has p new holds in
        elim (has-added_cases old new d found.0 adds found.1.0) [
          | inl was ↦ or_right (p d) (list_any p old) (has_any p old found.0 was found.1.1)
          | inr is ↦ or_left (p d) (list_any p old) (ap p (sym is) ∙ found.1.1)
        ]

    from : (p d || list_any p old) ≡ true → list_any p new ≡ true
    from holds = elim (either (p d) (list_any p old) holds) [
      | inl here ↦ has_any p new d (has-added_itself old new d adds) here
      | inr there ↦ let found = any_has p old there in has_any p new found.0 (has-added old new d found.0 adds found.1.0) found.1.1
    ]

-- what was taken makes the old records again
pub adds-taken : (old new : List Depend) (d : Depend) → Takes old new d → Adds new old d
adds-taken old new d takes = record { records = λ e. records e (same d e) refl; count = count (has new d) (has-taken_itself old new d takes) }
  where
    records : (e : Depend) (b : Bool) → same d e ≡ b → has old e ≡ (b || has new e)
    records e true is = ap (has old) (sym (same_tells d e is)) ∙ takes.there
    records e false is = sym (takes.records e ∙ ap (λ (b : Bool). not b && has old e) is)

    count : (b : Bool) → b ≡ false → length old ≡ (if b then length new else length new + 1)
    count true is = absurd (cc)
    count false is = sym takes.count
