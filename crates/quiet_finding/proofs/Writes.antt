-- Which pages are written by capabilities, one after the other.
use Rattle.std.proofs.Common.{◌≡◌, ℕ, suc, ◌<◌, ◌==◌, Bool, true, false, not, ◌&&◌, ◌||◌, length, refl, sym, ◌∙◌, ap, subst}
use Rattle.std.proofs.lemmas.List.{length-set}
use Rattle.cap_format.specs.declared.kind.CapKind.{CapKind}
use Rattle.cap_format.specs.declared.kind.CapKind.TheVariants.{Page, Range}
use Rattle.cap_format.specs.Guard.{GuardValue}
use Rattle.cap_format.specs.Capability.{Capability, capability}
use Rattle.cap_format.specs.Weakening.{is_harmless}
use Rattle.quiet_runs.specs.Finding.{is_below, is_range, may_write}
use Rattle.quiet_finding.specs.Passing.{Finds}
use Rattle.quiet_finding.specs.Writing.{WritesAfter, WritingValue, after_writing_kind, after_writing, writes_page}
use Rattle.quiet_finding.proofs.After.{at-marked}
use Rattle.quiet_finding.proofs.Joining.{or-assoc, or-false}
use Rattle.quiet_finding.proofs.Folding.{is_below-suc, is_below-zero}

-- ---- one capability

and-true : (b : Bool) → (b && true) ≡ b
and-true true = refl
and-true false = refl

and-false : (b : Bool) → (b && false) ≡ false
and-false true = refl
and-false false = refl

or-true : (b : Bool) → true ≡ (b || true)
or-true true = refl
or-true false = refl

module _ (w : WritingValue) where
  same-page : (n : ℕ) → writes_page w n ≡ (writes_page w n || false)
  same-page n = sym (or-false (writes_page w n))

  same-range : w.range ≡ (w.range || false)
  same-range = sym (or-false w.range)

  -- a capability to a page, which is harmless or not
  module _ (object : ℕ) where
    page-count : (harmless : Bool) → length (after_writing_kind Page object harmless w).pages ≡ length w.pages
    page-count true = refl
    page-count false = length-set w.pages object true

    page-written : (harmless : Bool) (n : ℕ) → n < length w.pages
        → writes_page (after_writing_kind Page object harmless w) n ≡ (writes_page w n || ((object == n) && not harmless))
    page-written true n lt = same-page n ∙ ap (λ (b : Bool). writes_page w n || b) (sym (and-false (object == n)))
    page-written false n lt = at-marked w.pages object n lt ∙ ap (λ (b : Bool). writes_page w n || b) (sym (and-true (object == n)))

    page-range : (harmless : Bool) → (after_writing_kind Page object harmless w).range ≡ (w.range || false)
    page-range true = same-range
    page-range false = same-range

  by_fields : (kind : CapKind) (restr count : ℕ) (guard : GuardValue) (object payload slot : ℕ) → let c = capability kind restr count guard object payload slot in
      WritesAfter (λ test. test c) w (after_writing c w)
  by_fields Page restr count guard object payload slot =
      let harmless = is_harmless (capability Page restr count guard object payload slot) in
      record {
        count = page-count object harmless;
        pages = λ n lt. page-written object harmless n lt;
        range = page-range object harmless;
      }
  by_fields Range restr count guard object payload slot = record { count = refl; pages = λ n lt. same-page n; range = or-true w.range }
  by_fields _ restr count guard object payload slot = record { count = refl; pages = λ n lt. same-page n; range = same-range }

  pub writes-cap : (c : Capability) → WritesAfter (λ test. test c) w (after_writing c w)
  writes-cap c = by_fields c.kind c.restr c.count c.guard c.object c.payload c.slot

-- ---- several

-- no capability changes nothing
pub writes-none : (g : (Capability → Bool) → ℕ → Bool) (w : WritingValue) → WritesAfter (λ test. is_below (g test) 0) w w
writes-none g w = record {
  count = refl;
  pages = λ n lt. same-page w n ∙ ap (λ (b : Bool). writes_page w n || b) (sym (is_below-zero _));
  range = same-range w ∙ ap (λ (b : Bool). w.range || b) (sym (is_below-zero _));
}

-- capabilities after others
pub writes-then : (f g : Finds) (old mid new : WritingValue) → WritesAfter f old mid → WritesAfter g mid new → WritesAfter (λ test. f test || g test) old new
writes-then f g old mid new first second = record {
  count = second.count ∙ first.count;
  pages = λ n lt. second.pages n (subst (λ (m : ℕ). n < m) (sym first.count) lt)
      ∙ (ap (λ (x : Bool). x || g (may_write n)) (first.pages n lt) ∙ or-assoc (writes_page old n) (f (may_write n)) (g (may_write n)));
  range = second.range
      ∙ (ap (λ (x : Bool). x || g (λ c. is_range c.kind)) first.range ∙ or-assoc old.range (f (λ c. is_range c.kind)) (g (λ c. is_range c.kind)));
}

-- one more capability after those before it
pub writes-more : (g : (Capability → Bool) → ℕ → Bool) (i next : ℕ) (old mid new : WritingValue) → next ≡ suc i
    → WritesAfter (λ test. is_below (g test) i) old mid
    → WritesAfter (λ test. g test i) mid new
    → WritesAfter (λ test. is_below (g test) next) old new
writes-more g i next old mid new is first second =
    let both = writes-then (λ test. is_below (g test) i) (λ test. g test i) old mid new first second in
    subst (λ (m : ℕ). WritesAfter (λ test. is_below (g test) m) old new) (sym is) (record {
      count = both.count;
      pages = λ n lt. both.pages n lt ∙ ap (λ (x : Bool). writes_page old n || x) (sym (is_below-suc _ i));
      range = both.range ∙ ap (λ (x : Bool). old.range || x) (sym (is_below-suc _ i));
    })
