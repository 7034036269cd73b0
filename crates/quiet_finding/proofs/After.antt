-- The tables after capabilities, one after the other.
use Rattle.std.proofs.Common.{◌≡◌, ◌≢◌, ℕ, suc, ◌<◌, ◌==◌, inl, inr, Bool, true, false, ◌||◌, if◌then◌else◌, List, length, get_or, set, refl, sym, ◌∙◌, ap, subst, get_or-set_same, get_or-set_other}
use Rattle.std.proofs.lemmas.Bool.Decides.{eqb_tells}
use Rattle.std.proofs.lemmas.List.{length-set}
use Rattle.cap_format.specs.declared.kind.CapKind.{CapKind}
use Rattle.cap_format.specs.declared.kind.CapKind.TheVariants.{Page, Gpt, Window, Process, Range}
use Rattle.cap_format.specs.Guard.{GuardValue}
use Rattle.cap_format.specs.Capability.{Capability, capability}
use Rattle.quiet_runs.specs.declared.reached_by.ReachedBy.{ReachedBy}
use Rattle.quiet_runs.specs.declared.reached_by.ReachedBy.TheVariants.{Nobody}
use Rattle.quiet_runs.specs.Reaching.{joined, joined_below, names}
use Rattle.quiet_runs.specs.Finding.{is_below, is_far_reaching}
use Rattle.quiet_finding.specs.Comers.{ComersValue, to_gpt, to_page, names_process}
use Rattle.quiet_finding.specs.Passing.{IsAfter, Joins, Finds, after_cap, by_cap, joined_at}
use Rattle.quiet_finding.proofs.Joining.{joined-nobody, joined-assoc, or-false, or-assoc}
use Rattle.quiet_finding.proofs.Folding.{joined_below-zero, joined_below-suc, is_below-zero, is_below-suc}

-- ---- one entry

-- an entry is as it was, or others come to the object as well
pub at-joined_at : (table : List ReachedBy) (o n : ℕ) (by : ReachedBy) → n < length table
    → get_or (joined_at table o by) n Nobody ≡ joined (get_or table n Nobody) (if o == n then by else Nobody)
at-joined_at table o n by lt = elim (eqb_tells o n) [
  | inl here ↦
      let at : get_or (joined_at table n by) n Nobody ≡ joined (get_or table n Nobody) by = get_or-set_same table n (joined (get_or table n Nobody) by) Nobody lt in
      ap (λ (m : ℕ). get_or (joined_at table m by) n Nobody) here.1 ∙ (at ∙ ap (λ (b : Bool). joined (get_or table n Nobody) (if b then by else Nobody)) (sym here.0))
  | inr other ↦
      let apart : n ≢ o = λ e. other.1 (sym e) in
      get_or-set_other table o n (joined (get_or table o Nobody) by) Nobody apart
      ∙ (sym (joined-nobody (get_or table n Nobody)) ∙ ap (λ (b : Bool). joined (get_or table n Nobody) (if b then by else Nobody)) (sym other.0))
]

-- a process is named as before, or it is this one
pub at-marked : (table : List Bool) (o p : ℕ) → p < length table → get_or (set table o true) p false ≡ (get_or table p false || (o == p))
at-marked table o p lt = elim (eqb_tells o p) [
  | inl here ↦
      let at : get_or (set table p true) p false ≡ true = get_or-set_same table p true false lt in
      ap (λ (m : ℕ). get_or (set table m true) p false) here.1 ∙ (at ∙ (sym (or-true (get_or table p false)) ∙ ap (λ (b : Bool). get_or table p false || b) (sym here.0)))
  | inr other ↦
      let apart : p ≢ o = λ e. other.1 (sym e) in
      get_or-set_other table o p true false apart
      ∙ (sym (or-false (get_or table p false)) ∙ ap (λ (b : Bool). get_or table p false || b) (sym other.0))
]
  where
    or-true : (b : Bool) → (b || true) ≡ true
    or-true true = refl
    or-true false = refl

-- ---- one capability

module _ (by : ReachedBy) (r : ComersValue) where
  same-gpt : (n : ℕ) → to_gpt r n ≡ joined (to_gpt r n) Nobody
  same-gpt n = sym (joined-nobody (to_gpt r n))

  same-page : (n : ℕ) → to_page r n ≡ joined (to_page r n) Nobody
  same-page n = sym (joined-nobody (to_page r n))

  same-named : (p : ℕ) → names_process r p ≡ (names_process r p || false)
  same-named p = sym (or-false (names_process r p))

  by_fields : (kind : CapKind) (restr count : ℕ) (guard : GuardValue) (object payload slot : ℕ) → let c = capability kind restr count guard object payload slot in
      IsAfter (by_cap by c) (λ test. test c) r (after_cap c by r)
  by_fields Page restr count guard object payload slot = record {
    gpt_count = refl;
    page_count = length-set r.pages object (joined (to_page r object) by);
    process_count = refl;
    gpts = λ n lt. same-gpt n;
    pages = λ n lt. at-joined_at r.pages object n by lt;
    named = λ p lt. same-named p;
    far = sym (or-false r.far);
  }
  by_fields Gpt restr count guard object payload slot = record {
    gpt_count = length-set r.gpts object (joined (to_gpt r object) by);
    page_count = refl;
    process_count = refl;
    gpts = λ n lt. at-joined_at r.gpts object n by lt;
    pages = λ n lt. same-page n;
    named = λ p lt. same-named p;
    far = sym (or-false r.far);
  }
  by_fields Process restr count guard object payload slot = record {
    gpt_count = refl;
    page_count = refl;
    process_count = length-set r.named object true;
    gpts = λ n lt. same-gpt n;
    pages = λ n lt. same-page n;
    named = λ p lt. at-marked r.named object p lt;
    far = sym (or-false r.far);
  }
  by_fields Range restr count guard object payload slot = record {
    gpt_count = refl;
    page_count = refl;
    process_count = refl;
    gpts = λ n lt. same-gpt n;
    pages = λ n lt. same-page n;
    named = λ p lt. same-named p;
    far = by-true r.far;
  }
    where
      by-true : (b : Bool) → true ≡ (b || true)
      by-true true = refl
      by-true false = refl
  by_fields Window restr count guard object payload slot = record {
    gpt_count = refl;
    page_count = refl;
    process_count = refl;
    gpts = λ n lt. same-gpt n;
    pages = λ n lt. same-page n;
    named = λ p lt. same-named p;
    far = by-true r.far;
  }
    where
      by-true : (b : Bool) → true ≡ (b || true)
      by-true true = refl
      by-true false = refl
  by_fields _ restr count guard object payload slot = record {
    gpt_count = refl;
    page_count = refl;
    process_count = refl;
    gpts = λ n lt. same-gpt n;
    pages = λ n lt. same-page n;
    named = λ p lt. same-named p;
    far = sym (or-false r.far);
  }

  pub after-cap : (c : Capability) → IsAfter (by_cap by c) (λ test. test c) r (after_cap c by r)
  after-cap c = by_fields c.kind c.restr c.count c.guard c.object c.payload c.slot

-- ---- several

-- no capability changes nothing
pub after-none : (f : CapKind → ℕ → ℕ → ReachedBy) (g : (Capability → Bool) → ℕ → Bool) (r : ComersValue)
    → IsAfter (λ kind n. joined_below (f kind n) 0) (λ test. is_below (g test) 0) r r
after-none f g r = record {
  gpt_count = refl;
  page_count = refl;
  process_count = refl;
  gpts = λ n lt. same-gpt Nobody r n ∙ ap (λ (a : ReachedBy). joined (to_gpt r n) a) (sym (joined_below-zero (f Gpt n)));
  pages = λ n lt. same-page Nobody r n ∙ ap (λ (a : ReachedBy). joined (to_page r n) a) (sym (joined_below-zero (f Page n)));
  named = λ p lt. same-named Nobody r p ∙ ap (λ (b : Bool). names_process r p || b) (sym (is_below-zero _));
  far = sym (or-false r.far) ∙ ap (λ (b : Bool). r.far || b) (sym (is_below-zero _));
}

-- capabilities after others
pub after-then : (a b : Joins) (f g : Finds) (old mid new : ComersValue) → IsAfter a f old mid → IsAfter b g mid new
    → IsAfter (λ kind n. joined (a kind n) (b kind n)) (λ test. f test || g test) old new
after-then a b f g old mid new first second = record {
  gpt_count = second.gpt_count ∙ first.gpt_count;
  page_count = second.page_count ∙ first.page_count;
  process_count = second.process_count ∙ first.process_count;
  gpts = λ n lt. second.gpts n (subst (λ (m : ℕ). n < m) (sym first.gpt_count) lt)
      ∙ (ap (λ (x : ReachedBy). joined x (b Gpt n)) (first.gpts n lt) ∙ joined-assoc (to_gpt old n) (a Gpt n) (b Gpt n));
  pages = λ n lt. second.pages n (subst (λ (m : ℕ). n < m) (sym first.page_count) lt)
      ∙ (ap (λ (x : ReachedBy). joined x (b Page n)) (first.pages n lt) ∙ joined-assoc (to_page old n) (a Page n) (b Page n));
  named = λ p lt. second.named p (subst (λ (m : ℕ). p < m) (sym first.process_count) lt)
      ∙ (ap (λ (x : Bool). x || g (λ c. names c Process p)) (first.named p lt) ∙ or-assoc (names_process old p) (f (λ c. names c Process p)) (g (λ c. names c Process p)));
  far = second.far ∙ (ap (λ (x : Bool). x || g (λ c. is_far_reaching c.kind)) first.far ∙ or-assoc old.far (f (λ c. is_far_reaching c.kind)) (g (λ c. is_far_reaching c.kind)));
}

-- one more capability after those before it
pub after-more : (f : CapKind → ℕ → ℕ → ReachedBy) (g : (Capability → Bool) → ℕ → Bool) (i next : ℕ) (old mid new : ComersValue) → next ≡ suc i
    → IsAfter (λ kind n. joined_below (f kind n) i) (λ test. is_below (g test) i) old mid
    → IsAfter (λ kind n. f kind n i) (λ test. g test i) mid new
    → IsAfter (λ kind n. joined_below (f kind n) next) (λ test. is_below (g test) next) old new
after-more f g i next old mid new is first second =
    let both = after-then (λ kind n. joined_below (f kind n) i) (λ kind n. f kind n i) (λ test. is_below (g test) i) (λ test. g test i) old mid new first second in
    subst (λ (m : ℕ). IsAfter (λ kind n. joined_below (f kind n) m) (λ test. is_below (g test) m) old new) (sym is) (record {
      gpt_count = both.gpt_count;
      page_count = both.page_count;
      process_count = both.process_count;
      gpts = λ n lt. both.gpts n lt ∙ ap (λ (x : ReachedBy). joined (to_gpt old n) x) (sym (joined_below-suc (f Gpt n) i));
      pages = λ n lt. both.pages n lt ∙ ap (λ (x : ReachedBy). joined (to_page old n) x) (sym (joined_below-suc (f Page n) i));
      named = λ p lt. both.named p lt ∙ ap (λ (x : Bool). names_process old p || x) (sym (is_below-suc _ i));
      far = both.far ∙ ap (λ (x : Bool). old.far || x) (sym (is_below-suc _ i));
    })
