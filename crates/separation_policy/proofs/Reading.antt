-- Who reads whom, who is in whose view, and whom those write that one reads: what is decided of a policy.
use Rattle.std.proofs.Common.{◌≡◌, ℕ, zero, suc, ◌<◌, ◌≤◌, ◌==◌, ◌&&◌, ◌||◌, inl, inr, Bool, true, false, length, refl, sym, ◌∙◌, ap, subst, arith}
use mathlib.Core.Path.{fun_ext}
use Rattle.std.proofs.lemmas.Bool.{cases_lt, ltb-true, or_cases, or_left, or_right, and_parts}
use Rattle.std.proofs.lemmas.List.{get_or_past}
use Rattle.std.proofs.lemmas.Nat.Bits.{bit_at-zero}
use Rattle.separation_policy.specs.declared.policy.Domain.{Domain}
use Rattle.separation_policy.specs.DomainSet.{has_domain}
use Rattle.separation_policy.specs.Policy.{PolicyValue, unmade, domain_at, may_read, may_write, may_learn, Reads, ReadsWriter, Views, reach_below, sees, written_below, sees_written, views}
use Rattle.separation_policy.specs.Policy.Reach.{Itself, Onward}
use Rattle.separation_policy.specs.Laws.{ReadsLaw, WriterLaw, ViewsLaw, PlainViewLaw}
use Rattle.separation_policy.proofs.Reaching.{both, found-reach, reach-found, below-itself, onward-count, past-itself, leads-count}

or_false : (x y : Bool) → x ≡ false → y ≡ false → (x || y) ≡ false
or_false x y a b = ap (λ (v : Bool). v || y) a ∙ b

and_false : (x y : Bool) → y ≡ false → (x && y) ≡ false
and_false true y b = b
and_false false y b = refl

module _ (policy : PolicyValue) where
  abbrev count : ℕ
  count = length policy.domains

  -- a domain that was never made may do nothing
  past-unmade : (m : ℕ) → count ≤ m → domain_at policy m ≡ unmade
  past-unmade m past = get_or_past policy.domains m unmade past

  unmade_reads : (m b : ℕ) → count ≤ m → may_read policy m b ≡ false
  unmade_reads m b past = ap (λ (d : Domain). has_domain d.reads b) (past-unmade m past) ∙ ap (λ (n : ℕ). n == 1) (bit_at-zero b)

  pub unmade-writes : (m b : ℕ) → count ≤ m → may_write policy m b ≡ false
  unmade-writes m b past = and_false _ _ (ap (λ (d : Domain). has_domain d.writes b) (past-unmade m past) ∙ ap (λ (n : ℕ). n == 1) (bit_at-zero b))

  -- and is written by none
  pub written-made : (a b : ℕ) → may_write policy a b ≡ true → b < count
  written-made a b may = ltb-true b count (and_parts _ _ may).0

  unwritten : (a b : ℕ) → count ≤ b → may_write policy a b ≡ false
  unwritten a b past = by (may_write policy a b) refl
    where
      by : (x : Bool) → may_write policy a b ≡ x → x ≡ false
      by true e = let lt = written-made a b e in absurd (omega (arith, lt, past))
      by false e = refl

  pub unmade_learns : (m b : ℕ) → count ≤ m → may_learn policy m b ≡ false
  unmade_learns m b past = or_false _ _ (unmade_reads m b past) (or_false _ _ (unmade-writes m b past) (unwritten b m past))

  -- ---- reading

  pub reads-seen : (a b : ℕ) → Reads policy a b → sees policy a b ≡ true
  reads-seen a b reads = reach-found (may_read policy) count unmade_reads a b reads

  pub seen-reads : (a b : ℕ) → sees policy a b ≡ true → Reads policy a b
  seen-reads a b e = found-reach (may_read policy) count a b e

  pub sees-itself : (a : ℕ) → sees policy a a ≡ true
  sees-itself a = below-itself (may_read policy) count a

  pub sees-then : (a m b : ℕ) → sees policy a m ≡ true → sees policy m b ≡ true → sees policy a b ≡ true
  sees-then a m b to on = onward-count (may_read policy) count unmade_reads a m b to on

  pub unmade-sees : (m b : ℕ) → count ≤ m → sees policy m b ≡ true → m ≡ b
  unmade-sees m b past e = past-itself (may_read policy) count unmade_reads count m b past e

  -- ---- views

  pub views-found : (a b : ℕ) → Views policy a b → views policy a b ≡ true
  views-found a b reach = reach-found (may_learn policy) count unmade_learns a b reach

  pub found-views : (a b : ℕ) → views policy a b ≡ true → Views policy a b
  found-views a b e = found-reach (may_learn policy) count a b e

  pub views-itself : (a : ℕ) → views policy a a ≡ true
  views-itself a = below-itself (may_learn policy) count a

  pub views-then : (a m b : ℕ) → views policy a m ≡ true → views policy m b ≡ true → views policy a b ≡ true
  views-then a m b to on = onward-count (may_learn policy) count unmade_learns a m b to on

  pub unmade-views : (m b : ℕ) → count ≤ m → views policy m b ≡ true → m ≡ b
  unmade-views m b past e = past-itself (may_learn policy) count unmade_learns count m b past e

  learns : (a b : ℕ) → may_learn policy a b ≡ true → views policy a b ≡ true
  learns a b may = leads-count (may_learn policy) count unmade_learns a b may

  -- whatever one may write is in his view
  pub writes-view : (a b : ℕ) → may_write policy a b ≡ true → views policy a b ≡ true
  writes-view a b may = learns a b (or_right (may_read policy a b) _ (or_left (may_write policy a b) _ may))

  -- and whoever may write him
  pub written-view : (a b : ℕ) → may_write policy b a ≡ true → views policy a b ≡ true
  written-view a b may = learns a b (or_right (may_read policy a b) _ (or_right (may_write policy a b) _ may))

  -- and whatever he reads
  view_of : {a b : ℕ} → Reads policy a b → views policy a b ≡ true
  view_of (Itself a) = views-itself a
  view_of (Onward a m b may rest) = views-then a m b (learns a m (or_left (may_read policy a m) _ may)) (view_of rest)

  pub reads-view : (a b : ℕ) → Reads policy a b → views policy a b ≡ true
  reads-view a b reads = view_of reads

  -- ---- who is written by those that one reads

  written_zero : (a d : ℕ) → written_below policy zero a d ≡ false
  unfolding written_below
  written_zero a d = refl

  pub written-suc : (k a d : ℕ) → written_below policy (suc k) a d ≡ (written_below policy k a d || (sees policy a k && may_write policy k d))
  unfolding written_below
  written-suc k a d = refl

  pub written-none : (a d : ℕ) → written_below policy 0 a d ≡ false
  written-none a d = written_zero a d

  writer_of : (k a d : ℕ) → written_below policy k a d ≡ true → ReadsWriter policy a d
  writer_of zero a d e = let no = written_zero a d in absurd (cc (e, no))
  writer_of (suc k) a d e = elim (or_cases (written_below policy k a d) (sees policy a k && may_write policy k d) (sym (written-suc k a d) ∙ e)) [
    | inl before ↦ writer_of k a d before
    | inr here ↦ let parts = and_parts (sees policy a k) (may_write policy k d) here in
        record { by = k; reads = seen-reads a k parts.0; writes = parts.1 }
  ]

  of_writer : (k a b d : ℕ) → b < k → sees policy a b ≡ true → may_write policy b d ≡ true → written_below policy k a d ≡ true
  of_writer zero a b d lt saw writes = absurd (omega (arith, lt))
  of_writer (suc k) a b d lt saw writes = written-suc k a d ∙ elim (cases_lt b k) [
    | inl lower ↦ or_left (written_below policy k a d) _ (of_writer k a b d lower saw writes)
    | inr here ↦
        let same : b ≡ k = omega (arith, lt, here) in
        or_right (written_below policy k a d) _ (subst (λ (n : ℕ). (sees policy a n && may_write policy n d) ≡ true) same (both _ _ saw writes))
  ]

  pub seen-writer : (a d : ℕ) → sees_written policy a d ≡ true → ReadsWriter policy a d
  seen-writer a d e = writer_of count a d e

  -- who writes was made
  writer_made : (b d : ℕ) → may_write policy b d ≡ true → b < count
  writer_made b d may = elim (cases_lt b count) [
    | inl there ↦ there
    | inr past ↦ let no = unmade-writes b d past in absurd (cc (may, no))
  ]

  pub writer-seen : (a d : ℕ) → ReadsWriter policy a d → sees_written policy a d ≡ true
  writer-seen a d writer = of_writer count a writer.by d (writer_made writer.by d writer.writes) (reads-seen a writer.by writer.reads) writer.writes

  -- whoever is so written is in the view
  pub writer-view : (a d : ℕ) → ReadsWriter policy a d → views policy a d ≡ true
  writer-view a d writer = views-then a writer.by d (reads-view a writer.by writer.reads) (writes-view writer.by d writer.writes)

-- the law of closures
pub reads_law : ReadsLaw
reads_law policy a b = (seen-reads policy a b, reads-seen policy a b)

-- the law of writers
pub writer_law : WriterLaw
writer_law policy a d = (seen-writer policy a d, writer-seen policy a d)

-- the law of views
pub views_law : ViewsLaw
views_law policy a b = (found-views policy a b, views-found policy a b)

-- where nobody writes, the view is what is read
pub plain_view_law : PlainViewLaw
plain_view_law policy none a b =
    ap (λ (leads : ℕ → ℕ → Bool). reach_below leads (length policy.domains) a b) (fun_ext (λ x. fun_ext (λ y. alone x y)))
  where
    keeps : (x : Bool) → (x || false) ≡ x
    keeps true = refl
    keeps false = refl

    alone : (x y : ℕ) → may_learn policy x y ≡ may_read policy x y
    alone x y = ap (λ (v : Bool). may_read policy x y || v) (or_false _ _ (none x y) (none y x)) ∙ keeps (may_read policy x y)
