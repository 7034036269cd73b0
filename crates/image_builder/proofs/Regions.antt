-- The slots of a region, one after the other.
use Rattle.std.proofs.Common.{◌≡◌, ℕ, suc, ◌+◌, ◌-◌, ◌≢◌, ◌⊎◌, ◌==◌, ◌&&◌, eqb, Bool, true, false, if◌then◌else◌, Some, None, refl, sym, ap, ◌∙◌, inl, inr, arith}
use Rattle.std.specs.Prelude.{unwrap_or}
use Rattle.std.proofs.lemmas.Bool.Decides.{eqb_tells, nat_tests}
use Rattle.cap_format.specs.Capability.{Capability}
use Rattle.cap_format.specs.declared.restr.Restr.{Restr}
use Rattle.object_store.specs.Store.{Store}
use Rattle.listing_read.specs.declared.statement.Statement.TheVariants.{GptSlot, Region}
use Rattle.image_builder.specs.Given.{region_cap, is_among, slot_given}
use Rattle.image_builder.specs.Assigned.{with_slot_of, with_region}

-- one slot more
with_region-more : (s : Store) (gpt slot page restr n : ℕ) → with_region s gpt slot page restr (n + 1) ≡ with_slot_of (with_region s gpt slot page restr n) gpt (slot + n) (region_cap (page + n) restr)
unfolding with_region
with_region-more s gpt slot page restr n = let e : n + 1 ≡ suc n = omega arith in rw e refl

-- the same of objects that are so far
pub region_further : (s so_far new : Store) (gpt slot page restr n : ℕ) (cap : Capability) → so_far ≡ with_region s gpt slot page restr n → cap ≡ region_cap (page + n) restr → new ≡ with_slot_of so_far gpt (slot + n) cap → new ≡ with_region s gpt slot page restr (n + 1)
region_further s so_far new gpt slot page restr n cap before is done =
    done
    ∙ ap (λ (t : Store). with_slot_of t gpt (slot + n) cap) before
    ∙ ap (λ c. with_slot_of (with_region s gpt slot page restr n) gpt (slot + n) c) is
    ∙ sym (with_region-more s gpt slot page restr n)

-- one slot is none of no slots
is_among-none : (slot i : ℕ) → is_among slot 0 i ≡ false
is_among-none slot i = grind (arith, nat_tests)

-- of one slot more it is one, if it is that or one of the others
is_among-more : (slot n i : ℕ) → eqb (slot + n) i ≡ false → is_among slot (suc n) i ≡ is_among slot n i
is_among-more slot n i other = grind (arith, nat_tests)

is_among-last : (slot n i : ℕ) → slot + n ≡ i → is_among slot (suc n) i ≡ true
is_among-last slot n i same = grind (arith, nat_tests)

-- what a region gives slot `i` of its own GPT and of another
module _ (g i slot n page : ℕ) (restr : Restr) (old : Capability) where
  pub region_more : (gpt : ℕ) → unwrap_or (slot_given g i (GptSlot gpt (slot + n) (region_cap (page + n) restr.0))) (unwrap_or (slot_given g i (Region gpt slot n page restr)) old) ≡ unwrap_or (slot_given g i (Region gpt slot (suc n) page restr)) old
  region_more gpt = by (eqb gpt g) (eqb_tells (slot + n) i)
    where
      by : (b : Bool) → ((eqb (slot + n) i ≡ true) × (slot + n ≡ i)) ⊎ ((eqb (slot + n) i ≡ false) × (slot + n ≢ i)) → unwrap_or (if b && (slot + n == i) then Some (region_cap (page + n) restr.0) else None) (unwrap_or (if b && is_among slot n i then Some (region_cap (page + (i - slot)) restr.0) else None) old) ≡ unwrap_or (if b && is_among slot (suc n) i then Some (region_cap (page + (i - slot)) restr.0) else None) old
      by false tells = refl
      by true (inl (t, same)) =
          let far : page + n ≡ page + (i - slot) = omega arith in
          rw (t, is_among-last slot n i same, far) refl
      by true (inr (t, other)) = rw (t, is_among-more slot n i t) refl

-- no slots
pub region_none : (gpt g i slot page : ℕ) (restr : Restr) → slot_given g i (Region gpt slot 0 page restr) ≡ None
region_none gpt g i slot page restr = by (eqb gpt g)
  where
    by : (b : Bool) → (if b && is_among slot 0 i then Some (region_cap (page + (i - slot)) restr.0) else None) ≡ None
    by true = rw (is_among-none slot i) refl
    by false = refl
