-- Marks, place by place, and by what capabilities mean.
use Rattle.std.proofs.Common.{◌≡◌, ◌+◌, ◌∙◌, ℕ, zero, suc, Bool, true, false, refl, sym, ap, ap₂, add-one}
use Rattle.cap_format.specs.declared.kind.CapKind.{CapKind}
use Rattle.cap_format.specs.declared.kind.CapKind.TheVariants.{CapPage, Gpt, Endpoint, Process}
use Rattle.cap_format.specs.Capability.{Capability}
use Rattle.object_store.specs.Meaning.{is_live, live, meaning, state_map}
use Rattle.object_store.specs.Store.{Items, Store, size_of}
use Rattle.object_store.specs.Places.{cap_in, places_in}
use Rattle.confine_check.proofs.Found.{cap_in-state_map}
use Rattle.separation_policy.specs.Policy.{PolicyValue, domain_of}
use Rattle.separation_check.specs.Marks.{all_marks, both_marks, kind_marks, marks_below, marks_by, no_marks, object_marks}
use Rattle.separation_check.specs.Crossings.{stored_cap}
use Rattle.separation_check.specs.declared.marks.Marks.{Marks}

pub marks_below-none : (f : ℕ → Marks) → marks_below f 0 ≡ no_marks
unfolding marks_below
marks_below-none f = refl

pub marks_below-more : (f : ℕ → Marks) (n : ℕ) → marks_below f (n + 1) ≡ both_marks (marks_below f n) (f n)
unfolding marks_below
marks_below-more f n = ap (marks_below f) (add-one n)

-- one more, as a loop counts
pub one-mark-more : (f : ℕ → Marks) (n : ℕ) (so_far one after : Marks) → so_far ≡ marks_below f n → one ≡ f n → after ≡ both_marks so_far one → after ≡ marks_below f (n + 1)
one-mark-more f n so_far one after is more joined = joined ∙ (ap₂ both_marks is more ∙ sym (marks_below-more f n))

marks_below-same : (f g : ℕ → Marks) → ((n : ℕ) → f n ≡ g n) → (n : ℕ) → marks_below f n ≡ marks_below g n
unfolding marks_below
marks_below-same f g same zero = refl
marks_below-same f g same (suc n) = ap₂ both_marks (marks_below-same f g same n) (same n)

-- ---- by what capabilities mean

-- a capability says as much as what it means
by-meaning : (o : Items) (domain : ℕ) (c : Capability) → marks_by domain (meaning o c) ≡ marks_by domain (live o c)
by-meaning o domain c = by (is_live o c) refl
  where
    by : (b : Bool) → is_live o c ≡ b → marks_by domain (meaning o c) ≡ marks_by domain (live o c)
    by true is = rw is refl
    by false is = rw is refl

module _ (policy : PolicyValue) (s : Store) where
  kind-meant : (kind : CapKind) → kind_marks policy (cap_in (state_map s)) (state_map s) kind ≡ kind_marks policy (stored_cap s) s kind
  kind-meant kind =
      ap (marks_below (object_marks policy (cap_in (state_map s)) kind)) (size-meant kind)
      ∙ marks_below-same _ _ (λ n. marks_below-same _ _ (λ i. ap (marks_by (domain_of policy kind n)) (cap_in-state_map s kind n i) ∙ by-meaning s.items (domain_of policy kind n) (cap_in s kind n i)) (places_in kind))
      (size_of s.items kind)
    where
      size-meant : (kind : CapKind) → size_of (state_map s).items kind ≡ size_of s.items kind
      size-meant kind = refl

  -- so all objects do
  pub marks-meant : all_marks policy (cap_in (state_map s)) (state_map s) ≡ all_marks policy (stored_cap s) s
  marks-meant = ap₂ both_marks (kind-meant CapPage) (ap₂ both_marks (kind-meant Gpt) (ap₂ both_marks (kind-meant Endpoint) (kind-meant Process)))
