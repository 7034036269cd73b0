-- Rounds: who comes to an object through one GPT more.
use Rattle.std.proofs.Common.{◌≡◌, ℕ, zero, suc, ◌+◌, ◌-◌, ◌<◌, ◌≤◌, inl, inr, Bool, true, false, ◌||◌, if◌then◌else◌, List, length, get_or, map, replicate, refl, sym, ◌∙◌, ap, ap₂, subst, arith}
use Rattle.std.specs.List.{list_any}
use Rattle.std.proofs.lemmas.Bool.{cases_lt}
use Rattle.std.proofs.lemmas.List.{get_or-replicate, get_or_past, length-map, length-replicate}
use Rattle.cap_format.specs.declared.kind.CapKind.{CapKind}
use Rattle.cap_format.specs.declared.kind.CapKind.TheVariants.{Page, CapPage, Gpt, Process}
use Rattle.cap_format.specs.Capability.{Capability, null}
use Rattle.object_store.specs.declared.sizes.Sizes.{Sizes}
use Rattle.object_store.specs.Store.{Store, size_of, sizes_of, gpt_at, cappage_at}
use Rattle.object_store.specs.Meaning.{gpt_map, meaning, process_map, state_map}
use Rattle.object_store.specs.Places.{places_in}
use Rattle.confine_check.specs.Full.{AreFull}
use Rattle.quiet_runs.specs.declared.reached_by.ReachedBy.{ReachedBy}
use Rattle.quiet_runs.specs.declared.reached_by.ReachedBy.TheVariants.{Nobody, Alone, Several}
use Rattle.quiet_runs.specs.Reaching.{caps_of, held_by, joined, joined_below, names, reached_within, through}
use Rattle.quiet_runs.specs.Finding.{is_below, is_far_reaching, some_held}
use Rattle.quiet_finding.specs.Comers.{AreComers, ComersValue, to_gpt}
use Rattle.quiet_finding.specs.Passing.{IsAfter, IsOfHolders, IsWithin, by_objects, by_places, held_outside, holder_of, in_objects, in_places, nothing_reached}
use Rattle.quiet_finding.proofs.Joining.{joined-nobody, or-assoc}
use Rattle.quiet_finding.proofs.Folding.{is_below-false, is_below-same, joined_below-nobody, joined_below-same, through-places}
use Rattle.quiet_finding.proofs.Places.{cappage-long, gpt-long, places-any, places-nobody, places-through, places-unnamed, process-at, process-long}

-- nobody comes to anything by what nobody holds
through-nobody : (cs : List Capability) (kind : CapKind) (n : ℕ) → through Nobody cs kind n ≡ Nobody
through-nobody cs kind n =
    through-places Nobody cs kind n
    ∙ joined_below-nobody (λ i. if names (get_or cs i null) kind n then Nobody else Nobody) (length cs) (λ i lt. same (names (get_or cs i null) kind n))
  where
    same : (b : Bool) → (if b then Nobody else Nobody) ≡ Nobody
    same true = refl
    same false = refl

pub reached-zero : (s : Store) (kind : CapKind) (n : ℕ) → reached_within 0 s kind n ≡ held_by s kind n
unfolding reached_within
reached-zero s kind n = refl

pub reached-suc : (most : ℕ) (s : Store) (kind : CapKind) (n : ℕ) → reached_within (suc most) s kind n
    ≡ joined (held_by s kind n) (joined_below (λ g. through (reached_within most s Gpt g) (gpt_at s.items g).slots kind n) (length s.items.gpts))
unfolding reached_within
reached-suc most s kind n = refl

-- where nobody comes to anything, nobody comes to a GPT
pub nothing-gpt : (sizes : Sizes) (g : ℕ) → to_gpt (nothing_reached sizes) g ≡ Nobody
nothing-gpt sizes g = elim (cases_lt g sizes.gpts) [
  | inl there ↦ get_or-replicate sizes.gpts g Nobody Nobody there
  | inr past ↦ get_or_past (replicate sizes.gpts Nobody) g Nobody (omega (arith, past, length-replicate sizes.gpts Nobody))
]

-- ---- rounds that change nothing

module _ (s : Store) (k : ℕ) (same : (g : ℕ) → g < length s.items.gpts → reached_within (suc k) s Gpt g ≡ reached_within k s Gpt g) where
  -- one more is the same where those to GPTs are
  next-same : (j : ℕ) → ((g : ℕ) → g < length s.items.gpts → reached_within j s Gpt g ≡ reached_within k s Gpt g)
      → (kind : CapKind) (n : ℕ) → reached_within (suc j) s kind n ≡ reached_within (suc k) s kind n
  next-same j alike kind n =
      reached-suc j s kind n
      ∙ (ap (λ (a : ReachedBy). joined (held_by s kind n) a)
      (joined_below-same (λ g. through (reached_within j s Gpt g) (gpt_at s.items g).slots kind n) (λ g. through (reached_within k s Gpt g) (gpt_at s.items g).slots kind n) (length s.items.gpts)
      (λ g lt. ap (λ (a : ReachedBy). through a (gpt_at s.items g).slots kind n) (alike g lt)))
      ∙ sym (reached-suc k s kind n))

  gpts-stay : (d : ℕ) (g : ℕ) → g < length s.items.gpts → reached_within (d + k) s Gpt g ≡ reached_within k s Gpt g
  gpts-stay zero g lt = let none : 0 + k ≡ k = omega arith in ap (λ (j : ℕ). reached_within j s Gpt g) none
  gpts-stay (suc d) g lt =
      let one : suc d + k ≡ suc (d + k) = omega arith in
      ap (λ (j : ℕ). reached_within j s Gpt g) one ∙ (next-same (d + k) (gpts-stay d) Gpt g ∙ same g lt)

  -- all later rounds are the same
  pub rounds-stay : (m : ℕ) → suc k ≤ m → (kind : CapKind) (n : ℕ) → reached_within m s kind n ≡ reached_within (suc k) s kind n
  rounds-stay m lt kind n =
      let d : ℕ = m - suc k in
      let is : m ≡ suc (d + k) = omega arith in
      ap (λ (j : ℕ). reached_within j s kind n) is ∙ next-same (d + k) (gpts-stay d) kind n

-- ---- passes over all objects of a kind

module _ (s : Store) (full : AreFull s) where
  abbrev M : Store
  M = state_map s

  -- the map has as many objects
  process-count : size_of s.items Process ≡ length M.contents.processes
  process-count = sym (length-map s.contents.processes (process_map (meaning s.items)) ∙ full.is_store.sized.processes)

  cappage-count : size_of s.items CapPage ≡ length M.contents.cappages
  cappage-count = sym (length-map s.contents.cappages (map (meaning s.items)) ∙ full.is_store.sized.cappages)

  pub gpt-count : size_of s.items Gpt ≡ length M.items.gpts
  gpt-count = sym (length-map s.items.gpts (gpt_map (meaning s.items)) ∙ full.is_store.ranged.each)

  page-count : size_of s.items Page ≡ length M.contents.pages
  page-count = sym full.is_store.sized.pages

  module _ (last : ComersValue) (kind : CapKind) (n : ℕ) where
    pub by-processes : by_objects M last Process (size_of s.items Process) kind n ≡ joined_below (λ p. through (Alone p) (caps_of M p) kind n) (length M.contents.processes)
    by-processes =
        joined_below-same (λ p. by_places M (Alone p) Process p (places_in Process) kind n) (λ p. through (Alone p) (caps_of M p) kind n) (size_of s.items Process)
        (λ p lt. places-through M Process p (caps_of M p) (process-long s full p lt) (λ i place. process-at s full p i lt place) (Alone p) kind n)
        ∙ ap (joined_below (λ p. through (Alone p) (caps_of M p) kind n)) process-count

    pub by-cappages : by_objects M last CapPage (size_of s.items CapPage) kind n ≡ joined_below (λ c. through Several (cappage_at M c) kind n) (length M.contents.cappages)
    by-cappages =
        joined_below-same (λ c. by_places M Several CapPage c (places_in CapPage) kind n) (λ c. through Several (cappage_at M c) kind n) (size_of s.items CapPage)
        (λ c lt. places-through M CapPage c (cappage_at M c) (cappage-long s full c lt) (λ i place. refl) Several kind n)
        ∙ ap (joined_below (λ c. through Several (cappage_at M c) kind n)) cappage-count

    by-gpts : by_objects M last Gpt (size_of s.items Gpt) kind n ≡ joined_below (λ g. through (to_gpt last g) (gpt_at M.items g).slots kind n) (length M.items.gpts)
    by-gpts =
        joined_below-same (λ g. by_places M (to_gpt last g) Gpt g (places_in Gpt) kind n) (λ g. through (to_gpt last g) (gpt_at M.items g).slots kind n) (size_of s.items Gpt)
        (λ g lt. places-through M Gpt g (gpt_at M.items g).slots (gpt-long s full g lt) (λ i place. refl) (to_gpt last g) kind n)
        ∙ ap (joined_below (λ g. through (to_gpt last g) (gpt_at M.items g).slots kind n)) gpt-count

  module _ (test : Capability → Bool) where
    pub in-processes : in_objects M Process (size_of s.items Process) test ≡ is_below (λ p. list_any test (caps_of M p)) (length M.contents.processes)
    in-processes =
        is_below-same (λ p. in_places M Process p (places_in Process) test) (λ p. list_any test (caps_of M p)) (size_of s.items Process)
        (λ p lt. places-any M Process p (caps_of M p) (process-long s full p lt) (λ i place. process-at s full p i lt place) test)
        ∙ ap (is_below (λ p. list_any test (caps_of M p))) process-count

    pub in-cappages : in_objects M CapPage (size_of s.items CapPage) test ≡ is_below (λ c. list_any test (cappage_at M c)) (length M.contents.cappages)
    in-cappages =
        is_below-same (λ c. in_places M CapPage c (places_in CapPage) test) (λ c. list_any test (cappage_at M c)) (size_of s.items CapPage)
        (λ c lt. places-any M CapPage c (cappage_at M c) (cappage-long s full c lt) (λ i place. refl) test)
        ∙ ap (is_below (λ c. list_any test (cappage_at M c))) cappage-count

    pub in-gpts : in_objects M Gpt (size_of s.items Gpt) test ≡ is_below (λ g. list_any test (gpt_at M.items g).slots) (length M.items.gpts)
    in-gpts =
        is_below-same (λ g. in_places M Gpt g (places_in Gpt) test) (λ g. list_any test (gpt_at M.items g).slots) (size_of s.items Gpt)
        (λ g lt. places-any M Gpt g (gpt_at M.items g).slots (gpt-long s full g lt) (λ i place. refl) test)
        ∙ ap (is_below (λ g. list_any test (gpt_at M.items g).slots)) gpt-count

    -- outside of GPTs, or in them
    held-together : (held_outside M test || is_below (λ g. list_any test (gpt_at M.items g).slots) (length M.items.gpts)) ≡ some_held test M
    held-together =
        or-assoc (is_below (λ p. list_any test (caps_of M p)) (length M.contents.processes)) (is_below (λ c. list_any test (cappage_at M c)) (length M.contents.cappages))
        (is_below (λ g. list_any test (gpt_at M.items g).slots) (length M.items.gpts))

  -- ---- what is not there

  module _ (kind : CapKind) (n : ℕ) (past : size_of s.items kind ≤ n) where
    abbrev None : ComersValue
    None = nothing_reached (sizes_of s)

    objects-nobody : (holder : CapKind) (count : ℕ) → by_objects M None holder count kind n ≡ Nobody
    objects-nobody holder count =
        joined_below-nobody (λ o. by_places M (holder_of None holder o) holder o (places_in holder) kind n) count
        (λ o lt. places-nobody s kind n past (holder_of None holder o) holder o (places_in holder))

    held-nobody : held_by M kind n ≡ Nobody
    held-nobody =
        ap₂ (λ (a b : ReachedBy). joined a b)
        (sym (by-processes None kind n) ∙ objects-nobody Process (size_of s.items Process))
        (sym (by-cappages None kind n) ∙ objects-nobody CapPage (size_of s.items CapPage))

    pub reached-nobody : (most : ℕ) → reached_within most M kind n ≡ Nobody
    reached-nobody zero = reached-zero M kind n ∙ held-nobody
    reached-nobody (suc most) =
        reached-suc most M kind n
        ∙ ap₂ (λ (a b : ReachedBy). joined a b) held-nobody
        (joined_below-nobody (λ g. through (reached_within most M Gpt g) (gpt_at M.items g).slots kind n) (length M.items.gpts)
        (λ g lt. sym (places-through M Gpt g (gpt_at M.items g).slots (gpt-long s full g (subst (λ (m : ℕ). g < m) (sym gpt-count) lt)) (λ i place. refl) (reached_within most M Gpt g) kind n)
        ∙ places-nobody s kind n past (reached_within most M Gpt g) Gpt g (places_in Gpt)))

    objects-unnamed : (holder : CapKind) (count : ℕ) → in_objects M holder count (λ c. names c kind n) ≡ false
    objects-unnamed holder count =
        is_below-false (λ o. in_places M holder o (places_in holder) (λ c. names c kind n)) count (λ o lt. places-unnamed s kind n past holder o (places_in holder))

    pub held-unnamed : some_held (λ c. names c kind n) M ≡ false
    held-unnamed =
        ap₂ (λ (a b : Bool). a || b)
        (sym (in-processes (λ c. names c kind n)) ∙ objects-unnamed Process (size_of s.items Process))
        (ap₂ (λ (a b : Bool). a || b)
        (sym (in-cappages (λ c. names c kind n)) ∙ objects-unnamed CapPage (size_of s.items CapPage))
        (sym (in-gpts (λ c. names c kind n)) ∙ objects-unnamed Gpt (size_of s.items Gpt)))

  -- ---- the rounds

  -- processes and capability pages, by tables that were empty
  pub of-holders : (none mid base : ComersValue)
      → IsAfter (by_objects M none Process (size_of s.items Process)) (in_objects M Process (size_of s.items Process)) (nothing_reached (sizes_of s)) mid
      → IsAfter (by_objects M none CapPage (size_of s.items CapPage)) (in_objects M CapPage (size_of s.items CapPage)) mid base
      → IsOfHolders M base
  of-holders none mid base first second = record {
    gpt_count = second.gpt_count ∙ (first.gpt_count ∙ (empty-gpts ∙ gpt-count));
    page_count = second.page_count ∙ (first.page_count ∙ (empty-pages ∙ page-count));
    process_count = second.process_count ∙ (first.process_count ∙ (empty-named ∙ process-count));
    gpts = λ n lt.
        let size : n < size_of s.items Gpt = omega (arith, lt, gpt-count) in
        let at : n < length (replicate (size_of s.items Gpt) Nobody) = omega (arith, size, empty-gpts) in
        let at_mid : n < length mid.gpts = omega (arith, at, first.gpt_count) in
        let none_yet : get_or (replicate (size_of s.items Gpt) Nobody) n Nobody ≡ Nobody = get_or-replicate (size_of s.items Gpt) n Nobody Nobody size in
        second.gpts n at_mid
        ∙ ap₂ (λ (a b : ReachedBy). joined a b)
        (first.gpts n at ∙ (ap (λ (a : ReachedBy). joined a (by_objects M none Process (size_of s.items Process) Gpt n)) none_yet ∙ by-processes none Gpt n))
        (by-cappages none Gpt n);
    pages = λ n lt.
        let size : n < size_of s.items Page = omega (arith, lt, page-count) in
        let at : n < length (replicate (size_of s.items Page) Nobody) = omega (arith, size, empty-pages) in
        let at_mid : n < length mid.pages = omega (arith, at, first.page_count) in
        let none_yet : get_or (replicate (size_of s.items Page) Nobody) n Nobody ≡ Nobody = get_or-replicate (size_of s.items Page) n Nobody Nobody size in
        second.pages n at_mid
        ∙ ap₂ (λ (a b : ReachedBy). joined a b)
        (first.pages n at ∙ (ap (λ (a : ReachedBy). joined a (by_objects M none Process (size_of s.items Process) Page n)) none_yet ∙ by-processes none Page n))
        (by-cappages none Page n);
    named = λ p lt.
        let size : p < size_of s.items Process = omega (arith, lt, process-count) in
        let at : p < length (replicate (size_of s.items Process) false) = omega (arith, size, empty-named) in
        let at_mid : p < length mid.named = omega (arith, at, first.process_count) in
        let none_yet : get_or (replicate (size_of s.items Process) false) p false ≡ false = get_or-replicate (size_of s.items Process) p false false size in
        second.named p at_mid
        ∙ ap₂ (λ (a b : Bool). a || b)
        (first.named p at ∙ (ap (λ (a : Bool). a || in_objects M Process (size_of s.items Process) (λ c. names c Process p)) none_yet ∙ in-processes (λ c. names c Process p)))
        (in-cappages (λ c. names c Process p));
    far = second.far ∙ ap₂ (λ (a b : Bool). a || b) (first.far ∙ in-processes (λ c. is_far_reaching c.kind)) (in-cappages (λ c. is_far_reaching c.kind));
  }
    where
      empty-gpts : length (replicate (size_of s.items Gpt) Nobody) ≡ size_of s.items Gpt
      empty-gpts = length-replicate (size_of s.items Gpt) Nobody

      empty-pages : length (replicate (size_of s.items Page) Nobody) ≡ size_of s.items Page
      empty-pages = length-replicate (size_of s.items Page) Nobody

      empty-named : length (replicate (size_of s.items Process) false) ≡ size_of s.items Process
      empty-named = length-replicate (size_of s.items Process) false

  module _ (base last next : ComersValue) (of : IsOfHolders M base)
      (after : IsAfter (by_objects M last Gpt (size_of s.items Gpt)) (in_objects M Gpt (size_of s.items Gpt)) base next) where
    -- a round, by whoever came to a GPT before
    with-round : (most : ℕ) → ((kind : CapKind) (n : ℕ) → joined (held_by M kind n) (by_objects M last Gpt (size_of s.items Gpt) kind n) ≡ reached_within most M kind n) → IsWithin M most next
    with-round most all = record {
      gpt_count = after.gpt_count ∙ of.gpt_count;
      page_count = after.page_count ∙ of.page_count;
      process_count = after.process_count ∙ of.process_count;
      gpts = λ n lt. after.gpts n (subst (λ (m : ℕ). n < m) (sym of.gpt_count) lt)
          ∙ (ap (λ (a : ReachedBy). joined a (by_objects M last Gpt (size_of s.items Gpt) Gpt n)) (of.gpts n lt) ∙ all Gpt n);
      pages = λ n lt. after.pages n (subst (λ (m : ℕ). n < m) (sym of.page_count) lt)
          ∙ (ap (λ (a : ReachedBy). joined a (by_objects M last Gpt (size_of s.items Gpt) Page n)) (of.pages n lt) ∙ all Page n);
      named = λ p lt. after.named p (subst (λ (m : ℕ). p < m) (sym of.process_count) lt)
          ∙ (ap₂ (λ (a b : Bool). a || b) (of.named p lt) (in-gpts (λ c. names c Process p)) ∙ held-together (λ c. names c Process p));
      far = after.far ∙ (ap₂ (λ (a b : Bool). a || b) of.far (in-gpts (λ c. is_far_reaching c.kind)) ∙ held-together (λ c. is_far_reaching c.kind));
    }

    -- the first, by nobody
    pub first-round : ((g : ℕ) → to_gpt last g ≡ Nobody) → IsWithin M 0 next
    first-round none = with-round 0 (λ kind n.
        ap (λ (a : ReachedBy). joined (held_by M kind n) a)
        (joined_below-nobody (λ g. by_places M (to_gpt last g) Gpt g (places_in Gpt) kind n) (size_of s.items Gpt)
        (λ g lt. places-through M Gpt g (gpt_at M.items g).slots (gpt-long s full g lt) (λ i place. refl) (to_gpt last g) kind n
        ∙ (ap (λ (a : ReachedBy). through a (gpt_at M.items g).slots kind n) (none g) ∙ through-nobody (gpt_at M.items g).slots kind n)))
        ∙ (joined-nobody (held_by M kind n) ∙ sym (reached-zero M kind n)))

    -- each next one
    pub next-round : (most : ℕ) → IsWithin M most last → IsWithin M (suc most) next
    next-round most within = with-round (suc most) (λ kind n.
        ap (λ (a : ReachedBy). joined (held_by M kind n) a)
        (by-gpts last kind n
        ∙ joined_below-same (λ g. through (to_gpt last g) (gpt_at M.items g).slots kind n) (λ g. through (reached_within most M Gpt g) (gpt_at M.items g).slots kind n) (length M.items.gpts)
        (λ g lt. ap (λ (a : ReachedBy). through a (gpt_at M.items g).slots kind n) (within.gpts g lt)))
        ∙ sym (reached-suc most M kind n))

  -- as many rounds as there are GPTs are enough
  pub all-rounds : (r : ComersValue) → IsWithin M (length M.items.gpts) r → AreComers M r
  all-rounds r within = record {
    gpts = λ n. elim (cases_lt n (length M.items.gpts)) [
      | inl there ↦ within.gpts n there
      | inr past ↦ get_or_past r.gpts n Nobody (omega (arith, past, within.gpt_count)) ∙ sym (reached-nobody Gpt n (omega (arith, past, gpt-count)) (length M.items.gpts))
    ];
    pages = λ n. elim (cases_lt n (length M.contents.pages)) [
      | inl there ↦ within.pages n there
      | inr past ↦ get_or_past r.pages n Nobody (omega (arith, past, within.page_count)) ∙ sym (reached-nobody Page n (omega (arith, past, page-count)) (length M.items.gpts))
    ];
    named = λ p. elim (cases_lt p (length M.contents.processes)) [
      | inl there ↦ within.named p there
      | inr past ↦ get_or_past r.named p false (omega (arith, past, within.process_count)) ∙ sym (held-unnamed Process p (omega (arith, past, process-count)))
    ];
    far = within.far;
  }

  -- and so are fewer, where the last changed nothing of GPTs
  pub stable-rounds : (most : ℕ) (last next : ComersValue) → most < size_of s.items Gpt → IsWithin M most last → IsWithin M (suc most) next → next.gpts ≡ last.gpts → AreComers M next
  stable-rounds most last next below before within same = all-rounds next (record {
    gpt_count = within.gpt_count;
    page_count = within.page_count;
    process_count = within.process_count;
    gpts = λ n lt. within.gpts n lt ∙ sym (stay Gpt n);
    pages = λ n lt. within.pages n lt ∙ sym (stay Page n);
    named = within.named;
    far = within.far;
  })
    where
      alike : (g : ℕ) → g < length M.items.gpts → reached_within (suc most) M Gpt g ≡ reached_within most M Gpt g
      alike g lt = sym (within.gpts g lt) ∙ (ap (λ (table : List ReachedBy). get_or table g Nobody) same ∙ before.gpts g lt)

      stay : (kind : CapKind) (n : ℕ) → reached_within (length M.items.gpts) M kind n ≡ reached_within (suc most) M kind n
      stay kind n = rounds-stay M most alike (length M.items.gpts) (omega (arith, below, gpt-count)) kind n
