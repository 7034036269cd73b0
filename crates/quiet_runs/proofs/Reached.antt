-- Who else comes to an object: what others hold, and where it leads.
use Rattle.std.proofs.Common.{◌≡◌, ◌≢◌, ℕ, zero, suc, ◌==◌, ◌<◌, Bool, true, false, not, ◌&&◌, ◌||◌, if◌then◌else◌, List, [], ◌∷◌, ◌++◌, length, replicate, get_or, refl, sym, ◌∙◌, ap, ap₂, arith}
use Rattle.std.proofs.lemmas.Bool.{or_left, or_right, and_from, and_right, false≢true, ne_eqb, eq-eqb, eqb-true, eqb-false}
use Rattle.std.proofs.lemmas.List.Folds.{list_any-append}
use Rattle.std.specs.List.{list_any}
use Rattle.cap_format.specs.declared.kind.CapKind.{CapKind}
use Rattle.cap_format.specs.declared.kind.CapKind.TheVariants.{Gpt}
use Rattle.cap_format.specs.Capability.{Capability, null}
use Rattle.gpt_objects.specs.Gpt.{GptValue, empty_gpt, empty_slots as empty_gpt_slots}
use Rattle.page_store.specs.CapPage.{cap_at, empty_cappage}
use Rattle.process_objects.specs.Process.{ProcessValue, capreg_of, slot_of, empty_process, empty_slots, empty_capregs}
use Rattle.object_store.specs.Store.{Store, gpt_at, slot_at, cappage_at, process_at}
use Rattle.quiet_runs.specs.declared.reached_by.ReachedBy.{ReachedBy}
use Rattle.quiet_runs.specs.declared.reached_by.ReachedBy.TheVariants.{Nobody, Alone, Several}
use Rattle.quiet_runs.specs.Reaching.{joined, joined_below, names, through, caps_of, held_by, reached_within, reached_by, is_alone}
use Rattle.quiet_runs.specs.Finding.{is_below}
use Rattle.quiet_runs.proofs.Below.{below-has, below-same, below-never}
use Rattle.quiet_runs.proofs.Growing.{grown, grown-closed, grown-base}

-- ---- what stands in lists

module _ (test : Capability → Bool) (nothing : test null ≡ false) where
  -- a capability that passes stands in the list
  pub any-at : (cs : List Capability) (i : ℕ) → test (get_or cs i null) ≡ true → list_any test cs ≡ true
  any-at [] i e = absurd (false≢true (sym nothing ∙ e))
  any-at (c ∷ cs) zero e = or_left (test c) (list_any test cs) e
  any-at (c ∷ cs) (suc i) e = or_right (test c) (list_any test cs) (any-at cs i e)

  -- and in none of Nulls
  pub any-nulls : (n : ℕ) → list_any test (replicate n null) ≡ false
  any-nulls zero = refl
  any-nulls (suc n) = ap₂ (λ (a b : Bool). a || b) nothing (any-nulls n)

  any-empty_gpt : list_any test empty_gpt.slots ≡ false
  unfolding empty_gpt_slots
  any-empty_gpt = any-nulls 16

  any-empty_cappage : list_any test empty_cappage ≡ false
  unfolding empty_cappage
  any-empty_cappage = any-nulls 256

  any-empty_slots : list_any test empty_slots ≡ false
  unfolding empty_slots
  any-empty_slots = any-nulls 3

  any-empty_capregs : list_any test empty_capregs ≡ false
  unfolding empty_capregs
  any-empty_capregs = any-nulls 32

  any-empty_process : list_any test (empty_process.slots ++ empty_process.capregs) ≡ false
  any-empty_process = list_any-append test empty_slots empty_capregs ∙ ap₂ (λ (a b : Bool). a || b) any-empty_slots any-empty_capregs

-- what passes where the default doesn't is in the list
pub is-there : {X : Type 0} (test : X → Bool) (xs : List X) (i : ℕ) (d : X) → test d ≡ false → test (get_or xs i d) ≡ true → i < length xs
is-there test [] i d other e = absurd (false≢true (sym other ∙ e))
is-there test (x ∷ xs) zero d other e = omega arith
is-there test (x ∷ xs) (suc i) d other e = let l = is-there test xs i d other e in omega arith

-- ---- what is held

-- a capability that passes stands in an object that there is
pub record Holds (test : Capability → Bool) (count : ℕ) (n : ℕ) (cs : List Capability) : Type 0 where
  pub there : n < count
  pub any : list_any test cs ≡ true

module _ (test : Capability → Bool) (nothing : test null ≡ false) (s : Store) where
  -- in a GPT
  pub holds-gpt : (g i : ℕ) → test (slot_at s.items g i) ≡ true → Holds test (length s.items.gpts) g (gpt_at s.items g).slots
  holds-gpt g i e =
      let any = any-at test nothing (gpt_at s.items g).slots i e in
      record { there = is-there (λ (x : GptValue). list_any test x.slots) s.items.gpts g empty_gpt (any-empty_gpt test nothing) any; any = any }

  -- in a capability page
  pub holds-cappage : (c i : ℕ) → test (cap_at (cappage_at s c) i) ≡ true → Holds test (length s.contents.cappages) c (cappage_at s c)
  holds-cappage c i e =
      let any = any-at test nothing (cappage_at s c) i e in
      record { there = is-there (list_any test) s.contents.cappages c empty_cappage (any-empty_cappage test nothing) any; any = any }

  holds-process : (p : ℕ) → list_any test (caps_of s p) ≡ true → Holds test (length s.contents.processes) p (caps_of s p)
  holds-process p any =
      record { there = is-there (λ (x : ProcessValue). list_any test (x.slots ++ x.capregs)) s.contents.processes p empty_process (any-empty_process test nothing) any; any = any }

  -- in a slot of a process
  pub holds-slot : (p i : ℕ) → test (slot_of (process_at s p) i) ≡ true → Holds test (length s.contents.processes) p (caps_of s p)
  holds-slot p i e =
      let x = process_at s p in
      holds-process p (list_any-append test x.slots x.capregs ∙ or_left (list_any test x.slots) (list_any test x.capregs) (any-at test nothing x.slots i e))

  -- in a capability register
  pub holds-capreg : (p i : ℕ) → test (capreg_of (process_at s p) i) ≡ true → Holds test (length s.contents.processes) p (caps_of s p)
  holds-capreg p i e =
      let x = process_at s p in
      holds-process p (list_any-append test x.slots x.capregs ∙ or_right (list_any test x.slots) (list_any test x.capregs) (any-at test nothing x.capregs i e))

-- ---- others than a process

-- somebody else is among them
abbrev pub others : ℕ → ReachedBy → Bool
others p Nobody = false
others p (Alone q) = not (q == p)
others p Several = true

or-nothing : (b : Bool) → b ≡ (b || false)
or-nothing true = refl
or-nothing false = refl

-- in two groups together if in one
others-joined : (p : ℕ) (a b : ReachedBy) → others p (joined a b) ≡ (others p a || others p b)
others-joined p Nobody b = refl
others-joined p (Alone q) Nobody = or-nothing (not (q == p))
others-joined p (Alone q) (Alone r) = on (q == r) refl
  where
    same : (b : Bool) → b ≡ (b || b)
    same true = refl
    same false = refl

    on : (b : Bool) → (q == r) ≡ b → others p (if b then Alone q else Several) ≡ (not (q == p) || not (r == p))
    on true e = same (not (q == p)) ∙ ap (λ (n : ℕ). not (q == p) || not (n == p)) (eqb-true q r e)
    on false e = first (q == p) refl
      where
        first : (c : Bool) → (q == p) ≡ c → true ≡ (not c || not (r == p))
        first true at = sym (ap not (ne_eqb r p (λ there. eqb-false q r e (eqb-true q p at ∙ sym there))))
        first false at = refl
others-joined p (Alone q) Several = sym (or_right (not (q == p)) true refl)
others-joined p Several b = refl

-- in groups together if in one of them
others-below : (p : ℕ) (by : ℕ → ReachedBy) (n : ℕ) → others p (joined_below by n) ≡ is_below (λ i. others p (by i)) n
unfolding joined_below is_below
others-below p by zero = refl
others-below p by (suc n) = others-joined p (joined_below by n) (by n) ∙ ap (λ (b : Bool). b || others p (by n)) (others-below p by n)

-- by capabilities that they hold, one of which names the object
others-through : (p : ℕ) (by : ReachedBy) (cs : List Capability) (kind : CapKind) (n : ℕ) → others p (through by cs kind n) ≡ (others p by && list_any (λ c. names c kind n) cs)
unfolding through
others-through p by [] kind n = sym (and_right (others p by) false refl)
others-through p by (c ∷ cs) kind n =
    others-joined p (if names c kind n then by else Nobody) (through by cs kind n)
    ∙ (ap (λ (b : Bool). others p (if names c kind n then by else Nobody) || b) (others-through p by cs kind n) ∙ on (names c kind n))
  where
    either : (o any : Bool) → (o || (o && any)) ≡ (o && true)
    either true any = refl
    either false any = refl

    on : (b : Bool) → (others p (if b then by else Nobody) || (others p by && list_any (λ c. names c kind n) cs)) ≡ (others p by && (b || list_any (λ c. names c kind n) cs))
    on true = either (others p by) (list_any (λ c. names c kind n) cs)
    on false = refl

-- ---- where it leads

module _ (s : Store) (p : ℕ) where
  -- others hold a capability to an object
  abbrev base : CapKind → ℕ → Bool
  base kind n = others p (held_by s kind n)

  -- a GPT does
  abbrev edge : ℕ → CapKind → ℕ → Bool
  edge g kind n = list_any (λ c. names c kind n) (gpt_at s.items g).slots

  -- others come to an object through so many GPTs
  within-grown : (k : ℕ) (kind : CapKind) (n : ℕ) → others p (reached_within k s kind n) ≡ grown (length s.items.gpts) base edge (suc k) kind n
  unfolding reached_within
  within-grown zero kind n = or-nothing (base kind n) ∙ ap (λ (b : Bool). base kind n || b) (sym (below-never (length s.items.gpts)))
  within-grown (suc k) kind n =
      others-joined p (held_by s kind n) (joined_below (λ g. through (reached_within k s Gpt g) (gpt_at s.items g).slots kind n) (length s.items.gpts))
      ∙ ap (λ (b : Bool). base kind n || b)
      (others-below p (λ g. through (reached_within k s Gpt g) (gpt_at s.items g).slots kind n) (length s.items.gpts)
      ∙ below-same (λ g. others p (through (reached_within k s Gpt g) (gpt_at s.items g).slots kind n)) (λ g. grown (length s.items.gpts) base edge (suc k) Gpt g && edge g kind n) (length s.items.gpts)
      (λ g l. others-through p (reached_within k s Gpt g) (gpt_at s.items g).slots kind n ∙ ap (λ (b : Bool). b && edge g kind n) (within-grown k Gpt g)))

  -- others come to an object
  abbrev pub shared : CapKind → ℕ → Bool
  shared kind n = others p (reached_by s kind n)

  -- they come to what a GPT names to which they come
  pub shared-gpt : (g i : ℕ) (kind : CapKind) (n : ℕ) → shared Gpt g ≡ true → names (slot_at s.items g i) kind n ≡ true → shared kind n ≡ true
  shared-gpt g i kind n is named =
      let size = length s.items.gpts in
      let held = holds-gpt (λ c. names c kind n) refl s g i named in
      within-grown size kind n ∙ grown-closed size base edge g kind n held.there (sym (within-grown size Gpt g) ∙ is) held.any

  -- and to what they hold
  shared-held : (kind : CapKind) (n : ℕ) → base kind n ≡ true → shared kind n ≡ true
  shared-held kind n is = let size = length s.items.gpts in within-grown size kind n ∙ grown-base size base edge size kind n is

  abbrev by_process : CapKind → ℕ → ℕ → ReachedBy
  by_process kind n q = through (Alone q) (caps_of s q) kind n

  abbrev by_cappage : CapKind → ℕ → ℕ → ReachedBy
  by_cappage kind n c = through Several (cappage_at s c) kind n

  base-is : (kind : CapKind) (n : ℕ)
      → base kind n ≡ (is_below (λ q. others p (by_process kind n q)) (length s.contents.processes) || is_below (λ c. others p (by_cappage kind n c)) (length s.contents.cappages))
  base-is kind n =
      others-joined p (joined_below (by_process kind n) (length s.contents.processes)) (joined_below (by_cappage kind n) (length s.contents.cappages))
      ∙ ap₂ (λ (a b : Bool). a || b) (others-below p (by_process kind n) (length s.contents.processes)) (others-below p (by_cappage kind n) (length s.contents.cappages))

  -- another process
  pub shared-process : (q : ℕ) (kind : CapKind) (n : ℕ) → q ≢ p → Holds (λ c. names c kind n) (length s.contents.processes) q (caps_of s q) → shared kind n ≡ true
  shared-process q kind n apart held =
      let other : not (q == p) ≡ true = ap not (ne_eqb q p apart) in
      let one : others p (by_process kind n q) ≡ true = others-through p (Alone q) (caps_of s q) kind n ∙ and_from (not (q == p)) (list_any (λ c. names c kind n) (caps_of s q)) other held.any in
      shared-held kind n
      (base-is kind n
      ∙ or_left (is_below (λ q. others p (by_process kind n q)) (length s.contents.processes)) (is_below (λ c. others p (by_cappage kind n c)) (length s.contents.cappages))
      (below-has (λ q. others p (by_process kind n q)) (length s.contents.processes) q held.there one))

  -- a capability page
  pub shared-cappage : (c : ℕ) (kind : CapKind) (n : ℕ) → Holds (λ c. names c kind n) (length s.contents.cappages) c (cappage_at s c) → shared kind n ≡ true
  shared-cappage c kind n held =
      let one : others p (by_cappage kind n c) ≡ true = others-through p Several (cappage_at s c) kind n ∙ held.any in
      shared-held kind n
      (base-is kind n
      ∙ or_right (is_below (λ q. others p (by_process kind n q)) (length s.contents.processes)) (is_below (λ c. others p (by_cappage kind n c)) (length s.contents.cappages))
      (below-has (λ c. others p (by_cappage kind n c)) (length s.contents.cappages) c held.there one))

  -- what one process has alone isn't shared
  pub alone-unshared : (kind : CapKind) (n : ℕ) → is_alone p (reached_by s kind n) ≡ true → shared kind n ≡ false
  alone-unshared kind n = on (reached_by s kind n)
    where
      on : (by : ReachedBy) → is_alone p by ≡ true → others p by ≡ false
      on Nobody e = refl
      on (Alone q) e = ap not (eq-eqb q p (sym (eqb-true p q e)))
      on Several e = absurd (false≢true e)
