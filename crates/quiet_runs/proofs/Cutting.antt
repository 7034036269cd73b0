-- The cut of a process that has its own to itself: it holds.
use Rattle.std.proofs.Common.{◌≡◌, ◌≢◌, ℕ, zero, suc, ◌==◌, ◌<◌, inl, Bool, true, false, not, ◌&&◌, ◌||◌, List, [], ◌∷◌, length, get_or, Option, Some, None, refl, sym, ◌∙◌, ap, subst, arith}
use Rattle.std.proofs.lemmas.Bool.{false_from_ne_true, or_left, or_right, or_parts, and_parts, and_from, false≢true, not-true, not-false, eqb-true, eq-eqb}
use Rattle.std.specs.List.{list_any}
use Rattle.cap_format.specs.declared.kind.CapKind.{CapKind}
use Rattle.cap_format.specs.declared.kind.CapKind.TheVariants.{Page, CapPage, Gpt, Endpoint, Entry, Process, Range}
use Rattle.cap_format.specs.Kind.{number_of, is_counted, object_kind}
use Rattle.cap_format.specs.Capability.{Capability}
use Rattle.page_store.specs.CapPage.{cap_at}
use Rattle.process_objects.specs.declared.state.State.{State as ProcessState}
use Rattle.process_objects.specs.declared.state.State.TheVariants.{Running}
use Rattle.process_objects.specs.Process.{capreg_of, slot_of}
use Rattle.object_store.specs.Store.{gpt_at, slot_at, cappage_at, process_at}
use Rattle.schedules.specs.Queues.{hart_of, stands_in}
use Rattle.machine_state.specs.State.{State, process}
use Rattle.confinement.specs.declared.cut_side.CutSide.{CutSide}
use Rattle.confinement.specs.declared.cut_side.CutSide.TheVariants.{Left, Right}
use Rattle.confinement.specs.Cut.{Cut, closed_cut, side_of, MayHold, AllOn}
use Rattle.independence.specs.Seclusion.{HeldApart, OnHarts, Secluded}
use Rattle.quiet_runs.specs.Runs.{Watch}
use Rattle.quiet_runs.specs.Reaching.{caps_of, names}
use Rattle.quiet_runs.specs.Finding.{is_below, some_held, is_far_reaching, runs, has_process, is_only_on, is_secluded}
use Rattle.quiet_runs.proofs.Below.{below-none}
use Rattle.quiet_runs.proofs.Reached.{Holds, holds-gpt, holds-cappage, holds-slot, holds-capreg, shared, shared-gpt, shared-process, shared-cappage}

-- ---- the cut

-- right, if so
abbrev right_if : Bool → CutSide
right_if true = Right
right_if false = Left

-- the process is on the left, with the GPTs to which nobody else comes, and with such pages, if they aren't watched
abbrev sides : Watch → State → ℕ → CapKind → ℕ → CutSide
sides watch s p Process q = right_if (not (q == p))
sides watch s p Gpt g = right_if (shared s.store p Gpt g)
sides watch s p Page n = right_if (watch.pages n || shared s.store p Page n)
sides watch s p _ n = Right

-- nothing crosses it; who may halt the machine, and who may read its log, is free
abbrev pub own_cut : Watch → State → ℕ → Cut
own_cut watch s p = record (closed_cut (sides watch s p)) { weakly = λ side. false }

-- what isn't so is on the left
left-is : (b : Bool) → right_if b ≡ Left → b ≡ false
left-is true e = absurd (cc (e))
left-is false e = refl

right-is : (b : Bool) → right_if b ≡ Right → b ≡ true
right-is true e = refl
right-is false e = absurd (cc (e))

module _ (watch : Watch) (s : State) (p : ℕ) where
  -- ---- the sides

  -- the process is on the left
  pub left-process : side_of (own_cut watch s p) Process p ≡ Left
  left-process = ap right_if (ap not (eq-eqb p p refl))

  -- alone
  pub left-alone : (q : ℕ) → side_of (own_cut watch s p) Process q ≡ Left → q ≡ p
  left-alone q left = eqb-true q p (not-false (q == p) (left-is (not (q == p)) left))

  -- so are its GPTs
  pub left-gpt : (g : ℕ) → shared s.store p Gpt g ≡ false → side_of (own_cut watch s p) Gpt g ≡ Left
  left-gpt g own = ap right_if own

  -- and its pages
  pub left-page : (n : ℕ) → watch.pages n ≡ false → shared s.store p Page n ≡ false → side_of (own_cut watch s p) Page n ≡ Left
  left-page n unwatched own = ap right_if (ap (λ (b : Bool). b || shared s.store p Page n) unwatched ∙ own)

  -- a page that is watched is on the right
  pub right-watched : (n : ℕ) → watch.pages n ≡ true → side_of (own_cut watch s p) Page n ≡ Right
  right-watched n watched = ap right_if (or_left (watch.pages n) (shared s.store p Page n) watched)

  -- ---- what is held on the right

  -- what a capability that stands on the right names is on the right
  side-named : (kind : CapKind) (n : ℕ)
      → ((k : CapKind) → (is_counted kind && ((number_of (object_kind kind) == number_of k) && (n == n))) ≡ true → shared s.store p k n ≡ true)
      → ((is_counted kind && ((number_of (object_kind kind) == 8) && (n == p))) ≡ false)
      → is_counted kind ≡ true → side_of (own_cut watch s p) (object_kind kind) n ≡ Right
  side-named Page n others unnamed counted = ap right_if (or_right (watch.pages n) (shared s.store p Page n) (others Page (eq-eqb n n refl)))
  side-named Gpt n others unnamed counted = ap right_if (others Gpt (eq-eqb n n refl))
  side-named Process n others unnamed counted = ap right_if (ap not unnamed)
  side-named CapPage n others unnamed counted = refl
  side-named Endpoint n others unnamed counted = refl
  side-named Entry n others unnamed counted = refl
  side-named _ n others unnamed counted = absurd (false≢true counted)

  near : (c : Capability) → is_far_reaching c.kind ≡ false → c.kind ≢ Range
  near c none range = false≢true (sym none ∙ ap is_far_reaching range)

  -- where no capability that is held passes a test, none of an object does
  module _ (test : Capability → Bool) (none : some_held test s.store ≡ false) where
    parts : (is_below (λ q. list_any test (caps_of s.store q)) (length s.store.contents.processes) ≡ false)
        × ((is_below (λ c. list_any test (cappage_at s.store c)) (length s.store.contents.cappages) || is_below (λ g. list_any test (gpt_at s.store.items g).slots) (length s.store.items.gpts)) ≡ false)
    parts = or_parts _ _ none

    none-process : (q : ℕ) → Holds test (length s.store.contents.processes) q (caps_of s.store q) → ⊥
    none-process q held = false≢true (sym (below-none (λ q. list_any test (caps_of s.store q)) (length s.store.contents.processes) q parts.0 held.there) ∙ held.any)

    none-cappage : (c : ℕ) → Holds test (length s.store.contents.cappages) c (cappage_at s.store c) → ⊥
    none-cappage c held = false≢true (sym (below-none (λ c. list_any test (cappage_at s.store c)) (length s.store.contents.cappages) c (or_parts _ _ parts.1).0 held.there) ∙ held.any)

    pub none-gpt : (g : ℕ) → Holds test (length s.store.items.gpts) g (gpt_at s.store.items g).slots → ⊥
    none-gpt g held = false≢true (sym (below-none (λ g. list_any test (gpt_at s.store.items g).slots) (length s.store.items.gpts) g (or_parts _ _ parts.1).1 held.there) ∙ held.any)

  module _ (unnamed : some_held (λ c. names c Process p) s.store ≡ false) (unranged : some_held (λ c. is_far_reaching c.kind) s.store ≡ false) where
    -- a capability may stand on the right where others come to what it names, it doesn't name the process, and isn't far-reaching
    may-hold : (c : Capability) → ((kind : CapKind) → names c kind c.object ≡ true → shared s.store p kind c.object ≡ true)
        → names c Process p ≡ false → is_far_reaching c.kind ≡ false → MayHold (own_cut watch s p) Right c
    may-hold c others no_process no_range = record {
      no_range = near c no_range;
      halting = λ is. refl;
      logging = λ is. refl;
      own = inl (side-named c.kind c.object others no_process);
    }

    abbrev named : Capability → Bool
    named c = names c Process p

    abbrev far : Capability → Bool
    far c = is_far_reaching c.kind

    -- in a GPT to which others come
    held-slots : (g i : ℕ) → side_of (own_cut watch s p) Gpt g ≡ Right → MayHold (own_cut watch s p) Right (slot_at s.store.items g i)
    held-slots g i right = may-hold (slot_at s.store.items g i)
        (λ kind e. shared-gpt s.store p g i kind (slot_at s.store.items g i).object (right-is (shared s.store p Gpt g) right) e)
        (false_from_ne_true _ (λ e. none-gpt named unnamed g (holds-gpt named refl s.store g i e)))
        (false_from_ne_true _ (λ e. none-gpt far unranged g (holds-gpt far refl s.store g i e)))

    -- in a capability page
    held-cappages : (n i : ℕ) → MayHold (own_cut watch s p) Right (cap_at (cappage_at s.store n) i)
    held-cappages n i = let c = cap_at (cappage_at s.store n) i in may-hold c
        (λ kind e. shared-cappage s.store p n kind c.object (holds-cappage (λ d. names d kind c.object) refl s.store n i e))
        (false_from_ne_true _ (λ e. none-cappage named unnamed n (holds-cappage named refl s.store n i e)))
        (false_from_ne_true _ (λ e. none-cappage far unranged n (holds-cappage far refl s.store n i e)))

    other : (q : ℕ) → side_of (own_cut watch s p) Process q ≡ Right → q ≢ p
    other q right at = false≢true (sym (not-true (q == p) (right-is (not (q == p)) right)) ∙ eq-eqb q p at)

    -- in a capability register of another process
    held-capregs : (q i : ℕ) → side_of (own_cut watch s p) Process q ≡ Right → MayHold (own_cut watch s p) Right (capreg_of (process_at s.store q) i)
    held-capregs q i right = let c = capreg_of (process_at s.store q) i in may-hold c
        (λ kind e. shared-process s.store p q kind c.object (other q right) (holds-capreg (λ d. names d kind c.object) refl s.store q i e))
        (false_from_ne_true _ (λ e. none-process named unnamed q (holds-capreg named refl s.store q i e)))
        (false_from_ne_true _ (λ e. none-process far unranged q (holds-capreg far refl s.store q i e)))

    -- in a slot of one
    held-process_slots : (q i : ℕ) → side_of (own_cut watch s p) Process q ≡ Right → MayHold (own_cut watch s p) Right (slot_of (process_at s.store q) i)
    held-process_slots q i right = let c = slot_of (process_at s.store q) i in may-hold c
        (λ kind e. shared-process s.store p q kind c.object (other q right) (holds-slot (λ d. names d kind c.object) refl s.store q i e))
        (false_from_ne_true _ (λ e. none-process named unnamed q (holds-slot named refl s.store q i e)))
        (false_from_ne_true _ (λ e. none-process far unranged q (holds-slot far refl s.store q i e)))

    held-apart : HeldApart (own_cut watch s p) s.store
    held-apart = record { strictly = refl; closed = record { calls = λ side e. refl; hears = λ side q. refl }; slots = held-slots; cappages = held-cappages; capregs = held-capregs; process_slots = held-process_slots }

  -- ---- who stands where

  -- where the process isn't in a list, all in it are on the right
  all-right : (xs : List ℕ) → stands_in xs p ≡ false → AllOn (own_cut watch s p) Right xs
  all-right [] none = tt
  all-right (x ∷ xs) none =
      let parts = or_parts (x == p) (stands_in xs p) none in
      (ap right_if (ap not parts.0), all-right xs parts.1)

  -- so in each list of several
  each-right : (lists : List (List ℕ)) (i : ℕ) → list_any (λ xs. stands_in xs p) lists ≡ false → AllOn (own_cut watch s p) Right (get_or lists i [])
  each-right [] i none = tt
  each-right (xs ∷ lists) zero none = all-right xs (or_parts (stands_in xs p) (list_any (λ xs. stands_in xs p) lists) none).0
  each-right (xs ∷ lists) (suc i) none = each-right lists i (or_parts (stands_in xs p) (list_any (λ xs. stands_in xs p) lists) none).1

  -- the hart that has it is one of those that there are
  hart-there : (harts : List (Option ℕ)) (g q : ℕ) → get_or harts g None ≡ Some q → g < length harts
  hart-there [] g q e = absurd (cc (e))
  hart-there (x ∷ xs) zero q e = omega arith
  hart-there (x ∷ xs) (suc g) q e = let l = hart-there xs g q e in omega arith

  has-is : (h : Option ℕ) → has_process h p ≡ true → h ≡ Some p
  has-is None e = absurd (false≢true e)
  has-is (Some q) e = ap Some (eqb-true q p e)

  module _ (hart : ℕ) (only : is_only_on s.queues p hart ≡ true) where
    on_hart : hart_of s.queues hart ≡ Some p
    on_hart = has-is (hart_of s.queues hart) (and_parts (has_process (hart_of s.queues hart) p) _ only).0

    elsewhere : (is_below (λ other. not (other == hart) && has_process (hart_of s.queues other) p) (length s.queues.harts) ≡ false)
        × (list_any (λ queue. stands_in queue p) s.queues.ready ≡ false) × (list_any (λ sleepers. stands_in sleepers p) s.queues.sleepers ≡ false)
    elsewhere =
        let rest = (and_parts (has_process (hart_of s.queues hart) p) _ only).1 in
        let first = and_parts (not (is_below (λ other. not (other == hart) && has_process (hart_of s.queues other) p) (length s.queues.harts))) _ rest in
        let queues = and_parts (not (list_any (λ queue. stands_in queue p) s.queues.ready)) (not (list_any (λ sleepers. stands_in sleepers p) s.queues.sleepers)) first.1 in
        (not-true _ first.0, not-true _ queues.0, not-true _ queues.1)

    -- the process is on this hart alone
    no-other : (g : ℕ) → hart_of s.queues g ≡ Some p → g ≡ hart
    no-other g e = on (g == hart) refl
      where
        on : (b : Bool) → (g == hart) ≡ b → g ≡ hart
        on true at = eqb-true g hart at
        on false at =
            let there : has_process (hart_of s.queues g) p ≡ true = ap (λ (h : Option ℕ). has_process h p) e ∙ eq-eqb p p refl in
            let both : (not (g == hart) && has_process (hart_of s.queues g) p) ≡ true = and_from (not (g == hart)) (has_process (hart_of s.queues g) p) (ap not at) there in
            let none = below-none (λ other. not (other == hart) && has_process (hart_of s.queues other) p) (length s.queues.harts) g elsewhere.0 (hart-there s.queues.harts g p e) in
            absurd (false≢true (sym none ∙ both))

    on-harts : OnHarts (own_cut watch s p) s.queues
    on-harts = record {
      ready = λ priority. each-right s.queues.ready priority elsewhere.1;
      sleepers = λ q. each-right s.queues.sleepers q elsewhere.2;
      there = λ q left. record { hart = hart; there = subst (λ (r : ℕ). hart_of s.queues hart ≡ Some r) (sym (left-alone q left)) on_hart };
      once = λ q g h left first second. let at = left-alone q left in
          no-other g (first ∙ ap Some at) ∙ sym (no-other h (second ∙ ap Some at));
    }

  -- ---- the process

  runs-is : (state : ProcessState) → runs state ≡ true → state ≡ Running
  runs-is Running e = refl
  runs-is _ e = absurd (false≢true e)

  -- it has its own to itself
  pub secluded : (hart : ℕ) → is_secluded s p hart ≡ true → Secluded (own_cut watch s p) s
  secluded hart is =
      let first = and_parts (runs (process s p).state) _ is in
      let second = and_parts (is_only_on s.queues p hart) _ first.1 in
      let third = and_parts (not (some_held (λ c. names c Process p) s.store)) (not (some_held (λ c. is_far_reaching c.kind) s.store)) second.1 in
      record {
        apart = held-apart (not-true _ third.0) (not-true _ third.1);
        running = λ q left. subst (λ (r : ℕ). (process s r).state ≡ Running) (sym (left-alone q left)) (runs-is (process s p).state first.0);
        harts = on-harts hart second.0;
      }

  -- it is on that hart
  pub secluded-on : (hart : ℕ) → is_secluded s p hart ≡ true → hart_of s.queues hart ≡ Some p
  secluded-on hart is =
      let first = and_parts (runs (process s p).state) _ is in
      on_hart hart (and_parts (is_only_on s.queues p hart) _ first.1).0

  -- no GPT holds a far-reaching capability
  pub secluded-near : (hart : ℕ) → is_secluded s p hart ≡ true → (g i : ℕ) → is_far_reaching (slot_at s.store.items g i).kind ≡ false
  secluded-near hart is g i =
      let first = and_parts (runs (process s p).state) _ is in
      let second = and_parts (is_only_on s.queues p hart) _ first.1 in
      let third = and_parts (not (some_held (λ c. names c Process p) s.store)) (not (some_held (λ c. is_far_reaching c.kind) s.store)) second.1 in
      false_from_ne_true _ (λ e. none-gpt (λ c. is_far_reaching c.kind) (not-true _ third.1) g (holds-gpt (λ c. is_far_reaching c.kind) refl s.store g i e))
