-- What the printed statements give a thing: at most one of them names it.
use Rattle.std.proofs.Common.{ℕ, zero, suc, ◌≡◌, ◌≢◌, ◌<◌, ◌*◌, Bool, true, false, if◌then◌else◌, List, [], ◌++◌, Option, Some, None, refl, ap, ◌∙◌, inl, inr, arith}
use Rattle.std.specs.List.{filter_map}
use Rattle.std.proofs.lemmas.Bool.{cases_lt, ne_eqb}
use Rattle.std.proofs.lemmas.Bool.Decides.{eqb_tells}
use Rattle.std.proofs.lemmas.List.{append-nil}
use Rattle.std.proofs.lemmas.List.Elements.{filter_map-append}
use Rattle.cap_format.specs.declared.kind.CapKind.{CapKind}
use Rattle.cap_format.specs.declared.kind.CapKind.TheVariants as kinds
use Rattle.cap_format.specs.Kind.{number_of, is_object}
use Rattle.cap_format.specs.Capability.{bare}
use Rattle.gpt_objects.specs.Gpt.{slot_of}
use Rattle.page_store.specs.Page.{bytes_at}
use Rattle.page_store.specs.CapPage.{cap_at}
use Rattle.process_objects.specs.Process.{reg_of, capreg_of, slot_of as process_slot}
use Rattle.object_store.specs.Store.{Store, size_of, count_of, gpt_at, page_at, cappage_at, process_at, endpoint_at}
use Rattle.listing_read.specs.declared.statement.Statement.{Statement}
use Rattle.listing_read.specs.declared.statement.Statement.TheVariants as says
use Rattle.image_builder.specs.Given.{last_given, count_given, byte_given, cap_given, header_given, slot_given, endpoint_given, pc_given, run_given, place_given, reg_given, capreg_given}
use Rattle.read_back.specs.Laws.{runs_of}
use Rattle.read_back.specs.Printed.{statements_below, unless_empty, running_said, registers_said, capregs_said, itself_said, contents_said, object_said, kind_said, statements_of}

-- ---- statements that give nothing

-- none of these gives anything
abbrev pub Silent : {A : Type 0} → (Statement → Option A) → List Statement → Type 0
Silent given xs = filter_map given xs ≡ []

pub silent_both : {A : Type 0} (given : Statement → Option A) (xs ys : List Statement) → Silent given xs → Silent given ys → Silent given (xs ++ ys)
silent_both given xs ys a b = rw (filter_map-append given xs ys, a, b) refl

pub silent_unless : {A : Type 0} (given : Statement → Option A) (empty : Bool) (x : Statement) → given x ≡ None → Silent given (unless_empty empty x)
silent_unless given true x none = refl
silent_unless given false x none = rw none refl

pub silent_below : {A : Type 0} (given : Statement → Option A) (f : ℕ → List Statement) (n : ℕ) → ((i : ℕ) → i < n → Silent given (f i)) → Silent given (statements_below f n)
unfolding statements_below
silent_below given f zero all = refl
silent_below given f (suc n) all =
    silent_both given (statements_below f n) (f n) (silent_below given f n (λ i below. all i (omega arith))) (all n (omega arith))

-- of numbered things one alone gives something
pub pick : {A : Type 0} (given : Statement → Option A) (f : ℕ → List Statement) (n k : ℕ) → k < n → ((i : ℕ) → i < n → i ≢ k → Silent given (f i)) → filter_map given (statements_below f n) ≡ filter_map given (f k)
unfolding statements_below
pick given f zero k there others = absurd (omega arith)
pick given f (suc n) k there others = elim (cases_lt k n) [
  | inl below ↦
      let last : Silent given (f n) = others n (omega arith) (λ e. omega arith) in
      filter_map-append given (statements_below f n) (f n)
      ∙ ap (λ ys. filter_map given (statements_below f n) ++ ys) last
      ∙ append-nil (filter_map given (statements_below f n))
      ∙ pick given f n k below (λ i within other. others i (omega arith) other)
  | inr past ↦
      let same : n ≡ k = omega arith in
      let front : Silent given (statements_below f n) = silent_below given f n (λ i within. others i (omega arith) (λ e. omega arith)) in
      filter_map-append given (statements_below f n) (f n)
      ∙ ap (λ ys. ys ++ filter_map given (f n)) front
      ∙ ap (λ i. filter_map given (f i)) same
]

-- ---- what stands in the end

-- one statement alone may give something
pub last_one : {A : Type 0} (given : Statement → Option A) (default v : A) (xs : List Statement) (empty : Bool) (x : Statement) → filter_map given xs ≡ filter_map given (unless_empty empty x) → given x ≡ Some v → last_given given default xs ≡ (if empty then default else v)
unfolding last_given
last_one given default v xs true x same gives = rw same refl
last_one given default v xs false x same gives = rw (same, gives) refl

-- ---- the object that a statement is about

-- its kind, by number, and its own number
abbrev pub subject_kind : Statement → ℕ
subject_kind (says.Page n at bytes) = 1
subject_kind (says.Code n at insn) = 1
subject_kind (says.CapSlot n i c) = 2
subject_kind (says.Gpt n header) = 3
subject_kind (says.GptSlot n i c) = 3
subject_kind (says.Region gpt slot count page restr) = 3
subject_kind (says.Endpoint n recipient id payload matching) = 6
subject_kind (says.Process n pc space schedule handler runs) = 8
subject_kind (says.Reg n i value) = 8
subject_kind (says.CapReg n i c) = 8
subject_kind (says.Count kind n count) = number_of kind

abbrev pub subject : Statement → ℕ
subject (says.Page n at bytes) = n
subject (says.Code n at insn) = n
subject (says.CapSlot n i c) = n
subject (says.Gpt n header) = n
subject (says.GptSlot n i c) = n
subject (says.Region gpt slot count page restr) = gpt
subject (says.Endpoint n recipient id payload matching) = n
subject (says.Process n pc space schedule handler runs) = n
subject (says.Reg n i value) = n
subject (says.CapReg n i c) = n
subject (says.Count kind n count) = n

-- a statement about any other object gives nothing
abbrev pub Names : {A : Type 0} → (Statement → Option A) → ℕ → ℕ → Type 0
Names given kind n = (x : Statement) → (subject_kind x ≡ kind → subject x ≡ n → ⊥) → given x ≡ None

pub names_byte : (n i : ℕ) → Names (byte_given n i) 1 n
names_byte n i (says.Page number at bytes) apart = let off = ne_eqb number n (apart refl) in rw off refl
names_byte n i (says.Code number at insn) apart = let off = ne_eqb number n (apart refl) in rw off refl
names_byte n i _ apart = refl

pub names_cap : (n i : ℕ) → Names (cap_given n i) 2 n
names_cap n i (says.CapSlot number slot c) apart = let off = ne_eqb number n (apart refl) in rw off refl
names_cap n i _ apart = refl

pub names_header : (n : ℕ) → Names (header_given n) 3 n
names_header n (says.Gpt number header) apart = let off = ne_eqb number n (apart refl) in rw off refl
names_header n _ apart = refl

pub names_slot : (n i : ℕ) → Names (slot_given n i) 3 n
names_slot n i (says.GptSlot number slot c) apart = let off = ne_eqb number n (apart refl) in rw off refl
names_slot n i (says.Region gpt slot count page restr) apart = let off = ne_eqb gpt n (apart refl) in rw off refl
names_slot n i _ apart = refl

pub names_endpoint : (n : ℕ) → Names (endpoint_given n) 6 n
names_endpoint n (says.Endpoint number recipient id payload matching) apart = let off = ne_eqb number n (apart refl) in rw off refl
names_endpoint n _ apart = refl

pub names_pc : (n : ℕ) → Names (pc_given n) 8 n
names_pc n (says.Process number pc space schedule handler runs) apart = let off = ne_eqb number n (apart refl) in rw off refl
names_pc n _ apart = refl

pub names_run : (n : ℕ) → Names (run_given n) 8 n
names_run n (says.Process number pc space schedule handler runs) apart = let off = ne_eqb number n (apart refl) in rw off refl
names_run n _ apart = refl

pub names_place : (n i : ℕ) → Names (place_given n i) 8 n
names_place n i (says.Process number pc space schedule handler runs) apart = let off = ne_eqb number n (apart refl) in rw off refl
names_place n i _ apart = refl

pub names_reg : (n i : ℕ) → Names (reg_given n i) 8 n
names_reg n i (says.Reg number index value) apart = let off = ne_eqb number n (apart refl) in rw off refl
names_reg n i _ apart = refl

pub names_capreg : (n i : ℕ) → Names (capreg_given n i) 8 n
names_capreg n i (says.CapReg number index c) apart = let off = ne_eqb number n (apart refl) in rw off refl
names_capreg n i _ apart = refl

pub names_count : (kind : CapKind) (n : ℕ) → Names (count_given kind n) (number_of kind) n
names_count kind n (says.Count named number count) apart = elim (eqb_tells (number_of named) (number_of kind)) [
  | inl (t, same) ↦ let off = ne_eqb number n (apart same) in rw (t, off) refl
  | inr (t, other) ↦ rw t refl
]
names_count kind n _ apart = refl

-- ---- the statements of all objects

module _ {A : Type 0} (given : Statement → Option A) (s : Store) where
  -- where one of the five kinds gives something
  alone : (a b c d e : List Statement) → filter_map given (a ++ (b ++ (c ++ (d ++ e)))) ≡ filter_map given a ++ (filter_map given b ++ (filter_map given c ++ (filter_map given d ++ filter_map given e)))
  alone a b c d e = rw (filter_map-append given a (b ++ (c ++ (d ++ e))), filter_map-append given b (c ++ (d ++ e)), filter_map-append given c (d ++ e), filter_map-append given d e) refl

  -- where one of the three parts of an object does
  split : (a b c : List Statement) → filter_map given ((a ++ b) ++ c) ≡ (filter_map given a ++ filter_map given b) ++ filter_map given c
  split a b c = rw (filter_map-append given (a ++ b) c, filter_map-append given a b) refl

  pub from_count : (a b c : List Statement) → Silent given b → Silent given c → filter_map given ((a ++ b) ++ c) ≡ filter_map given a
  from_count a b c second third =
      split a b c ∙ ap (λ ys. (filter_map given a ++ filter_map given b) ++ ys) third ∙ append-nil (filter_map given a ++ filter_map given b)
      ∙ ap (λ ys. filter_map given a ++ ys) second ∙ append-nil (filter_map given a)

  pub from_itself : (a b c : List Statement) → Silent given a → Silent given c → filter_map given ((a ++ b) ++ c) ≡ filter_map given b
  from_itself a b c first third =
      split a b c ∙ ap (λ ys. (filter_map given a ++ filter_map given b) ++ ys) third ∙ append-nil (filter_map given a ++ filter_map given b)
      ∙ ap (λ ys. ys ++ filter_map given b) first

  pub from_contents : (a b c : List Statement) → Silent given a → Silent given b → filter_map given ((a ++ b) ++ c) ≡ filter_map given c
  from_contents a b c first second = split a b c ∙ ap (λ ys. (ys ++ filter_map given b) ++ filter_map given c) first ∙ ap (λ ys. ys ++ filter_map given c) second

  module _ (number n : ℕ) (names : Names given number n) where
    -- another object's
    itself_silent : (kind : CapKind) (m : ℕ) → (number_of kind ≡ number → m ≡ n → ⊥) → Silent given (itself_said s kind m)
    itself_silent kinds.Gpt m apart = silent_unless given _ _ (names (says.Gpt m (gpt_at s.items m).header) apart)
    itself_silent kinds.Endpoint m apart = silent_unless given _ _ (names (says.Endpoint m (bare (endpoint_at s m).recipient) (endpoint_at s m).id (endpoint_at s m).payload (endpoint_at s m).matching) apart)
    itself_silent kinds.Process m apart = running_silent (runs_of (process_at s m).state)
      where
        running_silent : (runs : Option Bool) → Silent given (running_said m (process_at s m) runs)
        running_silent None = refl
        running_silent (Some runs) = silent_unless given _ _ (names (says.Process m (process_at s m).pc (bare (process_slot (process_at s m) 0)) (bare (process_slot (process_at s m) 1)) (bare (process_slot (process_at s m) 2)) runs) apart)
    itself_silent _ m apart = refl

    contents_silent : (kind : CapKind) (m : ℕ) → (number_of kind ≡ number → m ≡ n → ⊥) → Silent given (contents_said s kind m)
    contents_silent kinds.Page m apart = silent_below given _ 256 (λ i below. silent_unless given _ _ (names (says.Page m (16 * i) (bytes_at (page_at s m) (16 * i) 16)) apart))
    contents_silent kinds.CapPage m apart = silent_below given _ 256 (λ i below. silent_unless given _ _ (names (says.CapSlot m i (bare (cap_at (cappage_at s m) i))) apart))
    contents_silent kinds.Gpt m apart = silent_below given _ 16 (λ i below. silent_unless given _ _ (names (says.GptSlot m i (bare (slot_of (gpt_at s.items m) i))) apart))
    contents_silent kinds.Process m apart =
        silent_both given (registers_said s m) (capregs_said s m)
        (silent_below given _ 32 (λ i below. silent_unless given _ _ (names (says.Reg m i (reg_of (process_at s m) i)) apart)))
        (silent_below given _ 32 (λ i below. silent_unless given _ _ (names (says.CapReg m i (bare (capreg_of (process_at s m) i))) apart)))
    contents_silent _ m apart = refl

    object_silent : (kind : CapKind) (m : ℕ) → (number_of kind ≡ number → m ≡ n → ⊥) → Silent given (object_said s kind m)
    object_silent kind m apart =
        silent_both given _ _
        (silent_both given _ _ (silent_unless given _ _ (names (says.Count kind m (count_of s.items kind m)) apart)) (itself_silent kind m apart))
        (contents_silent kind m apart)

    kind_silent : (kind : CapKind) → (number_of kind ≡ number → ⊥) → Silent given (kind_said s kind)
    kind_silent kind apart = silent_below given (object_said s kind) (size_of s.items kind) (λ m there. object_silent kind m (λ same _. apart same))

    kind_picked : (kind : CapKind) → n < size_of s.items kind → filter_map given (kind_said s kind) ≡ filter_map given (object_said s kind n)
    kind_picked kind there = pick given (object_said s kind) (size_of s.items kind) n there (λ m within other. object_silent kind m (λ _ same. other same))

    -- of all statements only those of the object may give something
    pub picked : (kind : CapKind) → is_object kind ≡ true → number_of kind ≡ number → n < size_of s.items kind → filter_map given (statements_of s) ≡ filter_map given (object_said s kind n)
    unfolding statements_of
    picked kinds.Page object is there =
        alone (kind_said s kinds.Page) (kind_said s kinds.CapPage) (kind_said s kinds.Gpt) (kind_said s kinds.Endpoint) (kind_said s kinds.Process)
        ∙ rw (kind_silent kinds.CapPage (λ e. omega arith), kind_silent kinds.Gpt (λ e. omega arith), kind_silent kinds.Endpoint (λ e. omega arith), kind_silent kinds.Process (λ e. omega arith)) (append-nil (filter_map given (kind_said s kinds.Page)))
        ∙ kind_picked kinds.Page there
    picked kinds.CapPage object is there =
        alone (kind_said s kinds.Page) (kind_said s kinds.CapPage) (kind_said s kinds.Gpt) (kind_said s kinds.Endpoint) (kind_said s kinds.Process)
        ∙ rw (kind_silent kinds.Page (λ e. omega arith), kind_silent kinds.Gpt (λ e. omega arith), kind_silent kinds.Endpoint (λ e. omega arith), kind_silent kinds.Process (λ e. omega arith)) (append-nil (filter_map given (kind_said s kinds.CapPage)))
        ∙ kind_picked kinds.CapPage there
    picked kinds.Gpt object is there =
        alone (kind_said s kinds.Page) (kind_said s kinds.CapPage) (kind_said s kinds.Gpt) (kind_said s kinds.Endpoint) (kind_said s kinds.Process)
        ∙ rw (kind_silent kinds.Page (λ e. omega arith), kind_silent kinds.CapPage (λ e. omega arith), kind_silent kinds.Endpoint (λ e. omega arith), kind_silent kinds.Process (λ e. omega arith)) (append-nil (filter_map given (kind_said s kinds.Gpt)))
        ∙ kind_picked kinds.Gpt there
    picked kinds.Endpoint object is there =
        alone (kind_said s kinds.Page) (kind_said s kinds.CapPage) (kind_said s kinds.Gpt) (kind_said s kinds.Endpoint) (kind_said s kinds.Process)
        ∙ rw (kind_silent kinds.Page (λ e. omega arith), kind_silent kinds.CapPage (λ e. omega arith), kind_silent kinds.Gpt (λ e. omega arith), kind_silent kinds.Process (λ e. omega arith)) (append-nil (filter_map given (kind_said s kinds.Endpoint)))
        ∙ kind_picked kinds.Endpoint there
    picked kinds.Process object is there =
        alone (kind_said s kinds.Page) (kind_said s kinds.CapPage) (kind_said s kinds.Gpt) (kind_said s kinds.Endpoint) (kind_said s kinds.Process)
        ∙ rw (kind_silent kinds.Page (λ e. omega arith), kind_silent kinds.CapPage (λ e. omega arith), kind_silent kinds.Gpt (λ e. omega arith), kind_silent kinds.Endpoint (λ e. omega arith)) refl
        ∙ kind_picked kinds.Process there
    picked _ object is there = absurd (cc)
