-- What holds of every row by its shape.
use Rattle.std.proofs.Common.{◌≡◌, ◌≢◌, Bool, true, false, List, [], ◌∷◌, map, refl, ap, ℕ, ◌==◌, if◌then◌else◌, sym}
use Rattle.std.proofs.lemmas.Bool.{cond_both}
use Rattle.cap_format.specs.declared.code.Code.{Code}
use Rattle.cap_format.specs.declared.code.Code.TheVariants.{Ok as OkCode, NoAccess, RequestError, CountSpent, UnknownRequest}
use Rattle.cap_format.specs.Capability.{Capability}
use Rattle.operations.specs.Change.{Change, PageIs, CapPageIs, SlotIs, HeaderIs, EndpointIs, ProcessIs, Left, Readied, Woken, Destroyed, item_of, item_in}
use Rattle.operations.specs.Row.{Row, Answer, Settled, nothing, refused, granted, settled, reply_of, settled_in}
use Rattle.operations.specs.Meaning.{reply_map}
use Rattle.operations.proofs.Mapped.{change_map, answer_map, settled_map}

-- what holds of every refusal and of the answer holds of the row
pub by_row : (P : Settled → Type 0) → ((code : Code) → P (refused code)) → (row : Row) → P (granted row.answer) → P (settled row)
by_row P refusal row answer =
    cond_both row.no_access _ _ P (λ e. refusal NoAccess) (λ e.
    cond_both row.request_error _ _ P (λ e. refusal RequestError) (λ e.
    cond_both row.count_spent _ _ P (λ e. refusal CountSpent) (λ e. answer)))

-- ---- tables

infixr 5 ◌▸◌
-- what is so of a row, and what is so of those after it
abbrev pub ◌▸◌ : {A B : Type 0} → A → B → A × B
here ▸ there = (here, there)

-- this holds of each row of a table
abbrev pub EachRow : (Row → Type 0) → List (ℕ × Row) → Type 0
EachRow Q [] = Unit {0}
EachRow Q (entry ∷ rows) = Q entry.1 × EachRow Q rows

-- what holds of a request that has no row, and follows from what is so of each row, holds of whatever a table comes to
pub by_rows : (P : Settled → Type 0) (Q : Row → Type 0) → ((row : Row) → Q row → P (settled row)) → P (refused UnknownRequest)
    → (rows : List (ℕ × Row)) → EachRow Q rows → (n : ℕ) → P (settled_in rows n)
by_rows P Q step unknown [] each n = unknown
by_rows P Q step unknown (entry ∷ rows) each n = cond_both (n == entry.0) _ _ P (λ e. step entry.1 each.0) (λ e. by_rows P Q step unknown rows each.1 n)

-- this holds of the answer of each row of a table
abbrev pub EachAnswer : (Settled → Type 0) → List (ℕ × Row) → Type 0
EachAnswer P = EachRow (λ row. P (granted row.answer))

-- what holds of every refusal and of each answer holds of whatever a table comes to
pub by_table : (P : Settled → Type 0) → ((code : Code) → P (refused code)) → (rows : List (ℕ × Row)) → EachAnswer P rows → (n : ℕ) → P (settled_in rows n)
by_table P refusal = by_rows P (λ row. P (granted row.answer)) (by_row P refusal) (refusal UnknownRequest)

-- two tables have the same numbers, and this holds of any two rows with the same
abbrev pub EachPair : (Row → Row → Type 0) → List (ℕ × Row) → List (ℕ × Row) → Type 0
EachPair R [] [] = Unit {0}
EachPair R (entry ∷ rows) (other ∷ others) = ((entry.0 ≡ other.0) × R entry.1 other.1) × EachPair R rows others
EachPair R rows others = ⊥

-- one of two on each side
either_both : {A : Type 0} (P : A → A → Type 0) (b : Bool) (x y z u : A) → P x z → P y u → P (if b then x else y) (if b then z else u)
either_both P true x y z u here there = here
either_both P false x y z u here there = there

-- what holds of two requests that have no row, and of what any two such rows come to, holds of whatever two tables come to
pub by_pairs : (P : Settled → Settled → Type 0) → P (refused UnknownRequest) (refused UnknownRequest)
    → (rows others : List (ℕ × Row)) → EachPair (λ row other. P (settled row) (settled other)) rows others → (n : ℕ) → P (settled_in rows n) (settled_in others n)
by_pairs P unknown [] [] each n = unknown
by_pairs P unknown (entry ∷ rows) (other ∷ others) each n =
    rw (sym each.0.0) (either_both P (n == entry.0) (settled entry.1) (settled_in rows n) (settled other.1) (settled_in others n) each.0.1 (by_pairs P unknown rows others each.1 n))
by_pairs P unknown [] (other ∷ others) each n = absurd each
by_pairs P unknown (entry ∷ rows) [] each n = absurd each

-- ---- what a row means

-- the row with another answer and the same refusals
abbrev pub answering : Row → Answer → Row
answering row answer = record row { answer = answer }

-- what a row comes to, as it means, is what the row comes to that answers what its answer means
pub settled-map : (f : Capability → Capability) (row : Row) (answer : Answer) → answer_map f row.answer ≡ answer → settled_map f (settled row) ≡ settled (answering row answer)
settled-map f row answer e = by row.no_access row.request_error row.count_spent
  where
    by : (a b c : Bool) → settled_map f (settled (record { no_access = a; request_error = b; count_spent = c; answer = row.answer })) ≡ settled (record { no_access = a; request_error = b; count_spent = c; answer = answer })
    by true b c = refl
    by false true c = refl
    by false false true = refl
    by false false false = ap granted e

-- a refusal does nothing and tells nothing
pub refused_nothing : (row : Row) → (settled row).code ≢ OkCode → (settled row).answer ≡ nothing
refused_nothing row = by_row (λ s. s.code ≢ OkCode → s.answer ≡ nothing) (λ code not. refl) row (λ not. absurd (not refl))

pub refused_in : (rows : List (ℕ × Row)) (n : ℕ) → (settled_in rows n).code ≢ OkCode → (settled_in rows n).answer ≡ nothing
refused_in [] n = λ not. refl
refused_in (entry ∷ rows) n = cond_both (n == entry.0) _ _ (λ (s : Settled). s.code ≢ OkCode → s.answer ≡ nothing) (λ e. refused_nothing entry.1) (λ e. refused_in rows n)

-- a change is of the item that its meaning is of
pub item_of-map : (f : Capability → Capability) (change : Change) → item_of (change_map f change) ≡ item_of change
item_of-map f (PageIs n page) = refl
item_of-map f (CapPageIs n page) = refl
item_of-map f (SlotIs g i c) = refl
item_of-map f (HeaderIs g header) = refl
item_of-map f (EndpointIs e endpoint) = refl
item_of-map f (ProcessIs p process) = refl
item_of-map f (Left p) = refl
item_of-map f (Readied p) = refl
item_of-map f (Woken p) = refl
item_of-map f (Destroyed kind n) = refl

pub item_in-map : (f : Capability → Capability) (changes : List Change) → item_in (map (change_map f) changes) ≡ item_in changes
item_in-map f [] = refl
item_in-map f (change ∷ changes) = rw (item_of-map f change, item_in-map f changes) refl

-- a reply means the reply of what was meant
pub reply_of-map : (f : Capability → Capability) (s : Settled) → reply_map f (reply_of s) ≡ reply_of (settled_map f s)
reply_of-map f s = rw (item_in-map f s.answer.changes) refl
