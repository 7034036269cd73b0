-- The accesses to the spans of a string: what was done so far, and what comes of the rest.
use Rattle.std.proofs.Common.{◌≡◌, ℕ, ◌+◌, ◌≤◌, List, [], ◌∷◌, ◌++◌, refl, sym, ap, ◌∙◌, append_assoc, append-nil, arith, Some, None, Result, Ok, Err}
use Rattle.std.specs.List.{sum_by}
use Rattle.std.proofs.lemmas.List.Sums.{sum_by-cons}
use Rattle.walk_meaning.specs.declared.kind.Kind.{Kind}
use Rattle.walk_meaning.specs.declared.place.WalkFault.{WalkFault}
use Rattle.walk_engine.specs.declared.hit.Hit.{Hit}
use Rattle.walk_engine.specs.declared.translator.Translator.{Ghosts as Translator}
use Rattle.string_move.specs.declared.piece.Piece.{Piece}
use Rattle.string_move.specs.declared.span.Span.{Span}
use Rattle.string_move.specs.Move.{size_of_pieces}
use Rattle.string_move.specs.Spans.{Cover, spans}
use Rattle.string_move.proofs.Cuts.{spans_cover}
use Rattle.machine_state.specs.declared.record.Record.{Record}
use Rattle.machine_state.specs.State.{State}
use Rattle.machine_state.specs.Noted.{noted}
use Rattle.machine_state.specs.Outcome.{spent_at, kept_at, spent, kept_after, spared_by}
use Rattle.machine_state.specs.DataAccess.{data_access, data_touch, reached}
use Rattle.messages.specs.Strings.{Side, side, span_side, piece_of}

-- no span
pub side-nil : (s : State) (q : ℕ) (kind : Kind) → side s q kind [] ≡ record { pieces = []; records = []; touches = []; fault = None }
unfolding side
side-nil s q kind = refl

-- a span whose access ends so, and those behind it
pub side-cons : (s : State) (q : ℕ) (kind : Kind) (span : Span) (rest : List Span) (r : Result Hit WalkFault) → data_access s q span.address kind ≡ r
    → side s q kind (span ∷ rest) ≡ span_side s q kind span (side s q kind rest) r
unfolding side
side-cons s q kind span rest r e = ap (span_side s q kind span (side s q kind rest)) e

-- ---- what was done so far, and what comes of the rest, is what comes of all

module _ {T : Type 0} (t : Translator T) (notes : Record → List Record) (Elsewhere : ℕ → Type 0) where
  -- with the translator, what was told and fetched at the start, and with the pieces, the translator, and what is told and
  -- fetched now
  pub record IsOnWay (all : Side) (m : T) (told0 : List Record) (fetches0 : ℕ) (rest : Side) (pieces : List Piece) (n : T) (told : List Record) (fetches : ℕ) : Type 0 where
    pub pieces_are : pieces ++ rest.pieces ≡ all.pieces
    pub fault_is : rest.fault ≡ all.fault
    pub records_are : told ++ noted notes rest.records ≡ told0 ++ noted notes all.records
    pub counted : fetches + spent t.cost t.after t.without (t.kept n) rest.touches ≡ fetches0 + spent t.cost t.after t.without (t.kept m) all.touches
    pub kept : kept_after t.cost t.after t.without (t.kept n) rest.touches ≡ kept_after t.cost t.after t.without (t.kept m) all.touches
    pub others : (h : ℕ) → Elsewhere h → spared_by t.after t.without t.spared t.purged (t.kept n) rest.touches (t.cache n h) ≡ spared_by t.after t.without t.spared t.purged (t.kept m) all.touches (t.cache m h)

  -- after an access more, which reached
  pub on_way_more : (all : Side) (m : T) (told0 : List Record) (fetches0 : ℕ) (s : State) (q : ℕ) (kind : Kind) (span : Span) (rest : List Span) (hit : Hit) (pieces : List Piece) (n : T) (told : List Record) (fetches : ℕ) (n1 : T) (fetches1 : ℕ)
      → IsOnWay all m told0 fetches0 (side s q kind (span ∷ rest)) pieces n told fetches
      → data_access s q span.address kind ≡ Ok hit
      → fetches1 ≡ fetches + spent_at t.cost t.after t.without (t.kept n) (data_touch s q span.address kind)
      → t.kept n1 ≡ kept_at t.cost t.after t.without (t.kept n) (data_touch s q span.address kind)
      → ((h : ℕ) → Elsewhere h → t.cache n1 h ≡ spared_by t.after t.without t.spared t.purged (t.kept n) (data_touch s q span.address kind ∷ []) (t.cache n h))
      → IsOnWay all m told0 fetches0 (side s q kind rest) (pieces ++ piece_of hit span.size ∷ []) n1 (told ++ notes (reached q kind span.address hit)) fetches1
  on_way_more all m told0 fetches0 s q kind span rest hit pieces n told fetches n1 fetches1 way e counted kept spared =
      let is = side-cons s q kind span rest (Ok hit) e in
      let left = side s q kind rest in
      record {
        pieces_are = append_assoc pieces (piece_of hit span.size ∷ []) left.pieces ∙ (ap (λ (x : Side). pieces ++ x.pieces) (sym is) ∙ way.pieces_are);
        fault_is = ap (λ (x : Side). x.fault) (sym is) ∙ way.fault_is;
        records_are = append_assoc told (notes (reached q kind span.address hit)) (noted notes left.records) ∙ (ap (λ (x : Side). told ++ noted notes x.records) (sym is) ∙ way.records_are);
        counted = rw (kept, counted) (let sum = ap (λ (x : Side). spent t.cost t.after t.without (t.kept n) x.touches) is in let before = way.counted in omega (arith, sum, before));
        kept = rw kept (ap (λ (x : Side). kept_after t.cost t.after t.without (t.kept n) x.touches) (sym is) ∙ way.kept);
        others = λ h elsewhere.
            ap (λ j. spared_by t.after t.without t.spared t.purged j left.touches (t.cache n1 h)) kept
            ∙ (ap (λ c. spared_by t.after t.without t.spared t.purged (kept_at t.cost t.after t.without (t.kept n) (data_touch s q span.address kind)) left.touches c) (spared h elsewhere)
            ∙ (ap (λ (x : Side). spared_by t.after t.without t.spared t.purged (t.kept n) x.touches (t.cache n h)) (sym is) ∙ way.others h elsewhere));
      }

  -- all of it was done: these pieces, and all else that comes of it
  pub record HasCome (all : Side) (m : T) (told0 : List Record) (fetches0 : ℕ) (pieces : List Piece) (n : T) (told : List Record) (fetches : ℕ) : Type 0 where
    pub pieces_are : pieces ≡ all.pieces
    pub records_are : told ≡ told0 ++ noted notes all.records
    pub counted : fetches ≡ fetches0 + spent t.cost t.after t.without (t.kept m) all.touches
    pub kept : t.kept n ≡ kept_after t.cost t.after t.without (t.kept m) all.touches
    pub others : (h : ℕ) → Elsewhere h → t.cache n h ≡ spared_by t.after t.without t.spared t.purged (t.kept m) all.touches (t.cache m h)

  -- no span is left
  pub on_way_end : (all : Side) (m : T) (told0 : List Record) (fetches0 : ℕ) (s : State) (q : ℕ) (kind : Kind) (pieces : List Piece) (n : T) (told : List Record) (fetches : ℕ)
      → IsOnWay all m told0 fetches0 (side s q kind []) pieces n told fetches → HasCome all m told0 fetches0 pieces n told fetches × (None ≡ all.fault)
  on_way_end all m told0 fetches0 s q kind pieces n told fetches way =
      let is = side-nil s q kind in (
        record {
          pieces_are = sym (append-nil pieces) ∙ (ap (λ (x : Side). pieces ++ x.pieces) (sym is) ∙ way.pieces_are);
          records_are = sym (append-nil told) ∙ (ap (λ (x : Side). told ++ noted notes x.records) (sym is) ∙ way.records_are);
          counted = let none = ap (λ (x : Side). spent t.cost t.after t.without (t.kept n) x.touches) is in let sum = way.counted in omega (arith, none, sum);
          kept = ap (λ (x : Side). kept_after t.cost t.after t.without (t.kept n) x.touches) (sym is) ∙ way.kept;
          others = λ h elsewhere. ap (λ (x : Side). spared_by t.after t.without t.spared t.purged (t.kept n) x.touches (t.cache n h)) (sym is) ∙ way.others h elsewhere;
        },
        ap (λ (x : Side). x.fault) (sym is) ∙ way.fault_is,
      )

  -- an access faulted
  pub on_way_fault : (all : Side) (m : T) (told0 : List Record) (fetches0 : ℕ) (s : State) (q : ℕ) (kind : Kind) (span : Span) (rest : List Span) (why : WalkFault) (pieces : List Piece) (n : T) (told : List Record) (fetches : ℕ) (n1 : T) (fetches1 : ℕ)
      → IsOnWay all m told0 fetches0 (side s q kind (span ∷ rest)) pieces n told fetches
      → data_access s q span.address kind ≡ Err why
      → fetches1 ≡ fetches + spent_at t.cost t.after t.without (t.kept n) (data_touch s q span.address kind)
      → t.kept n1 ≡ kept_at t.cost t.after t.without (t.kept n) (data_touch s q span.address kind)
      → ((h : ℕ) → Elsewhere h → t.cache n1 h ≡ spared_by t.after t.without t.spared t.purged (t.kept n) (data_touch s q span.address kind ∷ []) (t.cache n h))
      → HasCome all m told0 fetches0 pieces n1 told fetches1 × (Some (record { address = span.address; why = why }) ≡ all.fault)
  on_way_fault all m told0 fetches0 s q kind span rest why pieces n told fetches n1 fetches1 way e counted kept spared =
      let is = side-cons s q kind span rest (Err why) e in (
        record {
          pieces_are = sym (append-nil pieces) ∙ (ap (λ (x : Side). pieces ++ x.pieces) (sym is) ∙ way.pieces_are);
          records_are = sym (append-nil told) ∙ (ap (λ (x : Side). told ++ noted notes x.records) (sym is) ∙ way.records_are);
          counted = rw counted (let sum = ap (λ (x : Side). spent t.cost t.after t.without (t.kept n) x.touches) is in let before = way.counted in omega (arith, sum, before));
          kept = rw kept (ap (λ (x : Side). kept_after t.cost t.after t.without (t.kept n) x.touches) (sym is) ∙ way.kept);
          others = λ h elsewhere. spared h elsewhere ∙ (ap (λ (x : Side). spared_by t.after t.without t.spared t.purged (t.kept n) x.touches (t.cache n h)) (sym is) ∙ way.others h elsewhere);
        },
        ap (λ (x : Side). x.fault) (sym is) ∙ way.fault_is,
      )

-- ---- how many bytes the pieces have

-- how many bytes spans have
abbrev pub size_of_spans : List Span → ℕ
size_of_spans ss = sum_by (λ (s : Span). s.size) ss

size_of_spans-cons : (s : Span) (ss : List Span) → size_of_spans (s ∷ ss) ≡ s.size + size_of_spans ss
size_of_spans-cons s ss = sum_by-cons (λ (s : Span). s.size) s ss

size_of_pieces-cons : (piece : Piece) (pieces : List Piece) → size_of_pieces (piece ∷ pieces) ≡ piece.len + size_of_pieces pieces
size_of_pieces-cons piece pieces = sum_by-cons (λ (p : Piece). p.len) piece pieces

-- spans that cover a string have its bytes
covered_size : (ss : List Span) (at end : ℕ) → Cover at end ss → at + size_of_spans ss ≡ end
covered_size [] at end covers = omega (arith, covers)
covered_size (s ∷ ss) at end covers = let rest = covered_size ss (at + s.size) end covers.2 in omega (arith, rest, size_of_spans-cons s ss)

-- the pieces that are reached have no more bytes than the spans
pub side_within : (s : State) (q : ℕ) (kind : Kind) (ss : List Span) → size_of_pieces (side s q kind ss).pieces ≤ size_of_spans ss
unfolding side
side_within s q kind [] = omega arith
side_within s q kind (span ∷ rest) = by (data_access s q span.address kind) (side_within s q kind rest)
  where
    by : (r : Result Hit WalkFault) → size_of_pieces (side s q kind rest).pieces ≤ size_of_spans rest → size_of_pieces (span_side s q kind span (side s q kind rest) r).pieces ≤ size_of_spans (span ∷ rest)
    by (Ok hit) below = omega (arith, below, size_of_spans-cons span rest, size_of_pieces-cons (piece_of hit span.size) (side s q kind rest).pieces)
    by (Err why) below = omega arith

-- and as many, where no access faults
pub side_whole : (s : State) (q : ℕ) (kind : Kind) (ss : List Span) → (side s q kind ss).fault ≡ None → size_of_pieces (side s q kind ss).pieces ≡ size_of_spans ss
unfolding side
side_whole s q kind [] none = refl
side_whole s q kind (span ∷ rest) none = by (data_access s q span.address kind) (λ fine. side_whole s q kind rest fine) none
  where
    by : (r : Result Hit WalkFault) → ((side s q kind rest).fault ≡ None → size_of_pieces (side s q kind rest).pieces ≡ size_of_spans rest)
        → (span_side s q kind span (side s q kind rest) r).fault ≡ None → size_of_pieces (span_side s q kind span (side s q kind rest) r).pieces ≡ size_of_spans (span ∷ rest)
    by (Ok hit) equal fine = let same = equal fine in omega (arith, same, size_of_spans-cons span rest, size_of_pieces-cons (piece_of hit span.size) (side s q kind rest).pieces)
    by (Err why) equal fine = absurd cc

-- the pieces of a string have no more bytes than it
pub string_within : (s : State) (q : ℕ) (kind : Kind) (at len : ℕ) → size_of_pieces (side s q kind (spans at len)).pieces ≤ len
string_within s q kind at len =
    let below = side_within s q kind (spans at len) in
    let all = covered_size (spans at len) at (at + len) (spans_cover at len) in
    omega (arith, below, all)

-- and as many, where no access faults
pub string_whole : (s : State) (q : ℕ) (kind : Kind) (at len : ℕ) → (side s q kind (spans at len)).fault ≡ None → size_of_pieces (side s q kind (spans at len)).pieces ≡ len
string_whole s q kind at len none =
    let same = side_whole s q kind (spans at len) none in
    let all = covered_size (spans at len) at (at + len) (spans_cover at len) in
    omega (arith, same, all)
