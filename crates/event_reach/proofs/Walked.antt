-- The accesses to a string: wherever processes stand they are the same, and those that were made with those of the rest
-- are all.
use Rattle.std.proofs.Common.{◌≡◌, ℕ, List, [], ◌∷◌, ◌++◌, refl, sym, ap, ◌∙◌, append_assoc, append-nil, Some, None, Ok, Err}
use Rattle.schedules.specs.Queues.{QueuesValue}
use Rattle.walk_meaning.specs.declared.kind.Kind.{Kind}
use Rattle.walk_meaning.specs.declared.place.WalkFault.{WalkFault}
use Rattle.walk_engine.specs.declared.hit.Hit.{Hit}
use Rattle.string_move.specs.declared.piece.Piece.{Piece}
use Rattle.string_move.specs.declared.span.Span.{Span}
use Rattle.machine_state.specs.State.{State}
use Rattle.machine_state.specs.Setters.{set_queues}
use Rattle.machine_state.specs.DataAccess.{data_access}
use Rattle.messages.specs.Strings.{Side, side, span_side, piece_of}
use Rattle.messages.proofs.Sides.{side-nil, side-cons}

-- where processes stand makes no difference
pub side_anywhere : (s : State) (queues : QueuesValue) (q : ℕ) (kind : Kind) (spans : List Span) → side (set_queues s queues) q kind spans ≡ side s q kind spans
unfolding side
side_anywhere s queues q kind [] = refl
side_anywhere s queues q kind (span ∷ spans) = ap (λ (rest : Side). span_side s q kind span rest (data_access s q span.address kind)) (side_anywhere s queues q kind spans)

-- these pieces were reached, and those of the rest behind them are all; the rest ends as all do
pub record IsOnWay (all rest : Side) (pieces : List Piece) : Type 0 where
  pub pieces_are : pieces ++ rest.pieces ≡ all.pieces
  pub fault_is : rest.fault ≡ all.fault

-- one more is reached
pub on_way_more : (all : Side) (s : State) (q : ℕ) (kind : Kind) (span : Span) (rest : List Span) (hit : Hit) (pieces : List Piece)
    → IsOnWay all (side s q kind (span ∷ rest)) pieces → data_access s q span.address kind ≡ Ok hit
    → IsOnWay all (side s q kind rest) (pieces ++ piece_of hit span.size ∷ [])
on_way_more all s q kind span rest hit pieces way reached =
    let is = side-cons s q kind span rest (Ok hit) reached in
    record {
      pieces_are = append_assoc pieces (piece_of hit span.size ∷ []) (side s q kind rest).pieces ∙ (ap (λ (x : Side). pieces ++ x.pieces) (sym is) ∙ way.pieces_are);
      fault_is = ap (λ (x : Side). x.fault) (sym is) ∙ way.fault_is;
    }

-- none is left
pub on_way_end : (all : Side) (s : State) (q : ℕ) (kind : Kind) (pieces : List Piece) → IsOnWay all (side s q kind []) pieces → (pieces ≡ all.pieces) × (None ≡ all.fault)
on_way_end all s q kind pieces way =
    let is = side-nil s q kind in (
      sym (append-nil pieces) ∙ (ap (λ (x : Side). pieces ++ x.pieces) (sym is) ∙ way.pieces_are),
      ap (λ (x : Side). x.fault) (sym is) ∙ way.fault_is,
    )

-- one faults
pub on_way_fault : (all : Side) (s : State) (q : ℕ) (kind : Kind) (span : Span) (rest : List Span) (why : WalkFault) (pieces : List Piece)
    → IsOnWay all (side s q kind (span ∷ rest)) pieces → data_access s q span.address kind ≡ Err why
    → (pieces ≡ all.pieces) × (Some (record { address = span.address; why = why }) ≡ all.fault)
on_way_fault all s q kind span rest why pieces way failed =
    let is = side-cons s q kind span rest (Err why) failed in (
      sym (append-nil pieces) ∙ (ap (λ (x : Side). pieces ++ x.pieces) (sym is) ∙ way.pieces_are),
      ap (λ (x : Side). x.fault) (sym is) ∙ way.fault_is,
    )
