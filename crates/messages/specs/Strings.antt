-- Strings: their spans, accessed in order up to the first that faults. (Coyotos; the limits are this project's.)
use Rattle.std.specs.Prelude.{ℕ, List, [], ◌∷◌, Option, Some, None, Result, Ok, Err}
use Rattle.cap_format.specs.Capability.{Capability}
use Rattle.walk_meaning.specs.declared.kind.Kind.{Kind}
use Rattle.walk_meaning.specs.declared.place.WalkFault.{WalkFault}
use Rattle.walk_engine.specs.declared.hit.Hit.{Hit}
use Rattle.string_move.specs.declared.piece.Piece.{Piece}
use Rattle.string_move.specs.declared.span.Span.{Span}
use Rattle.machine_state.specs.declared.record.Record.{Record}
use Rattle.machine_state.specs.State.{State}
use Rattle.machine_state.specs.Outcome.{Outcome, Touch}
use Rattle.machine_state.specs.DataAccess.{data_access, data_touch, reached}
use Rattle.machine_state.specs.Faulting.{fault_map}
use Rattle.messages.specs.declared.string_fault.StringFault.{StringFault}

-- what comes of the accesses to the spans of a string: the pieces of pages that they reach, the records and touches, each
-- in their order, and the fault of the last, if it faults
pub record Side : Type 0 where
  pub pieces : List Piece
  pub records : List Record
  pub touches : List Touch
  pub fault : Option StringFault

-- the piece of a page where a span of this size lies
abbrev pub piece_of : Hit → ℕ → Piece
piece_of hit size = record { page = hit.page; at = hit.offset; len = size }

-- the access to a span, in front of those to the rest: where it faults it is the last. Its address is that of the span's
-- first byte, in the record and in the fault
abbrev pub span_side : State → ℕ → Kind → Span → Side → Result Hit WalkFault → Side
span_side s q kind span rest (Ok hit) = record {
  pieces = piece_of hit span.size ∷ rest.pieces;
  records = reached q kind span.address hit ∷ rest.records;
  touches = data_touch s q span.address kind ∷ rest.touches;
  fault = rest.fault;
}
span_side s q kind span rest (Err why) = record {
  pieces = [];
  records = [];
  touches = data_touch s q span.address kind ∷ [];
  fault = Some (record { address = span.address; why = why });
}

-- the accesses to these spans by one kind, through the space of process `q`; an access of data changes no state
unfoldable pub side : State → ℕ → Kind → List Span → Side
side s q kind [] = record { pieces = []; records = []; touches = []; fault = None }
side s q kind (span ∷ spans) = span_side s q kind span (side s q kind spans) (data_access s q span.address kind)

-- they as a part of an event
abbrev pub side_outcome : State → Side → Outcome
side_outcome s side = record { state = s; records = side.records; touches = side.touches; changed = [] }

-- a fault with a function applied to its handler, as the meaning is one
abbrev pub string_fault_map : (Capability → Capability) → Option StringFault → Option StringFault
string_fault_map f None = None
string_fault_map f (Some fault) = Some (record { address = fault.address; why = fault_map f fault.why })
