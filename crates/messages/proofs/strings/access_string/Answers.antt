use Rattle.std.proofs.Common.{◌≡◌, ℕ, ◌≤◌, List, None, sym, ap, ◌∙◌, subst}
use Rattle.std.specs.List.{All}
use Rattle.string_move.specs.declared.span.Span.{Span}
use Rattle.string_move.specs.declared.piece.Piece.{Piece}
use Rattle.string_move.specs.Spans.{IsInOnePage, spans}
use Rattle.string_move.specs.Move.{size_of_pieces}
use Rattle.string_move.proofs.Cuts.{spans_in_one_page}
use Rattle.object_store.specs.Meaning.{meaning}
use Rattle.walk_meaning.specs.declared.kind.Kind.{Kind}
use Rattle.machine_state.specs.State.{State, state_of}
use Rattle.messages.specs.Strings.{side, string_fault_map}
use Rattle.messages.proofs.Sides.{string_within, string_whole}
use Rattle.messages.proofs.strings.access_string.Goals as goal

pub access_spans-requires-clause-in_pages : goal.access_spans-requires-clause-in_pages
access_spans-requires-clause-in_pages g c =
    let InPages : List Span → Type 0 = λ list. All IsInOnePage list in
    subst InPages (sym c.cut-spans.ensures.value) (spans_in_one_page c.args.at c.args.size)

-- what was found of these spans is a string's, if they are its spans
found_within : (s : State) (q : ℕ) (kind : Kind) (at len : ℕ) (list : List Span) (pieces : List Piece) → list ≡ spans at len → pieces ≡ (side s q kind list).pieces → size_of_pieces pieces ≤ len
found_within s q kind at len list pieces spans_are are = rw (are, spans_are) (string_within s q kind at len)

found_whole : (s : State) (q : ℕ) (kind : Kind) (at len : ℕ) (list : List Span) (pieces : List Piece) → list ≡ spans at len → pieces ≡ (side s q kind list).pieces → (side s q kind list).fault ≡ None → size_of_pieces pieces ≡ len
found_whole s q kind at len list pieces spans_are are none = rw (are, spans_are) (string_whole s q kind at len (rw spans_are at none))

pub returns-clause-within : goal.returns-clause-within
returns-clause-within g c = found_within (state_of c.args.machine.now) c.args.q c.args.kind c.args.at c.args.size c.cut-spans.result c.access_spans.result.pieces c.cut-spans.ensures.value c.access_spans.ensures.pieces

pub returns-clause-whole : goal.returns-clause-whole
returns-clause-whole g c = λ none.
    let s = state_of c.args.machine.now in
    let fine : (side s c.args.q c.args.kind c.cut-spans.result).fault ≡ None = sym c.access_spans.ensures.fault ∙ ap (string_fault_map (meaning c.access_spans.new.machine.objects.items)) none in
    found_whole s c.args.q c.args.kind c.args.at c.args.size c.cut-spans.result c.access_spans.result.pieces c.cut-spans.ensures.value c.access_spans.ensures.pieces fine
