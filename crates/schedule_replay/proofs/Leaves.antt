-- How a text that is written in pieces comes to its end.
use Rattle.std.proofs.Common.{◌≡◌, ◌<◌, ◌+◌, ℕ, List, [], ◌++◌, Option, Result, Ok, Err, OnOk, OnErr, length, take, sym, ap, ◌∙◌, subst, append_assoc, append-nil, arith}
use Rattle.std.proofs.Math.Seq.{take-append-add}
use Rattle.std.proofs.lemmas.List.{take-append-le, length-append}
use Rattle.std.specs.Io.KnownBytes.{Appends}
use Rattle.std.proofs.KnownBytes.{Appends-trans}
use Rattle.coy_io.specs.Pieces.{AppendsSome}
use Rattle.coy_io.specs.Written.{Writes}
use Rattle.schedule_replay.specs.Leaves.{LeavesText}

-- one more piece was written
pub leaves_less : (old now new : Option (List ℕ)) (whole piece rest : List ℕ) → LeavesText old now whole (piece ++ rest) → Appends now new piece → LeavesText old new whole rest
leaves_less old now new whole piece rest l more = record {
  front = l.front ++ piece;
  written = Appends-trans old now new l.front piece l.written more;
  split = l.split ∙ sym (append_assoc l.front piece rest);
}

-- nothing is left
pub leaves_none : (old now : Option (List ℕ)) (whole : List ℕ) → LeavesText old now whole [] → Appends old now whole
leaves_none old now whole l = subst (Appends old now) (sym (l.split ∙ append-nil l.front)) l.written

-- writing failed in the next piece
pub leaves_some : (old now new : Option (List ℕ)) (whole piece rest : List ℕ) → LeavesText old now whole (piece ++ rest) → AppendsSome now new piece → AppendsSome old new whole
leaves_some old now new whole piece rest l some =
    let n = some.0 in
    let below : n < length piece = some.1 in
    let same : take (length l.front + n) whole ≡ l.front ++ take n piece =
    ap (take (length l.front + n)) l.split ∙ take-append-add l.front (piece ++ rest) n ∙ ap (λ t. l.front ++ t) (take-append-le n piece rest (omega arith)) in
    let size : length whole ≡ length l.front + (length piece + length rest) =
    ap length l.split ∙ length-append l.front (piece ++ rest) ∙ ap (λ k. length l.front + k) (length-append piece rest) in
    (length l.front + n, omega arith, subst (Appends old new) (sym same) (Appends-trans old now new l.front (take n piece) l.written some.2))

-- ---- where a part of the text is kept back, to be written with what comes behind it

-- more text comes behind
pub leaves_more : (old now : Option (List ℕ)) (whole rest more : List ℕ) → LeavesText old now whole rest → LeavesText old now (whole ++ more) (rest ++ more)
leaves_more old now whole rest more l = record {
  front = l.front;
  written = l.written;
  split = ap (λ text. text ++ more) l.split ∙ append_assoc l.front rest more;
}

-- a part of what was left was written
pub leaves_on : (old now new : Option (List ℕ)) (whole text rest behind : List ℕ) → LeavesText old now whole (text ++ behind) → LeavesText now new text rest → LeavesText old new whole (rest ++ behind)
leaves_on old now new whole text rest behind l m = record {
  front = l.front ++ m.front;
  written = Appends-trans old now new l.front m.front l.written m.written;
  split =
      l.split ∙ ap (λ more. l.front ++ (more ++ behind)) m.split
      ∙ ap (λ more. l.front ++ more) (append_assoc m.front rest behind) ∙ sym (append_assoc l.front m.front (rest ++ behind));
}

-- what was kept back is written at the end
pub leaves_done : {T E : Type 0} (r : Result T E) (old now new : Option (List ℕ)) (whole text : List ℕ) → LeavesText old now whole (text ++ [])
    → OnOk r (Appends now new text) → OnErr r (AppendsSome now new text) → Writes old new r whole
leaves_done (Ok v) old now new whole text l done cut = leaves_none old new whole (leaves_less old now new whole text [] l done)
leaves_done (Err e) old now new whole text l done cut = leaves_some old now new whole text [] l cut
