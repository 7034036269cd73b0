-- Laws of the lines that a reader gave between two moments, where the bytes to come are known and where not.
use Rattle.std.specs.Prelude.{◌≡◌, ◌≤◌, ℕ, List, [], ◌∷◌, ◌++◌, length, false, Option, None, Some, Ok, if◌then◌else◌}
use Rattle.std.specs.Io.KnownBytes.{Keeps, Consumes, prepend_known}
use Rattle.std.proofs.Common.{refl, sym, ap, ◌∙◌, subst, append_assoc, append-nil, arith}
use Rattle.std.proofs.KnownBytes.{Consumes-nil, Consumes-trans, Consumes-kept}
use Rattle.coy_io.specs.Limits.{line_limit}
use Rattle.coy_io.specs.Lines.{Part, Line, IsUnfinished, whole_lines}
use Rattle.coy_io.proofs.LineLaws.{short_part, whole_lines-unfinished, whole_lines-line_in_front}
use Rattle.coy_io.specs.Reader.{Reader, IsLine, IsSpent, line_feed_of, bytes_ahead, new_reader, Advances, AreLines, GivesLines}

-- no part was given
pub Advances-nil : (parts : Option (List Part)) → Advances parts parts []
Advances-nil None = tt
Advances-nil (Some parts) = refl

-- some parts were given, and then others
pub Advances-trans : (old mid new : Option (List Part)) (first given : List Part) → Advances old mid first → Advances mid new given → Advances old new (first ++ given)
Advances-trans None mid new first given p q = tt
Advances-trans (Some x) None new first given p q = absurd p
Advances-trans (Some x) (Some y) None first given p q = absurd q
Advances-trans (Some x) (Some y) (Some z) first given p q =
    p ∙ ap (λ parts. first ++ parts) q ∙ sym (append_assoc first given z)

-- a line with its line feed
pub AreLines-line : (line : List ℕ) → IsUnfinished line → length line ≤ line_limit → AreLines (line ++ 10 ∷ []) (Line line ∷ [])
AreLines-line line u short behind =
    ap (whole_lines []) (append_assoc line (10 ∷ []) behind) ∙ whole_lines-line_in_front line behind u
    ∙ ap (λ p. p ∷ whole_lines [] behind) (short_part line short)

-- lines, and then others
pub AreLines-append : (front bytes : List ℕ) (first given : List Part) → AreLines front first → AreLines bytes given → AreLines (front ++ bytes) (first ++ given)
AreLines-append front bytes first given p q behind =
    ap (whole_lines []) (append_assoc front bytes behind) ∙ p (bytes ++ behind)
    ∙ ap (λ parts. first ++ parts) (q behind) ∙ sym (append_assoc first given (whole_lines [] behind))

-- nothing was given
pub GivesLines-nil : (held : Option (List ℕ)) → GivesLines held held []
GivesLines-nil held = record { bytes = []; consumed = Consumes-nil held; lines = λ behind. refl }

-- some lines were given, and then others
pub GivesLines-trans : (old mid new : Option (List ℕ)) (first given : List Part) → GivesLines old mid first → GivesLines mid new given → GivesLines old new (first ++ given)
GivesLines-trans old mid new first given p q = record {
  bytes = p.bytes ++ q.bytes;
  consumed = Consumes-trans old mid new p.bytes q.bytes p.consumed q.consumed;
  lines = AreLines-append p.bytes q.bytes first given p.lines q.lines;
}

-- some lines were given, and then no byte was lost
pub GivesLines-kept : (old mid new : Option (List ℕ)) (given : List Part) → GivesLines old mid given → Keeps mid new → GivesLines old new given
GivesLines-kept old mid new given p kept = record {
  bytes = p.bytes;
  consumed = Consumes-kept old mid new p.bytes p.consumed kept;
  lines = p.lines;
}

-- a reader gave one line, and its input goes on or ends with that line's feed
pub GivesLines-line : (n : ℕ) (reader : Reader) (old new : Option (List ℕ)) → reader.ended ≡ false → IsLine n reader.line → IsSpent (Ok (Some n)) reader old new
    → GivesLines old new (Line reader.line ∷ [])
GivesLines-line n reader old new ended line spent =
    let same = ap (λ b. reader.line ++ line_feed_of b) ended in
    record {
      bytes = reader.line ++ 10 ∷ [];
      consumed = subst (Consumes old new) same spent;
      lines = AreLines-line reader.line line.unfinished (omega (arith, line.len, line.short));
    }

-- behind whole lines the front of a line makes no other
pub AreLines-unfinished : (bytes rest : List ℕ) (given : List Part) → AreLines bytes given → IsUnfinished rest → whole_lines [] (bytes ++ rest) ≡ given
AreLines-unfinished bytes rest given lines u =
    lines rest ∙ ap (λ parts. given ++ parts) (whole_lines-unfinished rest [] u) ∙ append-nil given

taken : (held held' : Option (List ℕ)) (bytes rest : List ℕ) → Consumes (prepend_known [] held) (prepend_known rest held') bytes → Consumes held held' (bytes ++ rest)
taken None held' bytes rest consumed = tt
taken (Some x) None bytes rest consumed = absurd consumed
taken (Some x) (Some y) bytes rest consumed = consumed ∙ sym (append_assoc bytes rest y)

-- where a reader that was new holds the front of a line, the lines given are the whole lines of the bytes taken
pub GivesLines-taken : (reader : Reader) (held held' : Option (List ℕ)) (given : List Part) → reader.ended ≡ false → IsUnfinished reader.rest
    → GivesLines (bytes_ahead new_reader held) (bytes_ahead reader held') given → (bytes : List ℕ) × Consumes held held' bytes × (whole_lines [] bytes ≡ given)
GivesLines-taken reader held held' given ended u gives =
    let now = ap (λ b. prepend_known reader.rest (if b then Some [] else held')) ended in
    let consumed = subst (λ new. Consumes (prepend_known [] held) new gives.bytes) now gives.consumed in
    (gives.bytes ++ reader.rest, taken held held' gives.bytes reader.rest consumed, AreLines-unfinished gives.bytes reader.rest given gives.lines u)

-- what a reader that was new gave before these bytes, which it or its source still had, are the whole lines of the bytes before
pub GivesLines-before : (last : List ℕ) (held held' : Option (List ℕ)) (given : List Part)
    → GivesLines (bytes_ahead new_reader held) (prepend_known last held') given
    → (bytes : List ℕ) × Consumes held held' (bytes ++ last) × (whole_lines [] bytes ≡ given)
GivesLines-before last held held' given gives =
    let whole = AreLines-unfinished gives.bytes [] given gives.lines refl in
    (gives.bytes, taken held held' gives.bytes last gives.consumed, ap (whole_lines []) (sym (append-nil gives.bytes)) ∙ whole)
