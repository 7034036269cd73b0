-- What a call of `next` does to the lines to come, where the bytes to come are known and where not.
use Rattle.std.proofs.Common.{arith, ◌≡◌, ℕ, ◌+◌, ◌-◌, List, [], ◌∷◌, ◌++◌, length, take, drop, Option, Some, None, Ok, Err, Bool, true, false, refl, sym, ap, subst, ◌∙◌, append_assoc, append-nil, if◌then◌else◌}
use Rattle.std.specs.Prelude.{◌==◌, ◌≤◌, OnSome}
use Rattle.std.specs.Option.{option_map}
use Rattle.std.specs.Io.KnownBytes.{Keeps, Consumes, IsAtEnd, prepend_known}
use Rattle.std.proofs.Math.Seq.{take-length, drop-length}
use Rattle.coy_io.specs.Limits.{window_limit}
use Rattle.coy_io.specs.declared.lines.LineFault.{LineFault}
use Rattle.coy_io.specs.declared.lines.LineFault.TheVariants.{ReadFault, LineTooLong, TooLong}
use Rattle.coy_io.specs.Lines.{Line, parts}
use Rattle.coy_io.specs.Reader.{Reader, bytes_ahead, ahead, line_feed_of, giving, finished, last_taken, Advances, GivesNear, IsDone, IsLine, IsNext}
use Rattle.coy_io.specs.Found.{HasLine, HasFront, IsFound}
use Rattle.std.proofs.lemmas.List.{length-take-le, take-append-drop}
use Rattle.coy_io.proofs.FirstLine.{unfinished_front}
use Rattle.coy_io.proofs.Parts.{line_split, parts-line, parts-long, parts-past, parts-end}

-- the bytes to come are those that were to come, now with the window in front of those left
abbrev pub Moved : List ℕ → Option (List ℕ) → List ℕ → Option (List ℕ) → Type 0
Moved rest held window held' = Keeps (prepend_known rest held) (prepend_known window held')

-- behind the end there is no line
pub IsDone-ended : (reader : Reader) (held : Option (List ℕ)) → reader.ended ≡ true → reader.rest ≡ [] → IsDone (ahead reader held)
unfolding parts
IsDone-ended reader held ended none = rw (ended, none) refl

-- the line that the search found is one
pub IsLine-found : (n : ℕ) (window : List ℕ) (room : ℕ) → HasLine n window room → IsLine n (take n window)
IsLine-found n window room found = record {
  len = sym (length-take-le n window (omega (arith, found.whole)));
  short = found.short;
  unfinished = unfinished_front window n (omega (arith, found.place));
}

advances_line : (held held' : Option (List ℕ)) (rest window : List ℕ) (room n : ℕ) → Moved rest held window held' → HasLine n window room
    → Advances (option_map (parts [] room) (prepend_known rest held))
    (option_map (parts [] (room - (n + 1))) (prepend_known (drop (n + 1) window) held')) (Line (take n window) ∷ [])
advances_line None held' rest window room n moved found = tt
advances_line (Some x) None rest window room n moved found = absurd moved
advances_line (Some x) (Some y) rest window room n moved found = ap (parts [] room) (sym moved) ∙ parts-line n window room y found

-- the line that the search found is the first of those to come
pub Advances-line : (reader : Reader) (held held' : Option (List ℕ)) (window : List ℕ) (n : ℕ) → reader.ended ≡ false
    → Moved reader.rest held window held' → HasLine n window reader.room
    → let new = giving n (n + 1) (record reader { rest = window }) in Advances (ahead reader held) (ahead new held') (Line new.line ∷ [])
Advances-line reader held held' window n ended moved found =
    rw ended (advances_line held held' reader.rest window reader.room n moved found)

consumes_line : (held held' : Option (List ℕ)) (rest window : List ℕ) (room n : ℕ) → Moved rest held window held' → HasLine n window room
    → Consumes (prepend_known rest held) (prepend_known (drop (n + 1) window) held') (take n window ++ 10 ∷ [])
consumes_line None held' rest window room n moved found = tt
consumes_line (Some x) None rest window room n moved found = absurd moved
consumes_line (Some x) (Some y) rest window room n moved found =
    let split = ap (λ l. l ++ y) (line_split window n found.place found.whole) in
    sym moved ∙ split ∙ append_assoc (take n window) (10 ∷ drop (n + 1) window) y
    ∙ sym (append_assoc (take n window) (10 ∷ []) (drop (n + 1) window ++ y))

-- and its bytes, with the line feed, are the first of those to come
pub Consumes-line : (reader : Reader) (held held' : Option (List ℕ)) (window : List ℕ) (n : ℕ) → reader.ended ≡ false
    → Moved reader.rest held window held' → HasLine n window reader.room
    → let new = giving n (n + 1) (record reader { rest = window }) in Consumes (bytes_ahead reader held) (bytes_ahead new held') (new.line ++ line_feed_of new.ended)
Consumes-line reader held held' window n ended moved found =
    rw ended (consumes_line held held' reader.rest window reader.room n moved found)

-- the bytes of what was found and those behind it are those of the window
gives_near : (reader new : Reader) (held held' : Option (List ℕ)) (window : List ℕ) → window ≡ last_taken new → Moved reader.rest held window held'
    → length window ≤ window_limit → GivesNear reader new held held'
gives_near reader new held held' window all moved near = record {
  kept = subst (λ w. Moved reader.rest held w held') all moved;
  near = subst (λ w. length w ≤ window_limit) all near;
}

-- the line that the search found stood in the window, with all that was taken behind it
pub GivesNear-line : (reader : Reader) (held held' : Option (List ℕ)) (window : List ℕ) (n : ℕ) → reader.ended ≡ false
    → Moved reader.rest held window held' → HasLine n window reader.room → length window ≤ window_limit
    → GivesNear reader (giving n (n + 1) (record reader { rest = window })) held held'
GivesNear-line reader held held' window n ended moved found near =
    gives_near reader (giving n (n + 1) (record reader { rest = window })) held held' window
    (rw ended (line_split window n found.place found.whole)) moved near

near_end : (test : Bool) (reader : Reader) (held held' : Option (List ℕ)) (window : List ℕ)
    → Moved reader.rest held window held' → length window ≤ window_limit
    → let now = record reader { rest = window } in
    OnSome (if test then None else Some (length window))
    (GivesNear reader (record (if test then now else giving (length window) (length window) now) { ended = true }) held held')
near_end true reader held held' window moved near = tt
near_end false reader held held' window moved near =
    gives_near reader _ held held' window (sym (take-append-drop (length window) window)) moved near

-- and so did the last line
pub GivesNear-end : (reader : Reader) (held held' : Option (List ℕ)) (window : List ℕ)
    → Moved reader.rest held window held' → length window ≤ window_limit
    → OnSome (if length window == 0 then None else Some (length window)) (GivesNear reader (finished (record reader { rest = window })) held held')
GivesNear-end reader held held' window moved near = near_end (length window == 0) reader held held' window moved near

next_fault : (fault : LineFault) (held held' : Option (List ℕ)) (rest window line : List ℕ) (room : ℕ) → Moved rest held window held'
    → IsFound (Err fault) window room held'
    → IsNext (Err fault) line (option_map (parts [] room) (prepend_known rest held)) (option_map (parts [] room) (prepend_known window held'))
next_fault ReadFault None held' rest window line room moved found = tt
next_fault ReadFault (Some x) None rest window line room moved found = absurd moved
next_fault ReadFault (Some x) (Some y) rest window line room moved found = ap (parts [] room) (sym moved)
next_fault LineTooLong None held' rest window line room moved found = tt
next_fault LineTooLong (Some x) None rest window line room moved found = absurd moved
next_fault LineTooLong (Some x) (Some y) rest window line room moved found =
    let long = parts-long window room y found in
    (long.0, ap (parts [] room) (sym moved) ∙ long.1)
next_fault TooLong None held' rest window line room moved found = tt
next_fault TooLong (Some x) None rest window line room moved found = absurd moved
next_fault TooLong (Some x) (Some y) rest window line room moved found = ([], ap (parts [] room) (sym moved) ∙ parts-past window room y found)

-- each fault has its cause
pub IsNext-fault : (fault : LineFault) (reader : Reader) (held held' : Option (List ℕ)) (window line : List ℕ) → reader.ended ≡ false
    → Moved reader.rest held window held' → IsFound (Err fault) window reader.room held'
    → IsNext (Err fault) line (ahead reader held) (ahead (record reader { rest = window; failed = true }) held')
IsNext-fault fault reader held held' window line ended moved found =
    rw ended (next_fault fault held held' reader.rest window line reader.room moved found)

-- the bytes that are left where the source has none
left_at_end : (window x y rest : List ℕ) → y ≡ [] → window ++ y ≡ rest ++ x → rest ++ x ≡ window
left_at_end window x y rest none moved = sym moved ∙ ap (λ l. window ++ l) none ∙ append-nil window

-- where nothing is held there is no line
no_parts : (reader : Reader) → HasFront reader.rest reader.room → (length reader.rest == 0) ≡ true → parts [] reader.room reader.rest ≡ []
no_parts reader front e = parts-end reader.rest reader.room front ∙ rw e refl

-- where something is held it is the last line
one_part : (reader : Reader) → HasFront reader.rest reader.room → (length reader.rest == 0) ≡ false → parts [] reader.room reader.rest ≡ Line reader.rest ∷ []
one_part reader front e = parts-end reader.rest reader.room front ∙ rw e refl

next_end : (test : Bool) (held held' : Option (List ℕ)) (rest : List ℕ) (reader : Reader) → (length reader.rest == 0) ≡ test
    → Moved rest held reader.rest held' → HasFront reader.rest reader.room → IsAtEnd held'
    → let new = record (if test then reader else giving (length reader.rest) (length reader.rest) reader) { ended = true } in
    IsNext (Ok (if test then None else Some (length reader.rest))) new.line (option_map (parts [] reader.room) (prepend_known rest held)) (ahead new held')
unfolding parts
next_end true None held' rest reader e moved front end = (tt, rw append-nil (no_parts reader front e))
next_end true (Some x) None rest reader e moved front end = absurd moved
next_end true (Some x) (Some y) rest reader e moved front end =
    let all = left_at_end reader.rest x y rest end moved in
    (ap (parts [] reader.room) all ∙ no_parts reader front e, rw append-nil (no_parts reader front e))
next_end false None held' rest reader e moved front end = tt
next_end false (Some x) None rest reader e moved front end = absurd moved
next_end false (Some x) (Some y) rest reader e moved front end =
    let all = left_at_end reader.rest x y rest end moved in
    ap (parts [] reader.room) all ∙ one_part reader front e ∙ rw (take-length, drop-length) refl

-- what is to come before the end
ahead_open : (reader : Reader) (held : Option (List ℕ)) → reader.ended ≡ false → option_map (parts [] reader.room) (prepend_known reader.rest held) ≡ ahead reader held
ahead_open reader held e = rw e refl

-- at the end what is held is the last line, unless nothing is held
pub IsNext-end : (reader : Reader) (held held' : Option (List ℕ)) (window : List ℕ) → reader.ended ≡ false
    → Moved reader.rest held window held' → HasFront window reader.room → IsAtEnd held'
    → let new = finished (record reader { rest = window }) in
    IsNext (Ok (if length window == 0 then None else Some (length window))) new.line (ahead reader held) (ahead new held')
IsNext-end reader held held' window ended moved front end =
    let now = record reader { rest = window } in
    let new = finished now in
    let given = if length window == 0 then None else Some (length window) in
    subst (λ old. IsNext (Ok given) new.line old (ahead new held')) (ahead_open reader held ended)
    (next_end (length window == 0) held held' reader.rest now refl moved front end)
