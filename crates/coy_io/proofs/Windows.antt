-- The part of a buffer that holds bytes, and what taking more does to them and to those that are left.
use Rattle.std.proofs.Common.{◌≡◌, ℕ, ◌+◌, ◌-◌, List, ◌++◌, take, drop, Option, Some, None, sym, ap, ◌∙◌, append_assoc, arith}
use Rattle.std.specs.Io.KnownBytes.{Keeps, Consumes, prepend_known}
use Rattle.std.proofs.lemmas.Slice.{between_is}
use Rattle.std.proofs.lemmas.List.{drop-drop}
use Rattle.std.proofs.Math.Seq.{take-add}

-- the window without its front
pub drop-window : (bytes : List ℕ) (from end count : ℕ)
    → take (end - (from + count)) (drop (from + count) bytes) ≡ drop count (take (end - from) (drop from bytes))
drop-window bytes from end count =
    between_is bytes (from + count) end ∙ sym (ap (drop count) (between_is bytes from end) ∙ drop-drop count from (take end bytes))

-- the window with more behind it
pub take-grown : (bytes old : List ℕ) (n count : ℕ) → take n bytes ≡ old → take (n + count - 0) bytes ≡ old ++ take count (drop n bytes)
take-grown bytes old n count e =
    let sum : n + count - 0 ≡ n + count = omega arith in
    ap (λ k. take k bytes) sum ∙ take-add n count bytes ∙ ap (λ l. l ++ take count (drop n bytes)) e

-- bytes that a source gave and that stand behind those held are lost by nobody
pub Keeps-taken : (held held' : Option (List ℕ)) (window window' given : List ℕ) → Consumes held held' given → window' ≡ window ++ given
    → Keeps (prepend_known window held) (prepend_known window' held')
Keeps-taken None held' window window' given c e = tt
Keeps-taken (Some x) None window window' given c e = absurd c
Keeps-taken (Some x) (Some y) window window' given c e =
    ap (λ l. l ++ y) e ∙ append_assoc window given y ∙ ap (λ l. window ++ l) (sym c)
