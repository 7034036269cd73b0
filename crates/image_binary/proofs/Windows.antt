-- What a window and its place in the image hold behind a call that took bytes from the source.
use Rattle.std.proofs.Common.{◌≡◌, ℕ, ◌+◌, ◌<◌, ◌≤◌, List, [], ◌∷◌, ◌++◌, Option, Some, None, Result, Ok, Err, IsErr, subst, length, take, drop, sym, ap, ◌∙◌, arith, append_assoc, take-append-drop, length-drop}
use Rattle.std.specs.Io.KnownBytes.{Keeps, Consumes, IsAtEnd, prepend_known}
use Rattle.std.proofs.lemmas.List.{append_cancel_left, take_all}
use Rattle.std.proofs.lemmas.List.Elements.{All-head, All-drop}
use Rattle.coy_io.specs.declared.traits.Failed.{Failed}
use Rattle.image_binary.specs.Laws.{AreBytes}
use Rattle.image_binary.specs.Reader.{Reader, IsFilled}

-- bytes that stand behind those that were held are those that the source gave
given_behind : (a b : Option (List ℕ)) (old new got : List ℕ) → new ≡ old ++ got → Keeps (prepend_known old a) (prepend_known new b) → Consumes a b got
given_behind None b old new got grown keeps = tt
given_behind (Some x) None old new got grown keeps = absurd keeps
given_behind (Some x) (Some y) old new got grown keeps =
    sym (append_cancel_left old (got ++ y) x (sym (append_assoc old got y) ∙ ap (λ l. l ++ y) (sym grown) ∙ keeps))

-- where none stand behind them, it gave none
none_behind : (a b : Option (List ℕ)) (old new : List ℕ) → new ≡ old → Keeps (prepend_known old a) (prepend_known new b) → Keeps a b
none_behind None b old new same keeps = tt
none_behind (Some x) None old new same keeps = absurd keeps
none_behind (Some x) (Some y) old new same keeps = append_cancel_left old y x (ap (λ l. l ++ y) (sym same) ∙ keeps)

module _ (from to : Reader) (a b : Option (List ℕ)) (at : to.at ≡ from.at) (front : take (length from.held) to.held ≡ from.held) (keeps : Keeps (prepend_known from.held a) (prepend_known to.held b)) where
  -- so many bytes came
  pub filled : (count : ℕ) → length to.held ≡ length from.held + count → AreBytes to.held → (count ≡ 0 → IsAtEnd b) → IsFilled (Ok count) from to a b
  filled count len are end =
      let got = drop (length from.held) to.held in
      let grown : to.held ≡ from.held ++ got = sym (take-append-drop (length from.held) to.held) ∙ ap (λ l. l ++ got) front in (
        got,
        omega (arith, length-drop (length from.held) to.held, len),
        record {
          bytes = All-drop (λ byte. byte < 256) (length from.held) to.held are;
          taken = given_behind a b from.held to.held got grown keeps;
          held = grown;
          at = at;
        },
        end,
      )

  -- none came, and all is as it was
  pub unfilled : (r : Result ℕ Failed) → IsErr r → length to.held ≡ length from.held → IsFilled r from to a b
  unfilled (Ok count) is len = cc
  unfilled (Err failed) is len =
      let held : to.held ≡ from.held = sym (take_all (length from.held) to.held (omega (arith, len))) ∙ front in
      let same : to ≡ from = ap (λ l. record { at = to.at; held = l }) held ∙ ap (λ n. record { at = n; held = from.held }) at in
      (same, none_behind a b from.held to.held held keeps)

-- the one byte that was taken into a buffer of one
pub one_taken : (a b : Option (List ℕ)) (buf : List ℕ) (count : ℕ) → length buf ≡ 1 → count ≤ length buf → (count ≡ 0 → ⊥) → AreBytes buf
    → Consumes a b (take count buf) → (byte : ℕ) × (byte < 256) × Consumes a b (byte ∷ [])
one_taken a b [] count len most some are taken = absurd (omega arith)
one_taken a b (byte ∷ []) count len most some are taken =
    let one : count ≡ 1 = omega arith in
    (byte, All-head (λ b. b < 256) byte [] are, subst (λ n. Consumes a b (take n (byte ∷ []))) one taken)
one_taken a b (byte ∷ next ∷ more) count len most some are taken = absurd (omega arith)
