-- The lines that would allow crossings, and the crossings that none would, as lists.
use Rattle.std.proofs.Common.{◌≡◌, ℕ, ◌+◌, ◌<◌, inl, inr, ◌++◌, Bool, true, false, cond, if◌then◌else◌, nat_lt, is_none, List, [], ◌∷◌, map, take, length, get_or, Option, Some, None, refl, sym, ◌∙◌, ap, ap₂, subst}
use Rattle.std.specs.List.{All, Contains}
use Rattle.std.proofs.lemmas.Bool.{and_parts, lt-ltb, ltb-true}
use Rattle.std.proofs.lemmas.Grind.{flat_map-append}
use Rattle.std.proofs.lemmas.List.{append-nil, take_more}
use Rattle.std.proofs.lemmas.List.Elements.{All-append, Contains-append_left, Contains-append_right}
use Rattle.separation_policy.proofs.Reaching.{both}
use Rattle.separation_check.specs.declared.crossing.Crossing.{Crossing}
use Rattle.separation_check.specs.declared.crossing.Crossing.TheVariants as crossings
use Rattle.separation_check.specs.Crossings.{listed, meant_crossing}
use Rattle.separation_check.proofs.Listed.{is-listed}
use Rattle.policy_lines.specs.declared.permission.Permission.{Permission}
use Rattle.policy_lines.specs.declared.permission.Permission.TheVariants.{Reads, Writes, Halts, Logs}
use Rattle.policy_lines.specs.Permission.{IsMade}
use Rattle.policy_lines.specs.Needed.{line_for, is_made, if_made, made_line_for, barred, named_by}
use Rattle.policy_lines.proofs.Filtered.{of-none, one-of, passed-is, is-passed}
use Rattle.policy_lines.proofs.Made.{all-none, all-one}

-- ---- lines of domains that were made

pub made-is : (count : ℕ) (line : Permission) → is_made count line ≡ true → IsMade count line
made-is count (Reads a b) e = let parts = and_parts (nat_lt a count) (nat_lt b count) e in (ltb-true a count parts.0, ltb-true b count parts.1)
made-is count (Writes a b) e = let parts = and_parts (nat_lt a count) (nat_lt b count) e in (ltb-true a count parts.0, ltb-true b count parts.1)
made-is count (Halts a) e = ltb-true a count e
made-is count (Logs a) e = ltb-true a count e

is-made : (count : ℕ) (line : Permission) → IsMade count line → is_made count line ≡ true
is-made count (Reads a b) made = both (nat_lt a count) (nat_lt b count) (lt-ltb a count made.0) (lt-ltb b count made.1)
is-made count (Writes a b) made = both (nat_lt a count) (nat_lt b count) (lt-ltb a count made.0) (lt-ltb b count made.1)
is-made count (Halts a) made = lt-ltb a count made
is-made count (Logs a) made = lt-ltb a count made

module _ (count : ℕ) where
  -- a line that is let through is the one that there was, and was made
  pub made-some : (o : Option Permission) (line : Permission) → if_made count o ≡ Some line → (o ≡ Some line) × IsMade count line
  made-some None line e = absurd (cc (e))
  made-some (Some told) line e = by (is_made count told) refl e
    where
      by : (b : Bool) → is_made count told ≡ b → (if b then Some told else None) ≡ Some line → (Some told ≡ Some line) × IsMade count line
      by true made e = let same : told ≡ line = cc (e) in (e, subst (λ (l : Permission). IsMade count l) same (made-is count told made))
      by false made e = absurd (cc (e))

  -- and one that was made is let through
  pub some-made : (line : Permission) → IsMade count line → if_made count (Some line) ≡ Some line
  some-made line made = ap (λ (b : Bool). if b then Some line else None) (is-made count line made)

  -- ---- all that is named

  named-made : (o : Option Permission) (x : Crossing) → made_line_for count x ≡ o → All (IsMade count) (listed o)
  named-made None x e = all-none (IsMade count)
  named-made (Some line) x e = all-one (IsMade count) line (made-some (line_for x) line e).1

  -- each line that is named was made
  pub made-named : (found : List Crossing) → All (IsMade count) (named_by count found)
  made-named [] = all-none (IsMade count)
  made-named (x ∷ found) =
      All-append (IsMade count) (listed (made_line_for count x)) (named_by count found) (named-made (made_line_for count x) x refl) (made-named found)

  -- the line of each crossing that has one is named
  pub line-named : (found : List Crossing) (x : Crossing) (line : Permission) → Contains found x → made_line_for count x ≡ Some line → Contains (named_by count found) line
  line-named [] x line at e = absurd (of-none x at)
  line-named (y ∷ found) x line at e = elim (one-of y found x at) [
    | inl here ↦ Contains-append_left (listed (made_line_for count y)) (named_by count found) line (is-listed (made_line_for count y) line (ap (λ (z : Crossing). made_line_for count z) here ∙ e))
    | inr later ↦ Contains-append_right (listed (made_line_for count y)) (named_by count found) line (line-named found x line later e)
  ]

  -- as a loop gives them
  pub one-named : (found : List Crossing) (i : ℕ) (x : Crossing) (so_far after : List Permission) → i < length found → x ≡ get_or found i x
      → so_far ≡ named_by count (take i found) → after ≡ so_far ++ listed (made_line_for count x) → after ≡ named_by count (take (i + 1) found)
  one-named found i x so_far after there same is more =
      more
      ∙ (ap (λ (ls : List Permission). ls ++ listed (made_line_for count x)) is
      ∙ (ap (λ (y : Crossing). named_by count (take i found) ++ listed (made_line_for count y)) same
      ∙ (ap (λ (ls : List Permission). named_by count (take i found) ++ ls) (sym (append-nil (listed (made_line_for count (get_or found i x)))))
      ∙ (sym (flat_map-append (λ (y : Crossing). listed (made_line_for count y)) (take i found) (get_or found i x ∷ []))
      ∙ ap (λ (xs : List Crossing). named_by count xs) (sym (take_more found i x there))))))

  -- ---- all that no line allows

  none-is : (o : Option Permission) → is_none o ≡ true → o ≡ None
  none-is None e = refl
  none-is (Some line) e = absurd (cc (e))

  -- it is what has no line
  pub barred-is : (found : List Crossing) (x : Crossing) → Contains (barred count found) x → Contains found x × (made_line_for count x ≡ None)
  barred-is found x at = let passed = passed-is (λ x. is_none (made_line_for count x)) found x at in (passed.0, none-is (made_line_for count x) passed.1)

  pub is-barred : (found : List Crossing) (x : Crossing) → Contains found x → made_line_for count x ≡ None → Contains (barred count found) x
  is-barred found x at none = is-passed (λ x. is_none (made_line_for count x)) found x at (ap (λ (o : Option Permission). is_none o) none)

-- ---- crossings as they mean

-- the line goes by what a capability means
line-meant : (x : Crossing) → line_for (meant_crossing x) ≡ line_for x
line-meant (crossings.Capability kind n i c from to) = refl
line-meant (crossings.Range kind n i domain) = refl
line-meant (crossings.Halts kind n i domain) = refl
line-meant (crossings.Logs kind n i domain) = refl
line-meant (crossings.Sleeper p from to) = refl

pub barred-meant : (count : ℕ) (found : List Crossing) → barred count (map meant_crossing found) ≡ map meant_crossing (barred count found)
barred-meant count [] = refl
barred-meant count (x ∷ found) =
    ap₂ (λ (o : Option Permission) (rest : List Crossing). cond (is_none (if_made count o)) (meant_crossing x ∷ rest) rest) (line-meant x) (barred-meant count found)
    ∙ either (is_none (made_line_for count x))
  where
    either : (b : Bool) → cond b (meant_crossing x ∷ map meant_crossing (barred count found)) (map meant_crossing (barred count found)) ≡ map meant_crossing (cond b (x ∷ barred count found) (barred count found))
    either true = refl
    either false = refl

pub named-meant : (count : ℕ) (found : List Crossing) → named_by count (map meant_crossing found) ≡ named_by count found
named-meant count [] = refl
named-meant count (x ∷ found) = ap₂ (λ (o : Option Permission) (rest : List Permission). listed (if_made count o) ++ rest) (line-meant x) (named-meant count found)
