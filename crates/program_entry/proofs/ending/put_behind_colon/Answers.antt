use Rattle.std.proofs.Common.{◌≡◌, ℕ, false, List, [], ◌∷◌, ◌++◌, length, refl, sym, ◌∙◌, codes}
use Rattle.std.specs.Bool.{◌==◌}
use Rattle.coy_io.proofs.Texts.{go_on, same}
use Rattle.program_entry.specs.Said.{behind_colon}
use Rattle.program_entry.proofs.ending.put_behind_colon.Goals as goal

behind_some : (words : List ℕ) → (length words == 0) ≡ false → codes ": " ++ words ≡ behind_colon words
behind_some [] some = cc
behind_some (x ∷ xs) some = refl

pub returns : goal.returns
returns g c =
    same _ _ _ _ _ _ _ (behind_some c.args.words.now (sym c.is_empty.ensures ∙ c.if-is_empty.false)) (go_on _ _ _ _ _ _ _ _ _ _ c.in_ok-put_text.ensures c.put_text-3.ensures)
