-- Lines as they are read, whatever is made of them (this project's own).
use Rattle.std.specs.Prelude.{◌≡◌, ℕ, false, List, ◌++◌, Option}
use Rattle.coy_io.specs.Lines.{Part, IsFront}
use Rattle.coy_io.specs.Reader.{Reader, Advances, GivesLines, ahead, bytes_ahead}

-- whole lines were read; what was to be made of them and the lines behind them is what is now made of those
pub record ReadsOn {M : Type 0} (was is : List Part → M) (old new : Reader) (held held' : Option (List ℕ)) : Type 0 where
  pub given : List Part
  pub lines : Advances (ahead old held) (ahead new held') given
  pub before : new.ended ≡ false → old.ended ≡ false
  pub bytes : new.ended ≡ false → GivesLines (bytes_ahead old held) (bytes_ahead new held') given
  pub makes : (rest : List Part) → was (given ++ rest) ≡ is rest

-- reading failed behind whole lines, of which this is made; the reader holds no whole line
pub record FailsOn {M : Type 0} (was : List Part → M) (made : M) (old new : Reader) (held held' : Option (List ℕ)) : Type 0 where
  pub before : old.ended ≡ false
  pub going : new.ended ≡ false
  pub unfinished : IsFront new.rest
  pub given : List Part
  pub gives : GivesLines (bytes_ahead old held) (bytes_ahead new held') given
  pub makes : was given ≡ made
