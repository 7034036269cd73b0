-- Lines as they are read and judged, whoever judges them (this project's own). What a judge may answer is a relation of what
-- was made before, the line, its answer, and what is made then.
use Rattle.std.specs.Prelude.{◌≡◌, ◌⊎◌, ℕ, ◌+◌, true, false, List, [], ◌∷◌, length, Option, Result, Ok, Err}
use Rattle.coy_io.specs.Lines.{Part, Line, LongLine, PastLimit}
use Rattle.coy_io.specs.Reader.{Reader, Advances, Begins, GivesLines, IsDone, ahead, bytes_ahead}
use Rattle.listing_read.specs.Reads.{IsStopped, ReadsLine}
use Rattle.judged_lines.specs.declared.stop.Stop.{Stop}
use Rattle.judged_lines.specs.declared.stop.Stop.TheVariants as stops

-- no line was left, and none is
pub record NoneLeft (old new : Reader) (held held' : Option (List ℕ)) : Type 0 where
  pub none : IsDone (ahead old held)
  pub still : IsDone (ahead new held')
  pub reader : new ≡ record old { rest = []; ended = true }

module _ {Made Said Fault : Type 0} (judged : Made → List ℕ → Result Said Fault → Made → Type 0) where
  -- an answer to line `n`: it is taken, or it is refused, and then its number is told
  abbrev pub IsAnswer : ℕ → Made → List ℕ → Result Said (Stop Fault) → Made → Type 0
  IsAnswer n made line (Ok said) made' = judged made line (Ok said) made'
  IsAnswer n made line (Err (stops.Refused number fault)) made' = (number ≡ n) × judged made line (Err fault) made'
  IsAnswer n made line (Err stop) made' = ⊥

  -- the next line was read, and is refused
  pub record RefusesLine (made made' : Made) (old new : Reader) (held held' : Option (List ℕ)) (fault : Fault) : Type 0 where
    pub reads : ReadsLine old new held held'
    pub going : new.failed ≡ false
    pub judges : judged made new.line (Err fault) made'

  -- judges take these lines one after the other
  abbrev pub TakesEach : Made → List Part → Made → Type 0
  TakesEach first [] last = last ≡ first
  TakesEach first (Line line ∷ given) last = (said : Said) × (made : Made) × judged first line (Ok said) made × TakesEach made given last
  TakesEach first (LongLine ∷ given) last = ⊥
  TakesEach first (PastLimit ∷ given) last = ⊥

  -- between two moments whole lines were read, and each was taken
  pub record Takes (first last : Made) (old new : Reader) (held held' : Option (List ℕ)) : Type 0 where
    pub given : List Part
    pub each : TakesEach first given last
    pub counted : new.number ≡ old.number + length given
    pub lines : Advances (ahead old held) (ahead new held') given
    pub before : new.ended ≡ false → old.ended ≡ false
    pub bytes : new.ended ≡ false → GivesLines (bytes_ahead old held) (bytes_ahead new held') given

  module _ (long : Fault) where
    -- the next line is refused: it is too long, and then nothing is made of it, or it was read and the judge refuses it
    abbrev pub Refuses : Made → Made → Reader → Reader → Option (List ℕ) → Option (List ℕ) → Fault → Type 0
    Refuses made made' old new held held' fault =
        (Begins (ahead old held) LongLine × (fault ≡ long) × (made' ≡ made)) ⊎ RefusesLine made made' old new held held' fault

    -- what reading and judging one line more came to
    abbrev pub JudgesNext : Made → Made → Reader → Reader → Option (List ℕ) → Option (List ℕ) → Result Said (Stop Fault) → Type 0
    JudgesNext made made' old new held held' (Ok said) = ReadsLine old new held held' × judged made new.line (Ok said) made'
    JudgesNext made made' old new held held' (Err stops.End) = NoneLeft old new held held' × (made' ≡ made)
    JudgesNext made made' old new held held' (Err (stops.Refused line fault)) =
        (line ≡ old.number + 1) × Refuses made made' old new held held' fault
    JudgesNext made made' old new held held' (Err stops.TooLong) = Begins (ahead old held) PastLimit × (made' ≡ made)
    JudgesNext made made' old new held held' (Err stops.ReadFault) = IsStopped old new held held' × (made' ≡ made)

    -- lines were taken, and then there is no further one for this reason
    pub record JudgesAll (first last : Made) (old new : Reader) (held held' : Option (List ℕ)) (stop : Stop Fault) : Type 0 where
      pub made : Made
      pub reader : Reader
      pub left : Option (List ℕ)
      pub takes : Takes first made old reader held left
      pub stops : JudgesNext made last reader new left held' (Err stop)
