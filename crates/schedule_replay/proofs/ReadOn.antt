-- Line by line, what is made of the lines of an input.
use Rattle.std.proofs.Common.{◌≡◌, ◌∙◌, ◌∷◌, ◌++◌, [], ℕ, List, Option, Result, refl, sym, ap, subst, append_assoc, append-nil}
use Rattle.coy_io.specs.Lines.{Part, Line}
use Rattle.coy_io.specs.Reader.{Reader, ahead, bytes_ahead}
use Rattle.coy_io.proofs.GivenLaws.{Advances-nil, Advances-trans, GivesLines-nil, GivesLines-trans, GivesLines-kept}
use Rattle.listing_read.specs.Reads.{IsStopped, ReadsLine}
use Rattle.judged_lines.specs.Judged.{JudgesAll}
use Rattle.judged_lines.specs.declared.stop.Stop.TheVariants as stops
use Rattle.schedule_replay.specs.Lines.{ReadsOn, FailsOn}
use Rattle.schedule_replay.specs.Scheduled.{OnParts}
use Rattle.schedule_replay.proofs.Reading.{on_given, on_known}

module _ {M : Type 0} where
  -- no line
  pub reads_on-none : (was : List Part → M) (reader : Reader) (held : Option (List ℕ)) → ReadsOn was was reader reader held held
  reads_on-none was reader held = record {
    given = [];
    lines = Advances-nil (ahead reader held);
    before = λ going. going;
    bytes = λ going. GivesLines-nil (bytes_ahead reader held);
    makes = λ rest. refl;
  }

  -- one line, of which this is made
  pub reads_on-line : (was is : List Part → M) (old new : Reader) (held held' : Option (List ℕ)) → ReadsLine old new held held'
      → ((rest : List Part) → was (Line new.line ∷ rest) ≡ is rest) → ReadsOn was is old new held held'
  reads_on-line was is old new held held' reads makes = record {
    given = Line new.line ∷ [];
    lines = reads.line;
    before = λ going. reads.before;
    bytes = reads.given;
    makes = makes;
  }

  -- lines, and then others
  pub reads_on-trans : (was now is : List Part → M) (old mid new : Reader) (held held' held'' : Option (List ℕ))
      → ReadsOn was now old mid held held' → ReadsOn now is mid new held' held'' → ReadsOn was is old new held held''
  reads_on-trans was now is old mid new held held' held'' a b = record {
    given = a.given ++ b.given;
    lines = Advances-trans (ahead old held) (ahead mid held') (ahead new held'') a.given b.given a.lines b.lines;
    before = λ going. a.before (b.before going);
    bytes = λ going. GivesLines-trans (bytes_ahead old held) (bytes_ahead mid held') (bytes_ahead new held'') a.given b.given (a.bytes (b.before going)) (b.bytes going);
    makes = λ rest. ap was (append_assoc a.given b.given rest) ∙ a.makes (b.given ++ rest) ∙ b.makes rest;
  }

  -- the same, where both are made into something more
  pub reads_on-map : {N : Type 0} (f : M → N) (was is : List Part → M) (old new : Reader) (held held' : Option (List ℕ))
      → ReadsOn was is old new held held' → ReadsOn (λ parts. f (was parts)) (λ parts. f (is parts)) old new held held'
  reads_on-map f was is old new held held' r = record { given = r.given; lines = r.lines; before = r.before; bytes = r.bytes; makes = λ rest. ap f (r.makes rest) }

  -- by another name of what is made behind them
  pub reads_on-same : (was is other : List Part → M) (old new : Reader) (held held' : Option (List ℕ)) → ((rest : List Part) → is rest ≡ other rest)
      → ReadsOn was is old new held held' → ReadsOn was other old new held held'
  reads_on-same was is other old new held held' same r = record { given = r.given; lines = r.lines; before = r.before; bytes = r.bytes; makes = λ rest. r.makes rest ∙ same rest }

  -- what is so of all that may be made behind them is so of all that is made of the known lines
  pub on_lines : (was is : List Part → M) (old new : Reader) (held held' : Option (List ℕ)) (P : M → Type 0) → ReadsOn was is old new held held'
      → OnParts (ahead new held') (λ rest. P (is rest)) → OnParts (ahead old held) (λ parts. P (was parts))
  on_lines was is old new held held' P r all =
      on_given (ahead old held) (ahead new held') r.given (λ parts. P (was parts)) r.lines
      (λ rest same. subst P (sym (r.makes rest)) (on_known (ahead new held') rest (λ rest. P (is rest)) all same))

  -- reading failed behind them
  pub fails_on : (was is : List Part → M) (old mid new : Reader) (held held' held'' : Option (List ℕ)) → ReadsOn was is old mid held held' → IsStopped mid new held' held''
      → FailsOn was (is []) old new held held''
  fails_on was is old mid new held held' held'' r stop = record {
    before = r.before stop.before;
    going = stop.unended;
    unfinished = stop.unfinished;
    given = r.given;
    gives = GivesLines-kept (bytes_ahead old held) (bytes_ahead mid held') (bytes_ahead new held'') r.given (r.bytes stop.before) stop.kept;
    makes = ap was (sym (append-nil r.given)) ∙ r.makes [];
  }

  -- lines were judged, and then reading failed: this is made of those that were given
  pub fails_on-judged : {Made Said Fault : Type 0} (judged : Made → List ℕ → Result Said Fault → Made → Type 0) (long : Fault) (was : List Part → M) (made : M) (first last : Made)
      (old new : Reader) (held held' : Option (List ℕ)) → (a : JudgesAll judged long first last old new held held' stops.ReadFault) → was a.takes.given ≡ made
      → FailsOn was made old new held held'
  fails_on-judged judged long was made first last old new held held' a makes =
      let stop = a.stops.0 in
      record {
        before = a.takes.before stop.before;
        going = stop.unended;
        unfinished = stop.unfinished;
        given = a.takes.given;
        gives = GivesLines-kept (bytes_ahead old held) (bytes_ahead a.reader a.left) (bytes_ahead new held') a.takes.given (a.takes.bytes stop.before) stop.kept;
        makes = makes;
      }
