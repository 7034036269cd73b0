-- Line by line, what judged lines make.
use Rattle.std.proofs.Common.{◌≡◌, ◌≢◌, ◌+◌, ◌∙◌, ◌∷◌, ◌++◌, [], ℕ, List, length, false, Option, Some, None, Result, Ok, Err, refl, sym, ap, subst, inl, inr, arith, append-nil}
use Rattle.std.proofs.lemmas.List.{length-append}
use Rattle.coy_io.specs.Lines.{Part, Line, LongLine, PastLimit}
use Rattle.coy_io.specs.Reader.{Reader, Advances, Begins, IsDone, ahead, bytes_ahead}
use Rattle.coy_io.proofs.GivenLaws.{Advances-nil, Advances-trans, GivesLines-nil, GivesLines-trans}
use Rattle.listing_read.specs.Reads.{ReadsLine}
use Rattle.judged_lines.specs.Judged.{IsAnswer, JudgesAll, JudgesNext, Refuses, Takes, TakesEach}
use Rattle.judged_lines.specs.declared.stop.Stop.{Stop}
use Rattle.judged_lines.specs.declared.stop.Stop.TheVariants as stops

-- ---- known lines

-- what is so of the lines given with all that may follow them is so of the lines known
known_given : (old left : Option (List Part)) (given : List Part) (P : List Part → Type 0) → Advances old left given → ((rest : List Part) → left ≡ Some rest → P (given ++ rest))
    → (parts : List Part) → old ≡ Some parts → P parts
known_given None left given P a all parts is = cc
known_given (Some xs) None given P a all parts is = absurd a
known_given (Some xs) (Some rest) given P a all parts is = let same : xs ≡ parts = cc in subst P (sym a ∙ same) (all rest refl)

-- what is so of all lines that begin with this one
known_begun : (old : Option (List Part)) (part : Part) (P : List Part → Type 0) → Begins old part → ((rest : List Part) → P (part ∷ rest)) → (parts : List Part) → old ≡ Some parts → P parts
known_begun None part P b all parts is = cc
known_begun (Some xs) part P b all parts is = let same : xs ≡ parts = cc in subst P (sym b.1 ∙ same) (all b.0)

known_none : (old : Option (List Part)) (P : List Part → Type 0) → IsDone old → P [] → (parts : List Part) → old ≡ Some parts → P parts
known_none None P d all parts is = cc
known_none (Some xs) P d all parts is = let same : xs ≡ parts = cc in subst P (sym d ∙ same) all

module _ {Made Said Fault : Type 0} (judged : Made → List ℕ → Result Said Fault → Made → Type 0) where
  -- ---- one line

  -- it was read, and the judge answers it
  pub judges-line : (long : Fault) (made made' : Made) (k : ℕ) (old new : Reader) (held held' : Option (List ℕ)) (line : List ℕ) (answer : Result Said (Stop Fault))
      → k ≡ old.number → line ≡ new.line → IsAnswer judged (k + 1) made line answer made' → ReadsLine old new held held' → new.failed ≡ false
      → JudgesNext judged long made made' old new held held' answer
  judges-line long made made' k old new held held' line (Ok said) is same by reads going = (reads, subst (λ l. judged made l (Ok said) made') same by)
  judges-line long made made' k old new held held' line (Err (stops.Refused number fault)) is same by reads going =
      (by.0 ∙ ap (λ m. m + 1) is, inr (record { reads = reads; going = going; judges = subst (λ l. judged made l (Err fault) made') same by.1 }))
  judges-line long made made' k old new held held' line (Err stops.End) is same by reads going = absurd by
  judges-line long made made' k old new held held' line (Err stops.TooLong) is same by reads going = absurd by
  judges-line long made made' k old new held held' line (Err stops.ReadFault) is same by reads going = absurd by

  -- ---- lines that were taken

  -- none
  pub takes-none : (made : Made) (reader : Reader) (held : Option (List ℕ)) → Takes judged made made reader reader held held
  takes-none made reader held = record {
    given = [];
    each = refl;
    counted = omega arith;
    lines = Advances-nil (ahead reader held);
    before = λ going. going;
    bytes = λ going. GivesLines-nil (bytes_ahead reader held);
  }

  takes_each-append : (first mid last : Made) (given : List Part) (line : List ℕ) (said : Said) → TakesEach judged first given mid → judged mid line (Ok said) last
      → TakesEach judged first (given ++ Line line ∷ []) last
  takes_each-append first mid last [] line said each taken = (said, last, subst (λ made. judged made line (Ok said) last) each taken, refl)
  takes_each-append first mid last (Line before ∷ given) line said each taken =
      (each.0, each.1, each.2, takes_each-append each.1 mid last given line said each.3 taken)
  takes_each-append first mid last (LongLine ∷ given) line said each taken = absurd each
  takes_each-append first mid last (PastLimit ∷ given) line said each taken = absurd each

  -- one more
  pub takes-step : (first mid last : Made) (old now new : Reader) (held held' held'' : Option (List ℕ)) (said : Said) → Takes judged first mid old now held held'
      → ReadsLine now new held' held'' → judged mid new.line (Ok said) last → Takes judged first last old new held held''
  takes-step first mid last old now new held held' held'' said t reads taken = record {
    given = t.given ++ Line new.line ∷ [];
    each = takes_each-append first mid last t.given new.line said t.each taken;
    counted = omega (arith, reads.counted, t.counted, length-append t.given (Line new.line ∷ []));
    lines = Advances-trans (ahead old held) (ahead now held') (ahead new held'') t.given (Line new.line ∷ []) t.lines reads.line;
    before = λ going. t.before reads.before;
    bytes = λ going.
        GivesLines-trans (bytes_ahead old held) (bytes_ahead now held') (bytes_ahead new held'') t.given (Line new.line ∷ [])
        (t.bytes reads.before) (reads.given going);
  }

  -- ---- what is made of lines

  -- where a line that is taken leaves what is made of all to those behind it, so do lines that are taken
  pub made-behind : {M : Type 0} (all : Made → ℕ → List Part → M)
      → ((made made' : Made) (n : ℕ) (line : List ℕ) (said : Said) (rest : List Part) → judged made line (Ok said) made' → all made n (Line line ∷ rest) ≡ all made' (n + 1) rest)
      → (first last : Made) (n k : ℕ) (given rest : List Part) → TakesEach judged first given last → k ≡ n + length given → all first n (given ++ rest) ≡ all last k rest
  made-behind all step first last n k [] rest each count =
      let here : n ≡ k = omega (arith, count) in ap (λ m. all first m rest) here ∙ ap (λ made. all made k rest) (sym each)
  made-behind all step first last n k (Line line ∷ given) rest each count =
      step first each.1 n line each.0 (given ++ rest) each.2 ∙ made-behind all step each.1 last (n + 1) k given rest each.3 (omega (arith, count))
  made-behind all step first last n k (LongLine ∷ given) rest each count = absurd each
  made-behind all step first last n k (PastLimit ∷ given) rest each count = absurd each

  -- what is made of lines follows the judge: a line that is taken leaves it to those behind it, and one that is refused ends it
  pub record Follows {M : Type 0} (long : Fault) (all : Made → ℕ → List Part → M) (ends : Made → ℕ → M) (refused : ℕ → Fault → M) (past : M) : Type 0 where
    pub end : (made : Made) (n : ℕ) → all made n [] ≡ ends made n
    pub long_line : (made : Made) (n : ℕ) (rest : List Part) → all made n (LongLine ∷ rest) ≡ refused (n + 1) long
    pub past_limit : (made : Made) (n : ℕ) (rest : List Part) → all made n (PastLimit ∷ rest) ≡ past
    pub takes : (made made' : Made) (n : ℕ) (line : List ℕ) (said : Said) (rest : List Part) → judged made line (Ok said) made' → all made n (Line line ∷ rest) ≡ all made' (n + 1) rest
    pub refuses : (made made' : Made) (n : ℕ) (line : List ℕ) (fault : Fault) (rest : List Part) → judged made line (Err fault) made' → all made n (Line line ∷ rest) ≡ refused (n + 1) fault

  module _ {M : Type 0} (long : Fault) (all : Made → ℕ → List Part → M) (ends : Made → ℕ → M) (refused : ℕ → Fault → M) (past : M) (by : Follows long all ends refused past) where
    -- what lines make behind which there is no further one for this reason
    abbrev pub made_at : Made → ℕ → Stop Fault → M
    made_at last n stops.End = ends last n
    made_at last n (stops.Refused line fault) = refused line fault
    made_at last n stops.TooLong = past
    made_at last n stops.ReadFault = ends last n

    makes-next : (made last : Made) (now new : Reader) (held held' : Option (List ℕ)) (stop : Stop Fault) → stop ≢ stops.ReadFault
        → JudgesNext judged long made last now new held held' (Err stop) → (parts : List Part) → ahead now held ≡ Some parts → all made now.number parts ≡ made_at last new.number stop
    makes-next made last now new held held' stops.End other next =
        known_none (ahead now held) (λ parts. all made now.number parts ≡ ends last new.number) next.0.none
        (by.end made now.number ∙ ap (λ m. ends m now.number) (sym next.1) ∙ ap (ends last) (sym (ap (λ (r : Reader). r.number) next.0.reader)))
    makes-next made last now new held held' (stops.Refused line fault) other next = by_cause next.1
      where
        by_cause : Refuses judged long made last now new held held' fault → (parts : List Part) → ahead now held ≡ Some parts → all made now.number parts ≡ refused line fault
        by_cause (inl long_line) =
            known_begun (ahead now held) LongLine (λ parts. all made now.number parts ≡ refused line fault) long_line.0
            (λ rest. by.long_line made now.number rest ∙ ap (refused (now.number + 1)) (sym long_line.1) ∙ ap (λ n. refused n fault) (sym next.0))
        by_cause (inr r) =
            known_given (ahead now held) (ahead new held') (Line new.line ∷ []) (λ parts. all made now.number parts ≡ refused line fault) r.reads.line
            (λ rest same. by.refuses made last now.number new.line fault rest r.judges ∙ ap (λ n. refused n fault) (sym next.0))
    makes-next made last now new held held' stops.TooLong other next =
        known_begun (ahead now held) PastLimit (λ parts. all made now.number parts ≡ past) next.0 (λ rest. by.past_limit made now.number rest)
    makes-next made last now new held held' stops.ReadFault other next = absurd (other refl)

    -- lines were judged, and then there is no further one
    pub makes-stop : (first last : Made) (old new : Reader) (held held' : Option (List ℕ)) (stop : Stop Fault) → stop ≢ stops.ReadFault
        → JudgesAll judged long first last old new held held' stop → (parts : List Part) → ahead old held ≡ Some parts → all first old.number parts ≡ made_at last new.number stop
    makes-stop first last old new held held' stop other a =
        known_given (ahead old held) (ahead a.reader a.left) a.takes.given (λ parts. all first old.number parts ≡ made_at last new.number stop) a.takes.lines
        (λ rest same.
        made-behind all by.takes first a.made old.number a.reader.number a.takes.given rest a.takes.each a.takes.counted
        ∙ makes-next a.made last a.reader new a.left held' stop other a.stops rest same)

    -- lines were judged, and then reading failed
    pub makes-given : (first last : Made) (old new : Reader) (held held' : Option (List ℕ)) → (a : JudgesAll judged long first last old new held held' stops.ReadFault)
        → all first old.number a.takes.given ≡ ends last new.number
    makes-given first last old new held held' a =
        ap (all first old.number) (sym (append-nil a.takes.given))
        ∙ made-behind all by.takes first a.made old.number a.reader.number a.takes.given [] a.takes.each a.takes.counted
        ∙ by.end a.made a.reader.number ∙ ap (λ m. ends m a.reader.number) (sym a.stops.1) ∙ ap (ends last) (sym a.stops.0.counted)
