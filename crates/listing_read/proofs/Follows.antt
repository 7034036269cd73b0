-- The listing while it is read: what the lines given and any others make is what those others make behind these statements.
use Rattle.std.proofs.Common.{ℕ, ◌≡◌, ◌+◌, refl, sym, ap, ◌∙◌, append_assoc, append-nil, length-append, List, [], ◌∷◌, ◌++◌, length, Option, Some, None, Result, Ok, Err, false, subst, arith}
use Rattle.std.specs.List.{All}
use Rattle.std.specs.Io.KnownBytes.{Keeps, prepend_known}
use Rattle.std.proofs.lemmas.List.Elements.{All-append, All-cons, All-nil}
use Rattle.coy_io.specs.Lines.{Part, Line}
use Rattle.coy_io.specs.Reader.{Reader, Advances, GivesLines, bytes_ahead, ahead, last_taken}
use Rattle.coy_io.proofs.GivenLaws.{Advances-nil, Advances-trans, GivesLines-nil, GivesLines-trans, GivesLines-kept}
use Rattle.object_store.specs.Ranges.{IsWithinLimits}
use Rattle.object_store.specs.declared.sizes.Sizes.{Sizes}
use Rattle.listing_read.specs.declared.names.Naming.{Naming}
use Rattle.listing_read.specs.declared.fault.Fault.{Fault}
use Rattle.listing_read.specs.declared.fault.ListingFault.{ListingFault}
use Rattle.listing_read.specs.declared.fault.ListingFault.TheVariants as faults
use Rattle.listing_read.specs.declared.place.Place.{Place}
use Rattle.listing_read.specs.declared.place.Place.TheVariants.{Header, Machine, Statements}
use Rattle.listing_read.specs.declared.place.Said.{Said}
use Rattle.listing_read.specs.declared.place.Said.TheVariants.{Nothing, Opens, Calls, Says, Ends}
use Rattle.listing_read.specs.declared.statement.Statement.{Statement}
use Rattle.listing_read.specs.Statement.{IsStatement, IsTyped, ListingValue}
use Rattle.listing_read.specs.Listing.{Listed, Good, Refused, Past, with_front, place_behind, place_with, listed_by, judged, listing_of, fault_at_end, IsListed, IsCause, IsSaid}
use Rattle.listing_read.specs.Reads.{ReadsLine, IsStopped, GivesListing, GivesFront, GivesBefore}

-- no statement in front
with_front-nil : (listed : Listed) → with_front [] listed ≡ listed
with_front-nil (Good listing last rest) = refl
with_front-nil (Refused line fault) = refl
with_front-nil Past = refl

-- statements in front of others
with_front-append : (xs ys : List Statement) (listed : Listed) → with_front (xs ++ ys) listed ≡ with_front xs (with_front ys listed)
with_front-append xs ys (Good listing last rest) = ap (λ s. Good (record listing { statements = s }) last rest) (append_assoc xs ys listing.statements)
with_front-append xs ys (Refused line fault) = refl
with_front-append xs ys Past = refl

-- what the first of the lines to come makes
listing_of-line : (place : Place) (n : ℕ) (line : List ℕ) (parts : List Part) (said : Result Said Fault) → judged place line ≡ said
    → listing_of place n (Line line ∷ parts) ≡ listed_by n parts said (listing_of (place_behind place said) (n + 1) parts)
unfolding listing_of
listing_of-line place n line parts said says = ap (λ said. listed_by n parts said (listing_of (place_behind place said) (n + 1) parts)) says

-- what was judged of the slice that a line stands in
pub says : (place : Place) (slice line : List ℕ) (said : Result Said Fault) → slice ≡ line → said ≡ judged place slice → judged place line ≡ said
says place slice line said same judgement = ap (judged place) (sym same) ∙ sym judgement

-- no line to come makes no listing
listing_of-nil : (place : Place) (n : ℕ) → listing_of place n [] ≡ Refused n (fault_at_end place)
unfolding listing_of
listing_of-nil place n = refl

-- the lines given and any others make what those others make from line n on, in this place and behind these statements
abbrev pub Makes : ℕ → List Part → List Statement → Place → ℕ → Type 0
Makes start given statements place n = (rest : List Part) → listing_of Header start (given ++ rest) ≡ with_front statements (listing_of place n rest)

-- one more line was given
makes_line : (start : ℕ) (given : List Part) (statements : List Statement) (place : Place) (n : ℕ) (line : List ℕ) (said : Result Said Fault)
    → Makes start given statements place n → judged place line ≡ said → (rest : List Part)
    → listing_of Header start ((given ++ Line line ∷ []) ++ rest) ≡ with_front statements (listed_by n rest said (listing_of (place_behind place said) (n + 1) rest))
makes_line start given statements place n line said makes says rest =
    ap (listing_of Header start) (append_assoc given (Line line ∷ []) rest)
    ∙ makes (Line line ∷ rest)
    ∙ ap (with_front statements) (listing_of-line place n line rest said says)

-- lines that make a listing whatever follows them make it in front of the known lines that follow
listed : (start : ℕ) (all now : Option (List Part)) (given : List Part) (listing : ListingValue) (last : ℕ) → Advances all now given
    → ((rest : List Part) → listing_of Header start (given ++ rest) ≡ Good listing last rest) → IsListed Header start all listing last now
listed start None now given listing last advances makes = tt
listed start (Some all) None given listing last advances makes = absurd advances
listed start (Some all) (Some rest) given listing last advances makes = ap (listing_of Header start) advances ∙ makes rest

-- and so with a fault
refused : (start : ℕ) (all now : Option (List Part)) (given : List Part) (n : ℕ) (fault : Fault) → Advances all now given
    → ((rest : List Part) → listing_of Header start (given ++ rest) ≡ Refused n fault) → IsCause (faults.Refused n fault) Header start all
refused start None now given n fault advances makes = tt
refused start (Some all) None given n fault advances makes = absurd advances
refused start (Some all) (Some rest) given n fault advances makes = ap (listing_of Header start) advances ∙ makes rest

-- the fault of the lines behind those given is that of all
caused : (start : ℕ) (all now : Option (List Part)) (given : List Part) (statements : List Statement) (place : Place) (n : ℕ) (fault : ListingFault)
    → Advances all now given → Makes start given statements place n → IsCause fault place n now → IsCause fault Header start all
caused start None now given statements place n fault advances makes cause = tt
caused start (Some all) None given statements place n fault advances makes cause = absurd advances
caused start (Some all) (Some rest) given statements place n (faults.Refused line fault) advances makes cause =
    ap (listing_of Header start) advances ∙ makes rest ∙ ap (with_front statements) cause
caused start (Some all) (Some rest) given statements place n faults.TooLong advances makes cause =
    ap (listing_of Header start) advances ∙ makes rest ∙ ap (with_front statements) cause
caused start (Some all) (Some rest) given statements place n faults.ReadFault advances makes cause = tt
caused start (Some all) (Some rest) given statements place n faults.OutOfMemory advances makes cause = tt

-- what was read so far: the lines given, what they make, and that no byte of others was lost
pub record Follows (old now : Reader) (held held' : Option (List ℕ)) (statements : List Statement) (place : Place) : Type 0 where
  pub given : List Part
  pub counted : now.number ≡ old.number + length given
  pub makes : Makes (old.number + 1) given statements place (now.number + 1)
  pub advances : Advances (ahead old held) (ahead now held') given
  pub gives : now.ended ≡ false → (old.ended ≡ false) × GivesLines (bytes_ahead old held) (bytes_ahead now held') given

-- at the start
pub follows_start : (reader : Reader) (held : Option (List ℕ)) → Follows reader reader held held [] Header
follows_start reader held = record {
  given = [];
  counted = omega arith;
  makes = λ rest. sym (with_front-nil (listing_of Header (reader.number + 1) rest));
  advances = Advances-nil (ahead reader held);
  gives = λ unended. (unended, GivesLines-nil (bytes_ahead reader held));
}

module _ (old mid new : Reader) (held held' held'' : Option (List ℕ)) (statements : List Statement) (place : Place) where
  -- the known parts with one line more
  line_advances : (follows : Follows old mid held held' statements place) → ReadsLine mid new held' held''
      → Advances (ahead old held) (ahead new held'') (follows.given ++ Line new.line ∷ [])
  line_advances follows reads = Advances-trans (ahead old held) (ahead mid held') (ahead new held'') follows.given (Line new.line ∷ []) follows.advances reads.line

  -- the bytes with one line more
  line_gives : (follows : Follows old mid held held' statements place) → ReadsLine mid new held' held'' → new.ended ≡ false
      → (old.ended ≡ false) × GivesLines (bytes_ahead old held) (bytes_ahead new held'') (follows.given ++ Line new.line ∷ [])
  line_gives follows reads unended =
      let before = follows.gives reads.before in
      (before.0, GivesLines-trans (bytes_ahead old held) (bytes_ahead mid held') (bytes_ahead new held'') follows.given (Line new.line ∷ []) before.1 (reads.given unended))

  -- the next line makes these statements and opens this place
  follows_line : (more : List Statement) (next : Place) (follows : Follows old mid held held' statements place) → ReadsLine mid new held' held''
      → Makes (old.number + 1) (follows.given ++ Line new.line ∷ []) more next (mid.number + 1 + 1) → Follows old new held held'' more next
  follows_line more next follows reads makes =
      let before = follows.counted in
      let more_lines = length-append follows.given (Line new.line ∷ []) in
      let next_number = reads.counted in
      record {
        given = follows.given ++ Line new.line ∷ [];
        counted = omega (arith, before, more_lines, next_number);
        makes = rw reads.counted makes;
        advances = line_advances follows reads;
        gives = line_gives follows reads;
      }

  -- it says nothing
  pub follows_nothing : Follows old mid held held' statements place → ReadsLine mid new held' held'' → judged place new.line ≡ Ok Nothing
      → Follows old new held held'' statements place
  follows_nothing follows reads says =
      follows_line statements place follows reads (makes_line (old.number + 1) follows.given statements place (mid.number + 1) new.line (Ok Nothing) follows.makes says)

  -- it opens the next place
  pub follows_opens : (next : Place) → Follows old mid held held' statements place → ReadsLine mid new held' held'' → judged place new.line ≡ Ok (Opens next)
      → Follows old new held held'' statements next
  follows_opens next follows reads says =
      follows_line statements next follows reads (makes_line (old.number + 1) follows.given statements place (mid.number + 1) new.line (Ok (Opens next)) follows.makes says)

  -- it gives a name
  pub follows_calls : (naming : Naming) → Follows old mid held held' statements place → ReadsLine mid new held' held'' → judged place new.line ≡ Ok (Calls naming)
      → Follows old new held held'' statements (place_with naming place)
  follows_calls naming follows reads says =
      follows_line statements (place_with naming place) follows reads (makes_line (old.number + 1) follows.given statements place (mid.number + 1) new.line (Ok (Calls naming)) follows.makes says)

  -- it is a statement
  pub follows_says : (statement : Statement) → Follows old mid held held' statements place → ReadsLine mid new held' held'' → judged place new.line ≡ Ok (Says statement)
      → Follows old new held held'' (statements ++ statement ∷ []) place
  follows_says statement follows reads says =
      follows_line (statements ++ statement ∷ []) place follows reads
      (λ rest. makes_line (old.number + 1) follows.given statements place (mid.number + 1) new.line (Ok (Says statement)) follows.makes says rest
      ∙ sym (with_front-append statements (statement ∷ []) (listing_of place (mid.number + 1 + 1) rest)))

  -- it ends the listing
  makes_listing : (sizes : Sizes) (follows : Follows old mid held held' statements place) → ReadsLine mid new held' held'' → judged place new.line ≡ Ok (Ends sizes)
      → (rest : List Part) → listing_of Header (old.number + 1) ((follows.given ++ Line new.line ∷ []) ++ rest) ≡ Good (record { sizes = sizes; statements = statements }) new.number rest
  makes_listing sizes follows reads says rest =
      makes_line (old.number + 1) follows.given statements place (mid.number + 1) new.line (Ok (Ends sizes)) follows.makes says rest
      ∙ ap (λ s. Good (record { sizes = sizes; statements = s }) (mid.number + 1) rest) (append-nil statements)
      ∙ ap (λ n. Good (record { sizes = sizes; statements = statements }) n rest) (sym reads.counted)

  -- the known lines make it
  pub listed_end : (sizes : Sizes) → Follows old mid held held' statements place → ReadsLine mid new held' held'' → judged place new.line ≡ Ok (Ends sizes)
      → IsListed Header (old.number + 1) (ahead old held) (record { sizes = sizes; statements = statements }) new.number (ahead new held'')
  listed_end sizes follows reads says =
      listed (old.number + 1) (ahead old held) (ahead new held'') _ _ new.number (line_advances follows reads) (makes_listing sizes follows reads says)

  -- the lines given make it
  pub gives_end : (sizes : Sizes) → Follows old mid held held' statements place → ReadsLine mid new held' held'' → judged place new.line ≡ Ok (Ends sizes)
      → new.ended ≡ false → GivesListing old new held held'' (record { sizes = sizes; statements = statements })
  gives_end sizes follows reads says unended =
      let gives = line_gives follows reads unended in
      record {
        before = gives.0;
        given = follows.given ++ Line new.line ∷ [];
        gives = gives.1;
        makes = makes_listing sizes follows reads says;
      }

  -- the fault of the next line is that of all
  pub cause_judged : (fault : Fault) → Follows old mid held held' statements place → ReadsLine mid new held' held'' → judged place new.line ≡ Err fault
      → IsCause (faults.Refused (mid.number + 1) fault) Header (old.number + 1) (ahead old held)
  cause_judged fault follows reads says =
      refused (old.number + 1) (ahead old held) (ahead new held'') _ (mid.number + 1) fault (line_advances follows reads)
      (makes_line (old.number + 1) follows.given statements place (mid.number + 1) new.line (Err fault) follows.makes says)

  -- the source failed, and the lines given make no listing yet
  pub gives_front : Follows old mid held held' statements place → IsStopped mid new held' held'' → GivesFront old new held held''
  gives_front follows stopped =
      let gives = follows.gives stopped.before in
      record {
        unended = stopped.unended;
        unfinished = stopped.unfinished;
        given = follows.given;
        gives = GivesLines-kept (bytes_ahead old held) (bytes_ahead mid held') (bytes_ahead new held'') follows.given gives.1 stopped.kept;
        counted = stopped.counted ∙ follows.counted;
        fault = fault_at_end place;
        ends_early = rw stopped.counted (ap (listing_of Header (old.number + 1)) (sym (append-nil follows.given)) ∙ follows.makes [] ∙ ap (with_front statements) (listing_of-nil place (mid.number + 1)));
      }

  -- the lines before the next make no listing yet
  pub gives_before : Follows old mid held held' statements place → ReadsLine mid new held' held'' → GivesBefore old new held held''
  gives_before follows reads =
      let gives = follows.gives reads.before in
      let kept : Keeps (bytes_ahead mid held') (prepend_known (last_taken new) held'') = rw reads.before reads.near.kept in
      record {
        given = follows.given;
        gives = GivesLines-kept (bytes_ahead old held) (bytes_ahead mid held') (prepend_known (last_taken new) held'') follows.given gives.1 kept;
        near = reads.near.near;
        fault = fault_at_end place;
        ends_early =
            ap (listing_of Header (old.number + 1)) (sym (append-nil follows.given)) ∙ follows.makes []
            ∙ ap (with_front statements) (listing_of-nil place (mid.number + 1))
            ∙ ap (λ n. Refused (n + 1) (fault_at_end place)) follows.counted;
      }

-- the statements so far are ones of the place's machine, and there are none before it is known
abbrev pub HoldsIn : Place → List Statement → Type 0
HoldsIn Header statements = statements ≡ []
HoldsIn (Machine version) statements = statements ≡ []
HoldsIn (Statements terms) statements = IsWithinLimits terms.sizes × All (IsStatement terms.sizes) statements × All IsTyped statements

-- in the next place
pub holds_opens : (place next : Place) (statements : List Statement) → IsSaid place (Opens next) → HoldsIn place statements → HoldsIn next statements
holds_opens Header Header statements said held = absurd said
holds_opens Header (Machine version) statements said held = held
holds_opens Header (Statements terms) statements said held = absurd said
holds_opens (Machine version) Header statements said held = absurd said
holds_opens (Machine version) (Machine other) statements said held = absurd said
holds_opens (Machine version) (Statements terms) statements said held = (said, subst (All (IsStatement terms.sizes)) (sym held) (All-nil (IsStatement terms.sizes)), subst (All IsTyped) (sym held) (All-nil IsTyped))
holds_opens (Statements terms) Header statements said held = absurd said
holds_opens (Statements terms) (Machine version) statements said held = absurd said
holds_opens (Statements terms) (Statements other) statements said held = absurd said

-- behind a name
pub holds_calls : (place : Place) (naming : Naming) (statements : List Statement) → HoldsIn place statements → HoldsIn (place_with naming place) statements
holds_calls Header naming statements held = held
holds_calls (Machine version) naming statements held = held
holds_calls (Statements terms) naming statements held = held

-- elements that each have a property, with one more behind them
all_with : {A : Type 0} (P : A → Type 0) (xs : List A) (x : A) → All P xs → P x → All P (xs ++ x ∷ [])
all_with P xs x each is = All-append P xs (x ∷ []) each (All-cons P x [] is (All-nil P))

-- behind one more statement
pub holds_says : (place : Place) (statements : List Statement) (statement : Statement) → IsSaid place (Says statement) → IsTyped statement → HoldsIn place statements → HoldsIn place (statements ++ statement ∷ [])
holds_says Header statements statement said typed held = absurd said
holds_says (Machine version) statements statement said typed held = absurd said
holds_says (Statements terms) statements statement said typed held =
    (held.0, all_with (IsStatement terms.sizes) statements statement held.1 said, all_with IsTyped statements statement held.2 typed)
