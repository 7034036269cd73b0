-- What is written last: its exit, and why a call ends with it.
use Rattle.std.proofs.Common.{◌≡◌, ◌≢◌, ◌⊎◌, ◌∙◌, [], ℕ, List, Option, inl, inr, refl, sym, ap, subst, true, false, arith}
use Rattle.std.proofs.lemmas.Option.{none-some}
use Rattle.coy_io.specs.Causes.{Rose}
use Rattle.coy_io.specs.Lines.{Part}
use Rattle.kernel_core.specs.Outcome.{Touch}
use Rattle.listing_read.specs.Listing.{Listed, Good, Refused, Past, listing_of}
use Rattle.listing_read.specs.Statement.{ListingValue}
use Rattle.listing_read.specs.declared.place.Place.TheVariants.{Header}
use Rattle.courses.specs.Listed.{Behind, lines_course, listed_course}
use Rattle.courses.specs.Course.{ComesTo, HasEntries, ends_in}
use Rattle.courses.specs.Ending.{AwaitsMore, Output, Ends, HasCauses, IsGiven, told_end}
use Rattle.courses.specs.Exit.{is_finished, status_of}
use Rattle.courses.specs.declared.exit.Exit.{Exit}
use Rattle.courses.specs.declared.exit.Exit.TheVariants.{Crossings, Done, ListingRefused, Open, OutOfMemory, PolicyRefused, QuestionRefused, ReadFault, TooLong, Usage, Violated, WriteFault}

-- exits with other numbers are others
pub exits-differ : (a b : Exit) → (status_of a ≡ status_of b → ⊥) → a ≡ b → ⊥
exits-differ a b other same = other (ap status_of same)

-- an exit of a call that did all was given, and tells no usage
pub finished-given : (e : Exit) → is_finished e ≡ true → IsGiven e
finished-given Done done = record { read = λ bad. cc; write = λ bad. cc; memory = λ bad. cc }
finished-given Crossings done = record { read = λ bad. cc; write = λ bad. cc; memory = λ bad. cc }
finished-given Violated done = record { read = λ bad. cc; write = λ bad. cc; memory = λ bad. cc }
finished-given Open done = record { read = λ bad. cc; write = λ bad. cc; memory = λ bad. cc }
finished-given _ done = cc

-- and lines of which all was done end nothing
pub finished-awaits : (e : Exit) → is_finished e ≡ true → AwaitsMore e
finished-awaits (PolicyRefused line fault) done = cc
finished-awaits (QuestionRefused line fault) done = cc
finished-awaits _ done = done

pub finished-form : (e : Exit) → is_finished e ≡ true → e ≢ Usage
finished-form e done usage = let bad : true ≡ false = sym done ∙ ap is_finished usage in cc

-- memory was wanting or not
pub memory-or : (e : Exit) → (e ≡ OutOfMemory) ⊎ (e ≢ OutOfMemory)
memory-or OutOfMemory = inl refl
memory-or _ = inr (λ bad. cc)

-- where reading failed, the source's count rose, and the sink's stayed
pub read-causes : (unread unread' unwritten unwritten' : ℕ) (exit : Exit) → exit ≡ ReadFault → Rose unread unread' → unwritten' ≡ unwritten → HasCauses unread unread' unwritten unwritten' exit
read-causes unread unread' unwritten unwritten' exit is rose still = record {
  read = λ same. rose;
  read_quiet = λ other. absurd (other is);
  write = λ same. absurd (exits-differ ReadFault WriteFault (λ n. let bad : 4 ≡ 5 = n in omega (arith, bad)) (sym is ∙ same));
  write_quiet = λ other. still;
}

-- and where writing failed, the sink's rose, and the source's stayed
pub write-causes : (unread unread' unwritten unwritten' : ℕ) (exit : Exit) → exit ≡ WriteFault → Rose unwritten unwritten' → unread' ≡ unread → HasCauses unread unread' unwritten unwritten' exit
write-causes unread unread' unwritten unwritten' exit is rose still = record {
  read = λ same. absurd (exits-differ WriteFault ReadFault (λ n. let bad : 5 ≡ 4 = n in omega (arith, bad)) (sym is ∙ same));
  read_quiet = λ other. still;
  write = λ same. rose;
  write_quiet = λ other. absurd (other is);
}

module _ (old new : Option (List ℕ)) (faults faults' : ℕ) (exit : Exit) (o : Output) (e : Ends old new faults faults' exit o) where
  -- an exit that no fault of writing gave is that of the last text
  pub ends-own : (x : Exit) → x ≢ WriteFault → exit ≡ x → o.exit ≡ x
  ends-own x other same = sym (e.given (λ cut. other (sym same ∙ cut))) ∙ same

  -- where the last text tells that not all was done, it was not
  pub ends-open : is_finished o.exit ≡ false → is_finished exit ≡ true → ⊥
  ends-open never done =
      let uncut : exit ≢ WriteFault = λ cut. let bad : false ≡ true = sym (ap is_finished cut) ∙ done in cc in
      let bad : false ≡ true = sym never ∙ ap is_finished (sym (e.given uncut)) ∙ done in cc

  -- a fault is the sink's, where reading had not failed before
  pub ends-causes : (unread unread' unwritten : ℕ) → o.exit ≢ ReadFault → unread' ≡ unread → faults ≡ unwritten → HasCauses unread unread' unwritten faults' exit
  ends-causes unread unread' unwritten other quiet still = record {
    read = λ same. absurd (other (ends-own ReadFault (λ cut. cc) same));
    read_quiet = λ other. quiet;
    write = λ same. subst (λ n. Rose n faults') still (e.write same);
    write_quiet = λ other. e.write_quiet other ∙ still;
  }

-- there are no entries of nothing
pub none-entries : (last : Output) → HasEntries (ends_in last)
none-entries last = record {
  are = record {
    right = λ n m at. absurd (none-some m at);
    once = λ i j m n ati atj spaces vas. absurd (none-some m ati);
    order = λ i j m n less ati atj spaces. absurd (none-some m ati);
  };
  whole = λ fits space page covered. cc;
}

-- a text by itself, with nothing fetched, is all that came
pub comes-last : (old new : Option (List ℕ)) (faults faults' fetches fetches' : ℕ) (exit : Exit) (count : List Touch → ℕ) (o : Output)
    → Ends old new faults faults' exit o → fetches' ≡ fetches → count [] ≡ 0 → ComesTo old new fetches fetches' exit count (ends_in o)
comes-last old new faults faults' fetches fetches' exit count o e same none =
    record { output = e.output; fetched = record { whole = λ given. omega (arith, same, none); most = omega (arith, same, none) } }

-- what is done with listings has entries that are right, whatever the lines
pub lines-entries : (behind : Behind) → ((listing : ListingValue) (last : ℕ) (rest : List Part) → HasEntries (behind listing last rest)) → (parts : List Part) → HasEntries (lines_course behind parts)
lines-entries behind all parts = by (listing_of Header 1 parts)
  where
    by : (listed : Listed) → HasEntries (listed_course behind listed)
    by (Good listing last rest) = all listing last rest
    by (Refused line fault) = none-entries (told_end (ListingRefused line fault))
    by Past = none-entries (told_end TooLong)
