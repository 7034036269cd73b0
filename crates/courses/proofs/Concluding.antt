-- From what lines came to, and the exit that they gave, to what a call did with them.
use Rattle.std.proofs.Common.{◌≡◌, ◌≢◌, ◌≤◌, ◌+◌, ◌∙◌, ◌++◌, ℕ, List, Option, true, false, refl, sym, ap, subst, arith}
use Rattle.std.specs.Io.KnownBytes.{Appends, IsAtEnd, Keeps}
use Rattle.std.proofs.KnownBytes.{Keeps-refl}
use Rattle.coy_io.specs.Causes.{Rose}
use Rattle.coy_io.specs.Lines.{Part}
use Rattle.coy_io.specs.Pieces.{AppendsSome}
use Rattle.coy_io.specs.Reader.{Reader, ahead}
use Rattle.kernel_core.specs.Outcome.{Touch}
use Rattle.schedule_replay.specs.Scheduled.{OnParts}
use Rattle.schedule_replay.proofs.Reading.{on_all, on_each}
use Rattle.courses.specs.Course.{ComesTo, Course, course_fetches, course_output}
use Rattle.courses.specs.Ending.{Concludes, EndsIn, Fetches, IsGiven, Output, Outputs, told_end}
use Rattle.courses.specs.Exit.{is_finished}
use Rattle.courses.specs.Sure.{StandsOn}
use Rattle.courses.specs.Taken.{TakesLines}
use Rattle.courses.specs.declared.exit.Exit.{Exit}
use Rattle.courses.specs.declared.exit.Exit.TheVariants.{Usage, ReadFault, WriteFault, OutOfMemory}
use Rattle.courses.proofs.Endings.{outputs_behind, outputs_none}
use Rattle.courses.proofs.Lasts.{ends-causes, ends-own, read-causes, write-causes}

-- memory was wanting, and nothing was written
pub outputs_memory : (now new : Option (List ℕ)) (o : Output) → new ≡ now → Outputs now new OutOfMemory o
outputs_memory now new o same = record {
  whole = λ given. absurd (given.memory refl);
  part = λ cut. cc;
  nothing = λ none. subst (Keeps now) (sym same) (Keeps-refl now);
}

-- all that lines come to was done, but for the last text and so many slots for it
pub record IsWhole (old new : Option (List ℕ)) (f g : ℕ) (count : List Touch → ℕ) (o : Output) (slots : ℕ) (c : Course) : Type 0 where
  pub last : c.last ≡ o
  pub written : Appends old new c.records
  pub fetched : g ≡ f + count c.touches
  pub for_last : c.last_fetches ≡ slots

module _ {K : Type 0} (taken : K → Option (List ℕ)) (sink_faults : K → ℕ) (mid out : K) (exit : Exit) where
  -- an exit that no fault of writing gave is the one by which the call was concluded
  pub concludes-own : (given : Exit) → Concludes taken sink_faults given mid out exit → (x : Exit) → x ≢ WriteFault → exit ≡ x → given ≡ x
  concludes-own ReadFault c x other same = sym c.0 ∙ same
  concludes-own WriteFault c x other same = sym c.0 ∙ same
  concludes-own OutOfMemory c x other same = sym c.0 ∙ same
  concludes-own given c x other same = ends-own _ _ _ _ exit (told_end given) c x other same

  -- and where that tells that not all was done, it was not
  pub concludes-open : (given : Exit) → is_finished given ≡ false → Concludes taken sink_faults given mid out exit → is_finished exit ≡ true → ⊥
  concludes-open given never c done =
      let same : given ≡ exit = concludes-own given c exit (λ cut. let bad : false ≡ true = sym (ap is_finished cut) ∙ done in cc) refl in
      let bad : false ≡ true = sym never ∙ ap is_finished same ∙ done in cc

-- one of four, by the exit that lines gave
pub data Way (given : Exit) (Whole Unread Cut Wanting : Type 0) : Type 0 where
  came-whole : IsGiven given → given ≢ Usage → Whole → Way given Whole Unread Cut Wanting
  came-unread : given ≡ ReadFault → Unread → Way given Whole Unread Cut Wanting
  came-cut : given ≡ WriteFault → Cut → Way given Whole Unread Cut Wanting
  came-wanting : given ≡ OutOfMemory → Wanting → Way given Whole Unread Cut Wanting

module _ {S K : Type 0} (held : S → Option (List ℕ)) (source_faults : S → ℕ) (taken : K → Option (List ℕ)) (sink_faults : K → ℕ)
    (reader reader' : Reader) (old new : S) (start mid : K) (f g : ℕ) (count : List Touch → ℕ) (course : List Part → Course) where
  -- what is so of what the known lines come to
  abbrev OnCourse : (Course → Type 0) → Type 0
  OnCourse P = OnParts (ahead reader (held old)) (λ parts. P (course parts))

  -- the lines come to no fewer slots than were fetched
  abbrev IsMost : Course → Type 0
  IsMost c = g ≤ f + course_fetches count c

  -- all lines were read, or one was refused, and this is to be written last
  pub record CameWhole (o : Output) (last : ℕ) : Type 0 where
    pub whole : OnCourse (IsWhole (taken start) (taken mid) f g count o last)
    pub end : is_finished o.exit ≡ true → IsAtEnd (held new)
    pub quiet : source_faults new ≡ source_faults old
    pub still : sink_faults mid ≡ sink_faults start

  -- reading failed
  pub record CameUnread : Type 0 where
    pub stands : StandsOn reader reader' (held old) (held new) (taken start) (taken mid) f g count course
    pub most : OnCourse IsMost
    pub rose : Rose (source_faults old) (source_faults new)
    pub still : sink_faults mid ≡ sink_faults start

  -- writing failed
  pub record CameCut : Type 0 where
    pub front : OnCourse (λ c. AppendsSome (taken start) (taken mid) (course_output c).text × IsMost c)
    pub quiet : source_faults new ≡ source_faults old
    pub rose : Rose (sink_faults start) (sink_faults mid)

  -- memory was wanting
  pub record CameWanting : Type 0 where
    pub unwritten : taken mid ≡ taken start
    pub unspent : g ≡ f
    pub quiet : source_faults new ≡ source_faults old
    pub still : sink_faults mid ≡ sink_faults start

  -- what lines came to that gave this exit
  abbrev pub Came : Exit → Type 0
  Came given = Way given (CameWhole (told_end given) 0) CameUnread CameCut CameWanting

  module _ (out : K) (h : ℕ) (exit : Exit) where
    abbrev pub Did : Type 0
    Did = TakesLines held source_faults taken sink_faults reader reader' old new start out f h exit count course

    abbrev Comes : Course → Type 0
    Comes c = ComesTo (taken start) (taken out) f h exit count c

    comes-whole : (o : Output) (last : ℕ) (c : Course) → exit ≢ OutOfMemory → EndsIn taken sink_faults mid out exit o → Fetches g h exit last → IsWhole (taken start) (taken mid) f g count o last c → Comes c
    comes-whole o last c memory e fetched w =
        let before = w.fetched in
        let own = w.for_last in
        let most = fetched.most in
        record {
          output =
              subst (λ (x : Output). Outputs (taken start) (taken out) exit (record { text = c.records ++ x.text; exit = x.exit })) (sym w.last)
              (outputs_behind (taken start) (taken mid) (taken out) exit c.records o memory w.written e.output);
          fetched = record {
            whole = λ given. let whole = fetched.whole given in omega (arith, before, own, whole);
            most = omega (arith, before, own, most);
          };
        }

    -- and then this was written, as far as writing came
    pub takes-whole : (o : Output) (last : ℕ) → IsGiven o.exit → o.exit ≢ Usage → EndsIn taken sink_faults mid out exit o → Fetches g h exit last → CameWhole o last → Did
    takes-whole o last given form e fetched came =
        let own : (x : Exit) → x ≢ WriteFault → exit ≡ x → o.exit ≡ x = ends-own _ _ _ _ exit o e in
        let memory : exit ≢ OutOfMemory = λ same. given.memory (own OutOfMemory (λ cut. cc) same) in
        record {
          comes = on_all (ahead reader (held old)) _ _ (λ parts w. comes-whole o last (course parts) memory e fetched w) came.whole;
          end = λ done.
              let uncut : exit ≢ WriteFault = λ cut. let bad : false ≡ true = sym (ap is_finished cut) ∙ done in cc in
              came.end (ap is_finished (sym (e.given uncut)) ∙ done);
          sure = λ same. absurd (given.read (own ReadFault (λ cut. cc) same));
          usage = λ same. form (own Usage (λ cut. cc) same);
          causes = ends-causes _ _ _ _ exit o e _ _ _ given.read came.quiet came.still;
          unwritten = λ same. absurd (memory same);
          unspent = λ same. absurd (memory same);
        }

    -- nothing more, where reading failed
    takes-unread : exit ≡ ReadFault → out ≡ mid → h ≡ g → CameUnread → Did
    takes-unread is same spent came = record {
      comes = on_all (ahead reader (held old)) _ _
          (λ parts most. record {
            output = subst (λ e. Outputs (taken start) (taken out) e (course_output (course parts))) (sym is) (outputs_none (taken start) (taken out) (course_output (course parts)));
            fetched = record { whole = λ given. absurd (given.read is); most = omega (arith, spent, most) };
          }) came.most;
      end = λ done. let bad : false ≡ true = sym (ap is_finished is) ∙ done in cc;
      sure = λ failed.
          subst (λ k. StandsOn reader reader' (held old) (held new) (taken start) (taken k) f h count course) (sym same)
          (subst (λ n. StandsOn reader reader' (held old) (held new) (taken start) (taken mid) f n count course) (sym spent) came.stands);
      usage = λ usage. let bad : ReadFault ≡ Usage = sym is ∙ usage in cc;
      causes = read-causes _ _ _ _ exit is came.rose (ap sink_faults same ∙ came.still);
      unwritten = λ memory. let bad : ReadFault ≡ OutOfMemory = sym is ∙ memory in cc;
      unspent = λ memory. let bad : ReadFault ≡ OutOfMemory = sym is ∙ memory in cc;
    }

    -- or writing
    takes-cut : exit ≡ WriteFault → out ≡ mid → h ≡ g → CameCut → Did
    takes-cut is same spent came = record {
      comes = on_all (ahead reader (held old)) _ _
          (λ parts cut.
          let most = cut.1 in
          record {
            output = record {
              whole = λ given. absurd (given.write is);
              part = λ again. subst (λ k. AppendsSome (taken start) (taken k) (course_output (course parts)).text) (sym same) cut.0;
              nothing = λ memory. let bad : WriteFault ≡ OutOfMemory = sym is ∙ memory in cc;
            };
            fetched = record { whole = λ given. absurd (given.write is); most = omega (arith, spent, most) };
          }) came.front;
      end = λ done. let bad : false ≡ true = sym (ap is_finished is) ∙ done in cc;
      sure = λ failed. let bad : WriteFault ≡ ReadFault = sym is ∙ failed in cc;
      usage = λ usage. let bad : WriteFault ≡ Usage = sym is ∙ usage in cc;
      causes = write-causes _ _ _ _ exit is (subst (λ k. Rose (sink_faults start) (sink_faults k)) (sym same) came.rose) came.quiet;
      unwritten = λ memory. let bad : WriteFault ≡ OutOfMemory = sym is ∙ memory in cc;
      unspent = λ memory. let bad : WriteFault ≡ OutOfMemory = sym is ∙ memory in cc;
    }

    -- or where memory was wanting
    pub takes-wanting : exit ≡ OutOfMemory → out ≡ mid → h ≡ g → CameWanting → Did
    takes-wanting is same spent came =
        let still : taken out ≡ taken start = ap taken same ∙ came.unwritten in
        let none = came.unspent in
        record {
          comes = on_each (ahead reader (held old)) _
              (λ parts known. record {
                output = subst (λ e. Outputs (taken start) (taken out) e (course_output (course parts))) (sym is) (outputs_memory (taken start) (taken out) (course_output (course parts)) still);
                fetched = record { whole = λ given. absurd (given.memory is); most = omega (arith, spent, none) };
              });
          end = λ done. let bad : false ≡ true = sym (ap is_finished is) ∙ done in cc;
          sure = λ failed. let bad : OutOfMemory ≡ ReadFault = sym is ∙ failed in cc;
          usage = λ usage. let bad : OutOfMemory ≡ Usage = sym is ∙ usage in cc;
          causes = record {
            read = λ failed. let bad : OutOfMemory ≡ ReadFault = sym is ∙ failed in cc;
            read_quiet = λ other. came.quiet;
            write = λ cut. let bad : OutOfMemory ≡ WriteFault = sym is ∙ cut in cc;
            write_quiet = λ other. ap sink_faults same ∙ came.still;
          };
          unwritten = λ memory. still;
          unspent = λ memory. spent ∙ none;
        }

    concludes-whole : (given : Exit) → IsGiven given → Concludes taken sink_faults given mid out exit → EndsIn taken sink_faults mid out exit (told_end given)
    concludes-whole ReadFault g c = absurd (g.read refl)
    concludes-whole WriteFault g c = absurd (g.write refl)
    concludes-whole OutOfMemory g c = absurd (g.memory refl)
    concludes-whole given g c = c

    -- the call was concluded by the exit that the lines gave
    pub takes-concluded : (given : Exit) → Came given → Concludes taken sink_faults given mid out exit → h ≡ g → Did
    takes-concluded given (came-whole g form came) c spent =
        takes-whole (told_end given) 0 g form (concludes-whole given g c) (record { whole = λ given. omega (arith, spent); most = omega (arith, spent) }) came
    takes-concluded given (came-unread is came) c spent = let e = subst (λ x. Concludes taken sink_faults x mid out exit) is c in takes-unread e.0 e.1 spent came
    takes-concluded given (came-cut is came) c spent = let e = subst (λ x. Concludes taken sink_faults x mid out exit) is c in takes-cut e.0 e.1 spent came
    takes-concluded given (came-wanting is came) c spent = let e = subst (λ x. Concludes taken sink_faults x mid out exit) is c in takes-wanting e.0 e.1 spent came
