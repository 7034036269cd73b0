-- From what a search says of its wants to what comes, and what doesn't, of what a question asks.
use Rattle.std.proofs.Common.{◌≡◌, ◌∙◌, ℕ, ◌<◌, ◌⊎◌, inl, inr, ◌++◌, Bool, true, false, List, length, slice_get, Some, refl, sym, ap, subst}
use Rattle.std.specs.List.{All}
use Rattle.std.proofs.lemmas.List.Elements.{All-contains}
use Rattle.std.proofs.lemmas.Option.{get_or_from_slice_get, slice_get_within}
use Rattle.machine_state.specs.State.{State}
use Rattle.separation_policy.specs.Policy.{PolicyValue}
use Rattle.fair_rounds.specs.Rounds.{Evades, IsEvasion, IsLasso, MustWithin}
use Rattle.breadth_first.specs.Answer.{Holds, IsAvoided, IsFirstMissed, Misses, want_of}
use Rattle.breadth_first.specs.Paths.{after, CanCome as CanComeIn}
use Rattle.breadth_first.specs.System.{System, IsEquality}
use Rattle.breadth_first.specs.declared.answer.Avoided.{Avoided as Avoidance}
use Rattle.breadth_first.specs.declared.answer.Lost.{Lost as Loss}
use Rattle.breadth_first.specs.declared.answer.Missed.{Missed}
use Rattle.breadth_first.specs.declared.answer.Missed.TheVariants.{Lost, Avoided}
use Rattle.breadth_first.specs.declared.answer.Want.{Want}
use Rattle.questions.specs.declared.asks.Asks.{Asks}
use Rattle.questions.specs.declared.asks.Asks.TheVariants.{Never, Ever, Must, MustAfter, Count}
use Rattle.questions.specs.Question.{QuestionValue, choices_of, first_holds, holds, is_ever, is_must, is_must_after}
use Rattle.questions.specs.Asking.{asking, is_want, property_at}
use Rattle.questions.proofs.Numbers.{asking-is}
use Rattle.exploration.specs.Explored.{AllCanCome, AllMustCome, AvoidedAt, Avoids, CanCome, IsAskedFrom, IsMet, LostAt, MustCome, come_to, next_state, system_of, want_by, wanted, wants_of}
use Rattle.exploration.proofs.Runs.{after-is, after-on}
use Rattle.exploration.proofs.Wants.{ever-is, must-is, must_after-is, want-earlier, want-named, want-there}

module _ (question : QuestionValue) (policy : PolicyValue) (same : State → State → Bool) (decides : IsEquality same) (s : State) where
  abbrev g : System State
  g = system_of question policy same s

  -- what property `n` asks
  abbrev asks_at : ℕ → Asks
  asks_at n = (property_at question.properties n).asks

  -- what a search tells of the state to which choices behind others lead
  told-on : (n : ℕ) (path on : List ℕ) (b : Bool) → holds question policy (after g (after g s path) on) n ≡ b → holds question policy (come_to question policy s (path ++ on)) n ≡ b
  told-on n path on b is = ap (λ t. holds question policy t n) (sym (after-on question policy same s s path on)) ∙ is

  can-come : (n : ℕ) (path : List ℕ) → CanComeIn g n (after g s path) → CanCome question policy s path n
  can-come n path can = record { on = can.0; choices = can.1; holds = told-on n path can.0 true can.2 }

  -- ---- what comes

  must-along : (most n : ℕ) (path : List ℕ) → MustWithin g.next (g.test n) g.choices (after g s path) most → MustCome question policy s most n (come_to question policy s path)
  must-along most n path is = subst (λ t. MustCome question policy s most n t) (after-is question policy same s s path) is

  first-along : (n : ℕ) (path : List ℕ) → first_holds question policy (come_to question policy s path) n ≡ true → g.first n (after g s path) ≡ true
  first-along n path is = ap (λ t. first_holds question policy t n) (after-is question policy same s s path) ∙ is

  -- a property whose want holds, where it has one, is met
  met : (most n : ℕ) → (is_want (asks_at n) ≡ true → Holds g most (want_by (asks_at n) n)) → IsMet question policy s most n
  met most n comes = record {
    ever = λ asked path are. can-come n path (held Ever refl (ever-is (asks_at n) asked.asked) path are);
    must = λ asked. held Must refl (must-is (asks_at n) asked.asked);
    after = λ asked path are begins. must-along most n path (held MustAfter refl (must_after-is (asks_at n) asked.asked) path are (first-along n path begins));
  }
    where
      held : (a : Asks) → is_want a ≡ true → asks_at n ≡ a → Holds g most (want_by a n)
      held a wants is = subst (λ b. Holds g most (want_by b n)) is (comes (ap is_want is ∙ wants))

  all-met : (most : ℕ) → All (Holds g most) (wants_of question) → (n : ℕ) → n < length question.properties → IsMet question policy s most n
  all-met most all n there = met most n (λ asked.
      let at = want-there question n there asked in
      let want = want_by (asks_at n) n in
      All-contains (Holds g most) (wants_of question) want all (at.0, slice_get_within (wants_of question) at.0 want at.1, get_or_from_slice_get (wants_of question) at.0 want want at.1))

  pub all-can : (most : ℕ) → All (Holds g most) (wants_of question) → AllCanCome question policy s
  all-can most all n asked path are = (all-met most all n asked.there).ever asked path are

  pub all-must : (most : ℕ) → All (Holds g most) (wants_of question) → AllMustCome question policy s most
  all-must most all = record {
    must = λ n asked. (all-met most all n asked.there).must asked;
    after = λ n asked path are begins. (all-met most all n asked.there).after asked path are begins;
  }

  -- ---- what doesn't

  module _ (states : List State) (most : ℕ) (missed : Missed) (f : IsFirstMissed g states most (wants_of question) missed) where
    -- the number of its property
    abbrev number : ℕ
    number = wanted question policy s (want_of missed)

    named : (slice_get (asking is_want question.properties) (want_of missed) ≡ Some number) × (f.want ≡ want_by (asks_at number) number)
    named = want-named question (want_of missed) f.want f.there

    first-met : (m : ℕ) → m < number → IsMet question policy s most m
    first-met m before = met most m (λ asked.
        let place = want-earlier question (want_of missed) number m named.0 before asked in
        f.earlier place.0 (want_by (asks_at m) m) place.1 place.2)

    there : number < length question.properties
    there = (asking-is is_want question.properties (want_of missed) number named.0).0

    wants : is_want (asks_at number) ≡ true
    wants = (asking-is is_want question.properties (want_of missed) number named.0).1

    misses : (a : Asks) → asks_at number ≡ a → Misses g states (want_by a number) missed
    misses a is = subst (λ w. Misses g states w missed) (named.1 ∙ ap (λ b. want_by b number) is) f.misses

    -- it isn't one that asks for nothing to come
    unwanted : (a : Asks) → is_want a ≡ false → asks_at number ≡ a → ⊥
    unwanted a none is = let both : true ≡ false = sym wants ∙ ap is_want is ∙ none in cc

  pub lost-at : (states : List State) (most : ℕ) (l : Loss) → IsFirstMissed g states most (wants_of question) (Lost l) → LostAt question policy s most (wanted question policy s l.want) l.path.items
  lost-at states most l f = by (asks_at n) refl
    where
      n : ℕ
      n = wanted question policy s l.want

      by : (a : Asks) → asks_at n ≡ a → LostAt question policy s most n l.path.items
      by Never is = absurd (unwanted states most (Lost l) f Never refl is)
      by Count is = absurd (unwanted states most (Lost l) f Count refl is)
      by Must is = absurd (misses states most (Lost l) f Must is)
      by MustAfter is = absurd (misses states most (Lost l) f MustAfter is)
      by Ever is =
          let it = misses states most (Lost l) f Ever is in
          record {
            ever = record { there = there states most (Lost l) f; asked = ap is_ever is };
            choices = it.choices;
            lost = λ on are. told-on n l.path.items on false (it.never on are);
            shortest = λ other are short. can-come n other (it.shortest other are short);
            earliest = λ other are long earlier. can-come n other (it.earliest other are long earlier);
            first = first-met states most (Lost l) f;
          }

  -- what evades in the search avoids in the question, and the other way, where both begin with the same states
  module _ (n : ℕ) (first : State → Bool) where
    avoids : ((t : State) → first t ≡ true → IsAskedFrom question policy s n t) → (path cycle : List ℕ) → IsEvasion g.next (g.test n) g.choices first s path cycle → Avoids question policy s n path cycle
    avoids asked path cycle e = record {
      stem = e.stem;
      rest = e.rest;
      parts = e.parts;
      choices = e.choices;
      asked = asked (come_to question policy s e.stem) (ap first (sym (after-is question policy same s s e.stem)) ∙ e.begins);
      lasso = subst (λ t. IsLasso (next_state question) (λ u. holds question policy u n) (length (choices_of question)) t e.rest cycle) (after-is question policy same s s e.stem) e.lasso;
      evades = λ most. subst (λ t. Evades (next_state question) (λ u. holds question policy u n) (length (choices_of question)) t most) (after-is question policy same s s e.stem) (e.evades most);
    }

    evades : ((t : State) → IsAskedFrom question policy s n t → first t ≡ true) → (path cycle : List ℕ) → Avoids question policy s n path cycle → IsEvasion g.next (g.test n) g.choices first s path cycle
    evades begins path cycle a = record {
      stem = a.stem;
      rest = a.rest;
      parts = a.parts;
      choices = a.choices;
      begins = ap first (after-is question policy same s s a.stem) ∙ begins (come_to question policy s a.stem) a.asked;
      lasso = subst (λ t. IsLasso (next_state question) (λ u. holds question policy u n) (length (choices_of question)) t a.rest cycle) (sym (after-is question policy same s s a.stem)) a.lasso;
      evades = λ most. subst (λ t. Evades (next_state question) (λ u. holds question policy u n) (length (choices_of question)) t most) (sym (after-is question policy same s s a.stem)) (a.evades most);
    }

  pub avoided-at : (states : List State) (most : ℕ) (a : Avoidance) → IsFirstMissed g states most (wants_of question) (Avoided a) → AvoidedAt question policy s most (wanted question policy s a.want) a.path.items a.cycle.items
  avoided-at states most a f = by (asks_at n) refl
    where
      n : ℕ
      n = wanted question policy s a.want

      of : (first : State → Bool) → ((t : State) → first t ≡ true → IsAskedFrom question policy s n t) → ((t : State) → IsAskedFrom question policy s n t → first t ≡ true)
          → IsAvoided g first n a.path.items a.cycle.items → AvoidedAt question policy s most n a.path.items a.cycle.items
      of first asked begins it = record {
        avoids = avoids n first asked a.path.items a.cycle.items it.evasion;
        shortest = λ other round is. it.shortest other round (evades n first begins other round is);
        earliest = λ other round is long earlier. it.earliest other round (evades n first begins other round is) long earlier;
        first = first-met states most (Avoided a) f;
      }

      -- one that asks for something else isn't asked here
      other : (b c : Bool) → b ≡ true → b ≡ c → c ≡ false → ⊥
      other b c is to none = let both : true ≡ false = sym is ∙ to ∙ none in cc

      by : (b : Asks) → asks_at n ≡ b → AvoidedAt question policy s most n a.path.items a.cycle.items
      by Never is = absurd (unwanted states most (Avoided a) f Never refl is)
      by Count is = absurd (unwanted states most (Avoided a) f Count refl is)
      by Ever is = absurd (misses states most (Avoided a) f Ever is)
      by Must is = of (same s) asked begins (misses states most (Avoided a) f Must is)
        where
          asked : (t : State) → same s t ≡ true → IsAskedFrom question policy s n t
          asked t at = inl (record { there = there states most (Avoided a) f; asked = ap is_must is }, sym ((decides s t).0 at))

          begins : (t : State) → IsAskedFrom question policy s n t → same s t ≡ true
          begins t (inl it) = (decides s t).1 (sym it.1)
          begins t (inr it) = absurd (other _ _ it.0.asked (ap is_must_after is) refl)
      by MustAfter is = of (λ t. first_holds question policy t n) asked begins (misses states most (Avoided a) f MustAfter is)
        where
          asked : (t : State) → first_holds question policy t n ≡ true → IsAskedFrom question policy s n t
          asked t at = inr (record { there = there states most (Avoided a) f; asked = ap is_must_after is }, at)

          begins : (t : State) → IsAskedFrom question policy s n t → first_holds question policy t n ≡ true
          begins t (inl it) = absurd (other _ _ it.0.asked (ap is_must is) refl)
          begins t (inr it) = it.1
