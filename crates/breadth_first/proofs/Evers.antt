-- From the first state from which a test can't be come to.
use Rattle.std.proofs.Common.{◌≡◌, ℕ, ◌+◌, ◌<◌, ◌⊎◌, inl, inr, Bool, true, false, List, slice_get, Some, All, refl, sym, ap, ◌∙◌, subst, arith}
use Rattle.std.proofs.lemmas.Bool.{cases_eq}
use Rattle.std.proofs.lemmas.Option.{slice_get-get_or, same_Some}
use Rattle.breadth_first.specs.System.{System, IsEquality}
use Rattle.breadth_first.specs.Paths.{after, AreChoices, CanCome}
use Rattle.breadth_first.specs.Answer.{CanAlwaysCome, IsLost, Holds}
use Rattle.breadth_first.specs.Origins.{IsPathTo}
use Rattle.breadth_first.specs.Progress.{AreAll, IsOpened, IsFirstStuck}
use Rattle.breadth_first.specs.declared.answer.Want.{Want}
use Rattle.breadth_first.proofs.Tracing.{shorter, sooner}
use Rattle.breadth_first.proofs.Endings.{All-at}

module _ {S : Type 0} (g : System S) (law : IsEquality g.same) where
  -- no state is stuck
  pub always : (states : List S) → AreAll g states → (t : ℕ) → All (CanCome g t) states → CanAlwaysCome g t
  always states all t come path choices =
      let place = all path choices in
      All-at (CanCome g t) states come place.0 (after g g.start path) (slice_get-get_or states place.0 (after g g.start path) place.1 ∙ ap Some place.2)

  -- the first that is
  pub is-lost : (states : List S) → IsOpened g states → (t i : ℕ) → IsFirstStuck g states t (Some i) → (path : List ℕ) → IsPathTo g states i path → IsLost g states t path
  is-lost states begun t i (s, at, stuck, before) path to = record {
    choices = to.choices;
    never = λ other choices. never other choices (g.test t (after g (after g g.start path) other)) refl;
    shortest = shorter g law (CanCome g t) begun.upto states begun.front i path to before;
    earliest = sooner g law (CanCome g t) begun.upto states begun.front i path to before;
    index = i;
    state = to.leads;
    first = before;
  }
    where
      is : s ≡ after g g.start path
      is = same_Some s (after g g.start path) (sym at ∙ to.leads)

      never : (other : List ℕ) → AreChoices g other → (b : Bool) → g.test t (after g (after g g.start path) other) ≡ b → g.test t (after g (after g g.start path) other) ≡ false
      never other choices true e = absurd (stuck (subst (CanCome g t) (sym is) (other, choices, e)))
      never other choices false e = e

-- one want more that holds
pub holds-more : {S : Type 0} (g : System S) (most : ℕ) (wants : List Want) (n : ℕ) (want : Want) → slice_get wants n ≡ Some want → ((i : ℕ) (w : Want) → i < n → slice_get wants i ≡ Some w → Holds g most w) → Holds g most want
    → (i : ℕ) (w : Want) → i < n + 1 → slice_get wants i ≡ Some w → Holds g most w
holds-more g most wants n want there earlier here i w l at = by (cases_eq i n)
  where
    by : (i ≡ n) ⊎ (i ≡ n → ⊥) → Holds g most w
    by (inl e) = subst (Holds g most) (same_Some want w (sym there ∙ ap (slice_get wants) (sym e) ∙ at)) here
    by (inr apart) = earlier i w (omega (arith, apart)) at
