-- Where nobody goes on in a machine, nobody does in the other.
use Rattle.std.proofs.Common.{◌≡◌, ℕ, inl, inr, true, false, List, [], ◌∷◌, Option, Some, None, refl, sym, ap, ◌∙◌, subst}
use Rattle.schedules.specs.Queues.{QueuesValue, ready_queue, hart_of, stands_in}
use Rattle.machine_state.specs.State.{IsOnHart}
use Rattle.preemption.specs.Places.{Thinned, Thins}
use Rattle.preemption.specs.Laws.{NobodyGoesOn, StuckLaw}
use Rattle.preemption.proofs.Thinning.{thinned-none}

module _ (few : ℕ) (n w : QueuesValue) (t : Thins few n w) where
  -- on an idle hart is nobody
  nobody-on : (q : QueuesValue) (x : ℕ) → ((hart : ℕ) → hart_of q hart ≡ None) → IsOnHart q x → ⊥
  nobody-on q x idle on = by (sym on.there ∙ idle on.hart)
    where
      by : Some x ≡ None → ⊥
      by e = cc

  -- in an empty queue stands nobody
  nobody-in : (x : ℕ) (xs : List ℕ) → xs ≡ [] → stands_in xs x ≡ true → ⊥
  nobody-in x xs none is = by (sym (ap (λ ys. stands_in ys x) none) ∙ is)
    where
      by : false ≡ true → ⊥
      by e = cc

  wide-idle : NobodyGoesOn n → (hart : ℕ) (on : Option ℕ) → hart_of w hart ≡ on → on ≡ None
  wide-idle nobody hart None is = refl
  wide-idle nobody hart (Some x) is =
      absurd (elim (t.held x (record { hart = hart; there = is })) [
        | inl on ↦ nobody-on n x nobody.harts on
        | inr ready ↦ nobody-in x (ready_queue n ready.priority) (nobody.ready ready.priority)
            ready.there
      ])

  pub nobody-wide : NobodyGoesOn n → NobodyGoesOn w
  nobody-wide nobody = record {
    harts = λ hart. wide-idle nobody hart (hart_of w hart) refl;
    ready = λ priority. subst (λ xs. Thinned (IsOnHart w) xs (ready_queue w priority))
        (nobody.ready priority) (t.ready priority);
  }

  narrow-idle : NobodyGoesOn w → (hart : ℕ) (on : Option ℕ) → hart_of n hart ≡ on → on ≡ None
  narrow-idle nobody hart None is = refl
  narrow-idle nobody hart (Some x) is =
      absurd (nobody-on w x nobody.harts (t.harts x (record { hart = hart; there = is })))

  narrow-empty : NobodyGoesOn w → (xs : List ℕ) → Thinned (IsOnHart w) xs [] → xs ≡ []
  narrow-empty nobody [] thinned = refl
  narrow-empty nobody (x ∷ xs) thinned =
      absurd (nobody-on w x nobody.harts (thinned-none (IsOnHart w) x xs thinned))

  pub nobody-narrow : NobodyGoesOn w → NobodyGoesOn n
  nobody-narrow nobody = record {
    harts = λ hart. narrow-idle nobody hart (hart_of n hart) refl;
    ready = λ priority. narrow-empty nobody (ready_queue n priority)
        (subst (Thinned (IsOnHart w) (ready_queue n priority)) (nobody.ready priority)
        (t.ready priority));
  }

pub stuck : StuckLaw
stuck few many s w spread = (
  nobody-wide few s.queues w.queues spread.places,
  nobody-narrow few s.queues w.queues
      spread.places,
)
