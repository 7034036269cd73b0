-- Laws of runs: by parts, and event by event.
use Rattle.std.proofs.Common.{◌≡◌, ℕ, ◌+◌, List, [], ◌∷◌, ◌++◌, refl, sym, ap, ◌∙◌, append_assoc, arith}
use Rattle.cap_format.specs.Capability.{Capability}
use Rattle.cap_format.specs.declared.item.Item.{Item}
use Rattle.object_store.specs.Store.{Items}
use Rattle.walk_meaning.specs.declared.kind.Kind.{Kind}
use Rattle.machine_state.specs.declared.event.Event.{Event}
use Rattle.machine_state.specs.State.{State}
use Rattle.machine_state.specs.Outcome.{Touch, kept_at, spent, kept_after}
use Rattle.kernel_core.specs.Event.{event_of}
use Rattle.kernel_core.specs.Run.{run_state, run_records, run_touches, run_of}

-- where there is no event the state stays
pub run_state-nil : (s : State) → run_state s [] ≡ s
unfolding run_state
run_state-nil s = refl

-- where there is no event nothing is told
pub run_records-nil : (s : State) → run_records s [] ≡ []
unfolding run_records
run_records-nil s = refl

-- where there is no event no translator is asked
pub run_touches-nil : (s : State) → run_touches s [] ≡ []
unfolding run_touches
run_touches-nil s = refl

-- the events behind the first begin in the state that it leaves
pub run_state-cons : (s : State) (e : Event) (es : List Event) → run_state s (e ∷ es) ≡ run_state (event_of s e).state es
unfolding run_state
run_state-cons s e es = refl

-- the first event's records come before those of the events behind it
pub run_records-cons : (s : State) (e : Event) (es : List Event) → run_records s (e ∷ es) ≡ (event_of s e).records ++ run_records (event_of s e).state es
unfolding run_records
run_records-cons s e es = refl

-- the first event's touches come before those of the events behind it
pub run_touches-cons : (s : State) (e : Event) (es : List Event) → run_touches s (e ∷ es) ≡ (event_of s e).touches ++ run_touches (event_of s e).state es
unfolding run_touches
run_touches-cons s e es = refl

-- a run of two lists is the run of the second from where the first ends
pub run_state-append : (s : State) (es fs : List Event) → run_state s (es ++ fs) ≡ run_state (run_state s es) fs
unfolding run_state
run_state-append s [] fs = refl
run_state-append s (e ∷ es) fs = run_state-append (event_of s e).state es fs

-- the records of a run of two lists are those of the first, then those of the second from where the first ends
pub run_records-append : (s : State) (es fs : List Event) → run_records s (es ++ fs) ≡ run_records s es ++ run_records (run_state s es) fs
unfolding run_state run_records
run_records-append s [] fs = refl
run_records-append s (e ∷ es) fs =
    ap (λ rs. (event_of s e).records ++ rs) (run_records-append (event_of s e).state es fs)
    ∙ sym (append_assoc (event_of s e).records (run_records (event_of s e).state es) (run_records (run_state (event_of s e).state es) fs))

-- the touches of a run of two lists are those of the first, then those of the second from where the first ends
pub run_touches-append : (s : State) (es fs : List Event) → run_touches s (es ++ fs) ≡ run_touches s es ++ run_touches (run_state s es) fs
unfolding run_state run_touches
run_touches-append s [] fs = refl
run_touches-append s (e ∷ es) fs =
    ap (λ ts. (event_of s e).touches ++ ts) (run_touches-append (event_of s e).state es fs)
    ∙ sym (append_assoc (event_of s e).touches (run_touches (event_of s e).state es) (run_touches (run_state (event_of s e).state es) fs))

-- what comes of a run: its state
pub run_of-state : (s : State) (es : List Event) → (run_of s es).state ≡ run_state s es
unfolding run_of run_state
run_of-state s [] = refl
run_of-state s (e ∷ es) = run_of-state (event_of s e).state es

-- its touches
pub run_of-touches : (s : State) (es : List Event) → (run_of s es).touches ≡ run_touches s es
unfolding run_of run_touches
run_of-touches s [] = refl
run_of-touches s (e ∷ es) = ap (λ ts. (event_of s e).touches ++ ts) (run_of-touches (event_of s e).state es)

-- touches, and those behind them, by what a translator says of one access and of one change
module _ {K : Type 0} (cost : K → Items → Capability → ℕ → Kind → ℕ) (after : K → Items → Capability → ℕ → Kind → K) (without : K → Item → K) where
  -- what is kept after two lists of touches is what is kept after the second, from what the first leaves
  pub kept_after-append : (k : K) (ts us : List Touch) → kept_after cost after without k (ts ++ us) ≡ kept_after cost after without (kept_after cost after without k ts) us
  kept_after-append k [] us = refl
  kept_after-append k (t ∷ ts) us = kept_after-append (kept_at cost after without k t) ts us

  -- two lists of touches fetch what the first fetches, and what the second fetches from what is kept then
  pub spent-append : (k : K) (ts us : List Touch) → spent cost after without k (ts ++ us) ≡ spent cost after without k ts + spent cost after without (kept_after cost after without k ts) us
  spent-append k [] us = omega arith
  spent-append k (t ∷ ts) us =
      let rest = spent-append (kept_at cost after without k t) ts us in
      omega (arith, rest)
