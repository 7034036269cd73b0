-- Processes that are made ready one after the other, and those that are not yet.
use Rattle.std.proofs.Common.{◌≡◌, ℕ, zero, suc, ◌+◌, ◌<◌, Bool, true, false, if◌then◌else◌, List, [], ◌∷◌, ◌++◌, get_or, refl, sym, ap, subst, ◌∙◌, arith}
use Rattle.std.specs.List.{range_with_len, fold, filter}
use Rattle.std.proofs.lemmas.List.{get_or-set_other, map-id}
use Rattle.std.proofs.lemmas.List.Elements.{filter-append}
use Rattle.std.proofs.lemmas.List.FromFn.{map-range_with_len_more}
use Rattle.std.proofs.lemmas.List.Sums.{fold-append}
use Rattle.process_objects.specs.Process.{ProcessValue, empty_process}
use Rattle.object_store.specs.Store.{Store, process_at}
use Rattle.object_store.specs.Meaning.{state_map}
use Rattle.object_store.proofs.Means.{process_at-state_map}
use Rattle.schedules.specs.Ready.{places_due}
use Rattle.machine_state.specs.Machine.{MachineValue}
use Rattle.machine_state.specs.State.{State, state_of, process}
use Rattle.machine_state.specs.Setters.{ready}
use Rattle.image_builder.specs.Boot.{made_ready, StoppedFrom}

range_more : (n : ℕ) → range_with_len 0 (n + 1) ≡ range_with_len 0 n ++ n ∷ []
range_more n =
    sym (map-id (range_with_len 0 (n + 1))) ∙ (map-range_with_len_more (λ (k : ℕ). k) 0 n n (omega arith) ∙ ap (λ ks. ks ++ n ∷ []) (map-id (range_with_len 0 n)))

-- one process more
made_ready-more : (runs : ℕ → Bool) (n : ℕ) (s : State) → made_ready runs (n + 1) s ≡ (if runs n then ready (made_ready runs n s) n else made_ready runs n s)
made_ready-more runs n s =
    ap (λ ks. fold ready s (filter runs ks)) (range_more n)
    ∙ (ap (fold ready s) (filter-append runs (range_with_len 0 n) (n ∷ []))
    ∙ (fold-append ready s (filter runs (range_with_len 0 n)) (filter runs (n ∷ [])) ∙ on (runs n)))
  where
    on : (b : Bool) → fold ready (made_ready runs n s) (if b then n ∷ [] else []) ≡ (if b then ready (made_ready runs n s) n else made_ready runs n s)
    on true = refl
    on false = refl

pub made_ready_further : (flags : List Bool) (p : ℕ) (s before now : State) → before ≡ made_ready (λ k. get_or flags k false) p s
    → now ≡ (if get_or flags p false then ready before p else before) → now ≡ made_ready (λ k. get_or flags k false) (p + 1) s
made_ready_further flags p s before now e done =
    done ∙ (ap (λ (t : State). if get_or flags p false then ready t p else t) e ∙ sym (made_ready-more (λ k. get_or flags k false) p s))

-- the same processes run
pub made_ready-same : (f g : ℕ → Bool) (n : ℕ) (s : State) → ((k : ℕ) → k < n → f k ≡ g k) → made_ready f n s ≡ made_ready g n s
made_ready-same f g zero s same = refl
made_ready-same f g (suc n) s same =
    let next : n + 1 ≡ suc n = omega arith in
    let before = made_ready-same f g n s (λ k h. same k (omega (arith, h))) in
    subst (λ m. made_ready f m s ≡ made_ready g m s) next (made_ready-more f n s ∙ (rw (same n (omega arith), before) refl ∙ sym (made_ready-more g n s)))

-- a process has the same state in what the objects mean
state-state_map : (s : Store) (x : ℕ) → (process_at (state_map s) x).state ≡ (process_at s x).state
state-state_map s x = ap (λ (q : ProcessValue). q.state) (process_at-state_map s x)

-- where process `p` was made ready, those behind it are as they were
pub stopped_after : {T : Type 0} (old new : MachineValue T) (p : ℕ) → state_of new ≡ ready (state_of old) p → StoppedFrom p old.objects → StoppedFrom (p + 1) new.objects
stopped_after old new p e stopped x behind =
    ap places_due (sym (state-state_map new.objects x) ∙ (ap (λ (s : State). (process s x).state) e ∙ (ap (λ (q : ProcessValue). q.state) (get_or-set_other (state_map old.objects).contents.processes p x _ empty_process (λ same. absurd (omega (arith, same, behind)))) ∙ state-state_map old.objects x)))
    ∙ stopped x (omega (arith, behind))
