-- Making processes ready changes their states and where they stand, and nothing else of the objects.
use Rattle.std.proofs.Common.{ℕ, zero, suc, ◌≡◌, ◌≢◌, ◌+◌, ◌<◌, ◌≤◌, ◌⊎◌, Bool, true, false, if◌then◌else◌, [], ◌∷◌, ◌++◌, length, refl, sym, ap, subst, ◌∙◌, inl, inr, arith}
use Rattle.std.specs.List.{range_with_len, fold, filter}
use Rattle.std.specs.Option.{is_some}
use Rattle.std.proofs.Math.Seq.{map-set_same}
use Rattle.std.proofs.lemmas.Bool.{cases_lt}
use Rattle.std.proofs.lemmas.List.{get_or-set_other, get_or-set_same, length-map, map-id}
use Rattle.std.proofs.lemmas.List.Elements.{filter-append}
use Rattle.std.proofs.lemmas.List.FromFn.{map-range_with_len_more}
use Rattle.std.proofs.lemmas.List.Sums.{fold-append}
use Rattle.cap_format.specs.declared.kind.CapKind.{CapKind}
use Rattle.cap_format.specs.declared.kind.CapKind.TheVariants.{Schedule}
use Rattle.process_objects.specs.declared.state.State.{State as RunState}
use Rattle.process_objects.specs.declared.state.State.TheVariants.{Running}
use Rattle.process_objects.specs.Process.{ProcessValue, with_state, stopped, empty_process}
use Rattle.object_store.specs.Store.{Store, with_contents}
use Rattle.schedules.specs.Ready.{readied_state, readied_process}
use Rattle.kernel_core.specs.State.{State, process, schedule_slot}
use Rattle.kernel_core.specs.Setters.{ready}
use Rattle.image_builder.specs.Boot.{made_ready}
use Rattle.read_back.specs.Laws.{runs_of}
use Rattle.boot_again.specs.Boots.{all_stopped}

-- ---- one process

-- the objects with each process stopped are the same
stopped_once : (s : State) (k : ℕ) → all_stopped (ready s k).store ≡ all_stopped s.store
stopped_once s k =
    ap (λ processes. with_contents s.store (record s.store.contents { processes = processes }))
    (map-set_same (λ (p : ProcessValue). with_state p stopped) s.store.contents.processes k (readied_process (schedule_slot s k).kind (process s k)) empty_process refl)

-- another process is as it was
ready_other : (s : State) (k p : ℕ) → p ≢ k → process (ready s k) p ≡ process s p
ready_other s k p other = get_or-set_other s.store.contents.processes k p (readied_process (schedule_slot s k).kind (process s k)) empty_process other

-- this one runs, if it is known whether it runs
told : (kind : CapKind) (pc : ℕ) → is_some (runs_of (readied_state kind pc)) ≡ true → readied_state kind pc ≡ Running
told Schedule pc known = refl
told _ pc known = absurd (cc)

-- a state that is Running if it is known whether it runs
abbrev pub IsTold : RunState → Type 0
IsTold state = is_some (runs_of state) ≡ true → state ≡ Running

ready_told : (s : State) (p : ℕ) → p < length s.store.contents.processes → IsTold (process (ready s p) p).state
ready_told s p there =
    subst (λ (q : ProcessValue). IsTold q.state) (sym (get_or-set_same s.store.contents.processes p (readied_process (schedule_slot s p).kind (process s p)) empty_process there))
    (told (schedule_slot s p).kind (process s p).pc)

-- ---- all that run

range_more : (n : ℕ) → range_with_len 0 (n + 1) ≡ range_with_len 0 n ++ n ∷ []
range_more n =
    sym (map-id (range_with_len 0 (n + 1))) ∙ map-range_with_len_more (λ (k : ℕ). k) 0 n n (omega arith) ∙ ap (λ ks. ks ++ n ∷ []) (map-id (range_with_len 0 n))

-- one process more
pub made_more : (runs : ℕ → Bool) (n : ℕ) (s : State) → made_ready runs (suc n) s ≡ (if runs n then ready (made_ready runs n s) n else made_ready runs n s)
made_more runs n s =
    let next : suc n ≡ n + 1 = omega arith in
    ap (λ m. made_ready runs m s) next
    ∙ ap (λ ks. fold ready s (filter runs ks)) (range_more n)
    ∙ ap (fold ready s) (filter-append runs (range_with_len 0 n) (n ∷ []))
    ∙ fold-append ready s (filter runs (range_with_len 0 n)) (filter runs (n ∷ []))
    ∙ on (runs n)
  where
    on : (b : Bool) → fold ready (made_ready runs n s) (if b then n ∷ [] else []) ≡ (if b then ready (made_ready runs n s) n else made_ready runs n s)
    on true = refl
    on false = refl

-- the same processes run
pub made_same : (f g : ℕ → Bool) (n : ℕ) (s : State) → ((k : ℕ) → k < n → f k ≡ g k) → made_ready f n s ≡ made_ready g n s
made_same f g zero s same = refl
made_same f g (suc n) s same =
    let before = made_same f g n s (λ k below. same k (omega arith)) in
    made_more f n s ∙ rw (same n (omega arith), before) (sym (made_more g n s))

module _ (runs : ℕ → Bool) (s : State) where
  pub stopped_same : (n : ℕ) → all_stopped (made_ready runs n s).store ≡ all_stopped s.store
  stopped_same zero = refl
  stopped_same (suc n) = ap (λ (t : State). all_stopped t.store) (made_more runs n s) ∙ on (runs n) (stopped_same n)
    where
      on : (b : Bool) → all_stopped (made_ready runs n s).store ≡ all_stopped s.store → all_stopped (if b then ready (made_ready runs n s) n else made_ready runs n s).store ≡ all_stopped s.store
      on true before = stopped_once (made_ready runs n s) n ∙ before
      on false before = before

  -- one that does not run is as it was, and so is one that comes later
  pub kept : (n p : ℕ) → (p < n → runs p ≡ false) → process (made_ready runs n s) p ≡ process s p
  kept zero p none = refl
  kept (suc n) p none =
      ap (λ t. process t p) (made_more runs n s) ∙ on (runs n) refl (kept n p (λ below. none (omega arith)))
    where
      on : (b : Bool) → runs n ≡ b → process (made_ready runs n s) p ≡ process s p → process (if b then ready (made_ready runs n s) n else made_ready runs n s) p ≡ process s p
      on true is before =
          ready_other (made_ready runs n s) n p (λ same. let e = none (omega (arith, same)) in let f : runs p ≡ true = ap runs same ∙ is in cc) ∙ before
      on false is before = before

  -- one that runs is Running, if it is known whether it runs
  pub made_told : (n p : ℕ) → p < n → runs p ≡ true → p < length s.store.contents.processes → IsTold (process (made_ready runs n s) p).state
  made_told zero p below is there = absurd (omega arith)
  made_told (suc n) p below is there =
      subst (λ (t : State). IsTold (process t p).state) (sym (made_more runs n s)) (on (runs n) refl (cases_lt p n) (λ before. made_told n p before is there))
    where
      long : length (made_ready runs n s).store.contents.processes ≡ length s.store.contents.processes
      long =
          sym (length-map (made_ready runs n s).store.contents.processes (λ (q : ProcessValue). with_state q stopped))
          ∙ ap (λ (t : Store). length t.contents.processes) (stopped_same n)
          ∙ length-map s.store.contents.processes (λ (q : ProcessValue). with_state q stopped)

      on : (b : Bool) → runs n ≡ b → (p < n) ⊎ (n ≤ p) → (p < n → IsTold (process (made_ready runs n s) p).state) → IsTold (process (if b then ready (made_ready runs n s) n else made_ready runs n s) p).state
      on true e (inl first) before = subst (λ (q : ProcessValue). IsTold q.state) (sym (ready_other (made_ready runs n s) n p (λ same. omega arith))) (before first)
      on false e (inl first) before = before first
      on true e (inr last) before =
          let same : p ≡ n = omega arith in
          subst (λ k. IsTold (process (ready (made_ready runs n s) k) p).state) same (ready_told (made_ready runs n s) p (omega (arith, long)))
      on false e (inr last) before =
          let same : p ≡ n = omega arith in
          let other : runs n ≡ true = ap runs (sym same) ∙ is in
          absurd (cc)
