-- Touches behind touches, and parts of events behind parts.
use Rattle.std.proofs.Common.{◌≡◌, ◌≢◌, ℕ, inl, inr, ◌+◌, List, [], ◌∷◌, ◌++◌, Some, refl, sym, ap, subst, ◌∙◌, append_assoc, arith}
use Rattle.cap_format.specs.Capability.{Capability}
use Rattle.cap_format.specs.declared.kind.CapKind.{CapKind}
use Rattle.cap_format.specs.declared.item.Item.{Item}
use Rattle.object_store.specs.Store.{Items, Store}
use Rattle.object_store.specs.Object.{ObjectName, IsAmong, Stays}
use Rattle.object_store.proofs.Stays.{stays_then, stays_front, stays_within, stays_more, among_back}
use Rattle.walk_meaning.specs.declared.kind.Kind.{Kind}
use Rattle.schedules.specs.Queues.{QueuesValue, hart_of}
use Rattle.walk_engine.specs.declared.translator.Translator.{Ghosts as Translator}
use Rattle.machine_state.specs.declared.observer.Observer.{Ghosts as Observer}
use Rattle.machine_state.specs.Machine.{MachineValue}
use Rattle.machine_state.specs.Noted.{noted}
use Rattle.machine_state.specs.Outcome.{Outcome, Touch, kept_at, spent, kept_after, spared_by}
use Rattle.machine_state.specs.Outcome.Touch.{DataAccess, CapAccess, GptCall, Changed}
use Rattle.machine_state.specs.Came.{Came, CameUnasked, Leaves}
use Rattle.machine_state.proofs.Noted.{noted-append}
use Rattle.messages.specs.Followed.{followed}

-- touches, and those behind them, by what a translator says of one access and of one change
module _ {K : Type 0} (cost : K → Items → Capability → ℕ → Kind → ℕ) (after : K → Items → Capability → ℕ → Kind → K) (without : K → Item → K) where
  -- what is kept after two lists of touches is what is kept after the second, from what the first leaves
  pub kept_after_append : (k : K) (ts us : List Touch) → kept_after cost after without k (ts ++ us) ≡ kept_after cost after without (kept_after cost after without k ts) us
  kept_after_append k [] us = refl
  kept_after_append k (t ∷ ts) us = kept_after_append (kept_at cost after without k t) ts us

  -- two lists of touches fetch what the first fetches, and what the second fetches from what is kept then
  pub spent_append : (k : K) (ts us : List Touch) → spent cost after without k (ts ++ us) ≡ spent cost after without k ts + spent cost after without (kept_after cost after without k ts) us
  spent_append k [] us = omega arith
  spent_append k (t ∷ ts) us =
      let rest = spent_append (kept_at cost after without k t) ts us in
      omega (arith, rest)

-- what touches elsewhere make of a cache is what the later make of what the earlier do
pub spared_append : {K C : Type 0} (cost : K → Items → Capability → ℕ → Kind → ℕ) (after : K → Items → Capability → ℕ → Kind → K) (without : K → Item → K)
    (spared : K → Items → Capability → ℕ → Kind → C → C) (purged : K → Item → C → C) → (k : K) (ts us : List Touch) (cache : C)
    → spared_by after without spared purged k (ts ++ us) cache
    ≡ spared_by after without spared purged (kept_after cost after without k ts) us (spared_by after without spared purged k ts cache)
spared_append cost after without spared purged k [] us cache = refl
spared_append cost after without spared purged k (DataAccess o space address kind ∷ ts) us cache =
    spared_append cost after without spared purged (after k o space address kind) ts us (spared k o space address kind cache)
spared_append cost after without spared purged k (CapAccess o space address kind ∷ ts) us cache = spared_append cost after without spared purged k ts us cache
spared_append cost after without spared purged k (GptCall reads ∷ ts) us cache = spared_append cost after without spared purged k ts us cache
spared_append cost after without spared purged k (Changed item ∷ ts) us cache = spared_append cost after without spared purged (without k item) ts us (purged k item cache)

-- what came of one part, and then of another from there, came of the two together
pub came_followed : {T S : Type 0} (t : Translator T) (w : Observer S) (p : ℕ) (first second : Outcome) (m n o : MachineValue T) (told0 told1 told2 : S) (fetches0 fetches1 fetches2 : ℕ)
    → ((k : ℕ) → hart_of m.queues k ≢ Some p → t.cache o.translator k ≡ spared_by t.after t.without t.spared t.purged (t.kept n.translator) second.touches (t.cache n.translator k))
    → Came t w p first m told0 fetches0 n told1 fetches1 → Came t w p second n told1 fetches1 o told2 fetches2
    → Came t w p (followed first second) m told0 fetches0 o told2 fetches2
came_followed t w p first second m n o told0 told1 told2 fetches0 fetches1 fetches2 spares one two =
    let k = t.kept m.translator in
    record {
      state = two.state;
      records =
          two.records
          ∙ (ap (λ rs. rs ++ noted w.notes second.records) one.records
          ∙ (append_assoc (w.told told0) (noted w.notes first.records) (noted w.notes second.records)
          ∙ ap (λ rs. w.told told0 ++ rs) (sym (noted-append w.notes first.records second.records))));
      counted =
          let sum = spent_append t.cost t.after t.without k first.touches second.touches in
          let later = ap (λ j. spent t.cost t.after t.without j second.touches) one.keeps in
          let a = one.counted in
          let b = two.counted in
          omega (arith, sum, later, a, b);
      keeps = two.keeps ∙ (ap (λ j. kept_after t.cost t.after t.without j second.touches) one.keeps ∙ sym (kept_after_append t.cost t.after t.without k first.touches second.touches));
      others = λ h elsewhere.
          spares h elsewhere
          ∙ (ap (λ j. spared_by t.after t.without t.spared t.purged j second.touches (t.cache n.translator h)) one.keeps
          ∙ (ap (λ c. spared_by t.after t.without t.spared t.purged (kept_after t.cost t.after t.without k first.touches) second.touches c) (one.others h elsewhere)
          ∙ sym (spared_append t.cost t.after t.without t.spared t.purged k first.touches second.touches (t.cache m.translator h))));
    }

-- a part that asks the translator nothing fetches nothing
pub came_of_unasked : {T S : Type 0} (t : Translator T) (w : Observer S) (p : ℕ) (o : Outcome) (m n : MachineValue T) (told0 told : S) (fetches : ℕ)
    → o.touches ≡ [] → CameUnasked w o m told0 n told → Came t w p o m told0 fetches n told fetches
came_of_unasked t w p o m n told0 told fetches none came =
    let k = t.kept m.translator in
    record {
      state = came.state;
      records = came.records;
      counted = let nothing = ap (spent t.cost t.after t.without k) none in omega (arith, nothing);
      keeps = ap t.kept came.translator ∙ ap (kept_after t.cost t.after t.without k) (sym none);
      others = λ h elsewhere. ap (λ x. t.cache x h) came.translator ∙ ap (λ ts. spared_by t.after t.without t.spared t.purged k ts (t.cache m.translator h)) (sym none);
    }

-- where the first part leaves the queues
pub came_followed_there : {T S : Type 0} (t : Translator T) (w : Observer S) (p : ℕ) (first second : Outcome) (m n o : MachineValue T) (told0 told1 told2 : S) (fetches0 fetches1 fetches2 : ℕ)
    → n.queues ≡ m.queues → Came t w p first m told0 fetches0 n told1 fetches1 → Came t w p second n told1 fetches1 o told2 fetches2
    → Came t w p (followed first second) m told0 fetches0 o told2 fetches2
came_followed_there t w p first second m n o told0 told1 told2 fetches0 fetches1 fetches2 queues one two =
    came_followed t w p first second m n o told0 told1 told2 fetches0 fetches1 fetches2
    (λ k elsewhere. two.others k (subst (λ (q : QueuesValue). hart_of q k ≢ Some p) (sym queues) elsewhere)) one two

-- ---- which objects change

-- one object changed, and then it or others
pub stays_first : (name : ObjectName) (names : List ObjectName) (s t u : Store) → Stays (name ∷ []) s t → Stays (name ∷ names) t u → Stays (name ∷ names) s u
stays_first name names s t u one two = stays_then (name ∷ names) s t u (stays_front (name ∷ []) names s t one) two

-- a process with others, and then it with more
stays_followed : (name : ObjectName) (names others : List ObjectName) (s t u : Store) → Stays (name ∷ names) s t → Stays (name ∷ others) t u → Stays (name ∷ names ++ others) s u
stays_followed name names others s t u one two =
    let later : (kind : CapKind) (n : ℕ) → IsAmong kind n (name ∷ others) → IsAmong kind n (name ∷ names ++ others) = within in
    stays_then (name ∷ names ++ others) s t u (stays_front (name ∷ names) others s t one) (stays_within (name ∷ others) (name ∷ names ++ others) t u later two)
  where
    within : (kind : CapKind) (n : ℕ) → IsAmong kind n (name ∷ others) → IsAmong kind n (name ∷ names ++ others)
    within kind n (inl here) = inl here
    within kind n (inr here) = inr (among_back kind n names others here)

-- what two parts leave alone, the one behind the other
pub leaves_followed : {T : Type 0} (name : ObjectName) (names others : List ObjectName) (m n o : MachineValue T) → Leaves (name ∷ names) m n → Leaves (name ∷ others) n o → Leaves (name ∷ names ++ others) m o
leaves_followed name names others m n o one two = record {
  pages = two.pages ∙ one.pages;
  cappages = two.cappages ∙ one.cappages;
  gpts = two.gpts ∙ one.gpts;
  processes = two.processes ∙ one.processes;
  endpoints = two.endpoints ∙ one.endpoints;
  harts = two.harts ∙ one.harts;
  stays = stays_followed name names others m.objects n.objects o.objects one.stays two.stays;
}

-- one name more
pub leaves_more : {T : Type 0} (name : ObjectName) (names : List ObjectName) (m n : MachineValue T) → Leaves names m n → Leaves (name ∷ names) m n
leaves_more name names m n leaves = record {
  pages = leaves.pages;
  cappages = leaves.cappages;
  gpts = leaves.gpts;
  processes = leaves.processes;
  endpoints = leaves.endpoints;
  harts = leaves.harts;
  stays = stays_more name names m.objects n.objects leaves.stays;
}
