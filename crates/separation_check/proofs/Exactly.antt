-- Nothing crosses exactly where the policy holds.
use Rattle.std.proofs.Common.{◌≡◌, ◌↔◌, ℕ, ◌++◌, Bool, true, false, if◌then◌else◌, List, [], length, Some, None, refl, sym, ◌∙◌, ap, subst, eqb-true}
use Rattle.std.proofs.lemmas.Bool.{eq-eqb}
use Rattle.cap_format.specs.declared.kind.CapKind.{CapKind}
use Rattle.cap_format.specs.declared.kind.CapKind.TheVariants.{CapPage, Gpt, Endpoint, Process}
use Rattle.cap_format.specs.Capability.{Capability, null}
use Rattle.object_store.specs.Store.{Store, size_of}
use Rattle.object_store.specs.Meaning.{state_map}
use Rattle.schedules.specs.Queues.{QueuesValue, sleepers_of, stands_in}
use Rattle.operations.specs.System.{system}
use Rattle.object_store.specs.Places.{places_in, cap_in}
use Rattle.confine_check.specs.Full.{AreFull}
use Rattle.confine_check.proofs.Holding.{PlacesHave, AllHave, each-has, has-all}
use Rattle.confine_check.proofs.Found.{cap_in-state_map}
use Rattle.separation_policy.specs.Policy.{PolicyValue, domain_of, MayStand, EachMayStand, SleepAtHome, PolicyHolds}
use Rattle.separation_check.specs.declared.crossing.Crossing.{Crossing}
use Rattle.separation_check.specs.declared.crossing.Crossing.TheVariants.{Sleeper}
use Rattle.separation_check.specs.Crossings.{listed, crossing_by, object_crossings, kind_crossings, capability_crossings, sleeper_by, sleeper_on, process_crossings, sleeper_limit, sleeper_crossings}
use Rattle.separation_check.proofs.Gathered.{both-empty, empty-both, none-each, each-none, listed-none, none-listed}
use Rattle.separation_check.proofs.Most.{sleeps-there, below-limit}
use Rattle.separation_check.proofs.Allowed.{none-may, may-none}

if_none : {A : Type 0} (b : Bool) (x : A) → (if b then None else Some x) ≡ None → b ≡ true
if_none true x e = refl
if_none false x e = absurd (cc (e))

-- ---- capabilities

module _ (policy : PolicyValue) (s : Store) where
  -- a capability may stand in an object
  abbrev Stands : CapKind → ℕ → Capability → Type 0
  Stands kind n c = MayStand policy (domain_of policy kind n) c

  -- Null may
  nothing : (kind : CapKind) (n : ℕ) → Stands kind n null
  nothing kind n = record {
    no_range = λ is. cc (is);
    halting = λ is. absurd (cc (is));
    logging = λ is. absurd (cc (is));
    named = λ counted. absurd (cc (counted));
  }

  -- what each place of the objects of a kind holds may stand there
  abbrev PlacesStand : CapKind → Type 0
  PlacesStand kind = PlacesHave Stands s kind

  abbrev AllStand : Type 0
  AllStand = AllHave Stands s

  -- what is told of the model's map, of a kind
  abbrev KindTold : CapKind → List Crossing
  KindTold kind = kind_crossings policy (cap_in (state_map s)) kind (size_of s.items kind)

  none-kind : (kind : CapKind) → KindTold kind ≡ [] → PlacesStand kind
  none-kind kind e n i there place =
      let object = none-each (object_crossings policy (cap_in (state_map s)) kind) (size_of s.items kind) e n there in
      let at = none-each (λ i. listed (crossing_by policy kind n i (cap_in (state_map s) kind n i))) (places_in kind) object i place in
      subst (λ (c : Capability). MayStand policy (domain_of policy kind n) c) (cap_in-state_map s kind n i)
      (none-may policy kind n i (cap_in (state_map s) kind n i) (listed-none (crossing_by policy kind n i (cap_in (state_map s) kind n i)) at))

  kind-none : (kind : CapKind) → PlacesStand kind → KindTold kind ≡ []
  kind-none kind all =
      each-none (object_crossings policy (cap_in (state_map s)) kind) (size_of s.items kind) (λ n there.
      each-none (λ i. listed (crossing_by policy kind n i (cap_in (state_map s) kind n i))) (places_in kind) (λ i place.
      none-listed (crossing_by policy kind n i (cap_in (state_map s) kind n i)) (may-none policy kind n i (cap_in (state_map s) kind n i)
      (subst (λ (c : Capability). MayStand policy (domain_of policy kind n) c) (sym (cap_in-state_map s kind n i)) (all n i there place)))))

  none-all : KindTold CapPage ++ (KindTold Gpt ++ (KindTold Endpoint ++ KindTold Process)) ≡ [] → AllStand
  none-all e =
      let first = both-empty (KindTold CapPage) _ e in
      let second = both-empty (KindTold Gpt) _ first.1 in
      let third = both-empty (KindTold Endpoint) (KindTold Process) second.1 in
      record { cappages = none-kind CapPage first.0; gpts = none-kind Gpt second.0; endpoints = none-kind Endpoint third.0; processes = none-kind Process third.1 }

  all-none : AllStand → KindTold CapPage ++ (KindTold Gpt ++ (KindTold Endpoint ++ KindTold Process)) ≡ []
  all-none all =
      empty-both (KindTold CapPage) _ (kind-none CapPage all.cappages)
      (empty-both (KindTold Gpt) _ (kind-none Gpt all.gpts)
      (empty-both (KindTold Endpoint) (KindTold Process) (kind-none Endpoint all.endpoints) (kind-none Process all.processes)))

  -- so each capability of the map may stand where it does, and the other way round
  each-stands : AreFull s → AllStand → EachMayStand policy (state_map s)
  each-stands full all =
      let each = each-has Stands nothing s full all in
      record { slots = each.slots; cappages = each.cappages; capregs = each.capregs; process_slots = each.process_slots; recipients = each.recipients }

  stands-all : EachMayStand policy (state_map s) → AllStand
  stands-all each =
      has-all Stands nothing s
      (record { slots = each.slots; cappages = each.cappages; capregs = each.capregs; process_slots = each.process_slots; recipients = each.recipients })

-- ---- sleepers

module _ (policy : PolicyValue) (q : QueuesValue) where
  pub none-home : sleeper_crossings policy q ≡ [] → SleepAtHome policy q
  none-home e on p there =
      let process = none-each (process_crossings policy q) (sleeper_limit q) e p (below-limit q on p there) in
      let at = none-each (λ on. listed (sleeper_on policy q p on)) (length q.sleepers) process on (sleeps-there q on p there) in
      let none = listed-none (sleeper_on policy q p on) at in
      let here : sleeper_by policy p on ≡ None = sym (ap (λ (b : Bool). if b then sleeper_by policy p on else None) there) ∙ none in
      eqb-true _ _ (if_none _ _ here)

  pub home-none : SleepAtHome policy q → sleeper_crossings policy q ≡ []
  home-none home =
      each-none (process_crossings policy q) (sleeper_limit q) (λ p below.
      each-none (λ on. listed (sleeper_on policy q p on)) (length q.sleepers) (λ on there.
      none-listed (sleeper_on policy q p on) (by p on (stands_in (sleepers_of q on) p) refl)))
    where
      by : (p on : ℕ) (b : Bool) → stands_in (sleepers_of q on) p ≡ b → (if b then sleeper_by policy p on else None) ≡ None
      by p on false is = refl
      by p on true is = ap (λ (b : Bool). if b then None else Some (Sleeper p (domain_of policy Process p) (domain_of policy Process on))) (eq-eqb _ _ (home on p is))

-- ---- both

-- nothing is told of a state exactly where the policy holds
pub crossings-exactly : (policy : PolicyValue) (s : Store) (q : QueuesValue) → AreFull s
    → (capability_crossings policy (cap_in (state_map s)) (state_map s) ++ sleeper_crossings policy q ≡ []) ↔ PolicyHolds policy (system (state_map s) q)
crossings-exactly policy s q full = (
  λ e.
      let both = both-empty (capability_crossings policy (cap_in (state_map s)) (state_map s)) (sleeper_crossings policy q) e in
      record { each = each-stands policy s full (none-all policy s both.0); sleepers = none-home policy q both.1 },
  λ holds.
      empty-both (capability_crossings policy (cap_in (state_map s)) (state_map s)) (sleeper_crossings policy q)
      (all-none policy s (stands-all policy s holds.each)) (home-none policy q holds.sleepers),
)
