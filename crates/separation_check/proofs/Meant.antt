-- What is told of the objects as they are stored is, but for counts, what is told of what they mean.
use Rattle.std.proofs.Common.{◌≡◌, ℕ, ◌++◌, Bool, true, false, if◌then◌else◌, List, [], ◌∷◌, map, length, Some, None, option_map, refl, sym, ◌∙◌, ap, ap₂}
use Rattle.std.proofs.lemmas.List.{map-append}
use Rattle.cap_format.specs.declared.kind.CapKind.{CapKind}
use Rattle.cap_format.specs.declared.kind.CapKind.TheVariants.{CapPage, Gpt, Endpoint, Process}
use Rattle.cap_format.specs.Capability.{Capability, null, bare}
use Rattle.object_store.specs.Store.{Items, Store, size_of}
use Rattle.object_store.specs.Meaning.{is_live, live, meaning, state_map}
use Rattle.schedules.specs.Queues.{QueuesValue, sleepers_of, stands_in}
use Rattle.object_store.specs.Places.{places_in, cap_in}
use Rattle.confine_check.specs.Breach.{is_range}
use Rattle.confine_check.proofs.Found.{cap_in-state_map}
use Rattle.separation_policy.specs.Policy.{PolicyValue, domain_of}
use Rattle.separation_check.specs.declared.crossing.Crossing.{Crossing}
use Rattle.separation_check.specs.Crossings.{listed, stored_cap, halts_by, logs_by, crosses_by, crossing_by, object_crossings, kind_crossings, capability_crossings, sleeper_by, sleeper_on, process_crossings, sleeper_limit, sleeper_crossings, crossings_of, meant_crossing}
use Rattle.separation_check.proofs.Gathered.{below-map, listed-map}
use Rattle.separation_check.proofs.Allowed.{tested}

module _ (policy : PolicyValue) where
  -- of one capability
  crossing-meant : (o : Items) (kind : CapKind) (n i : ℕ) (c : Capability) → crossing_by policy kind n i (meaning o c) ≡ option_map meant_crossing (crossing_by policy kind n i (live o c))
  crossing-meant o kind n i c = by (is_live o c)
    where
      held : (range halts logs crosses : Bool) → tested policy kind n i (bare c) range halts logs crosses ≡ option_map meant_crossing (tested policy kind n i c range halts logs crosses)
      held true halts logs crosses = refl
      held false true logs crosses = refl
      held false false true crosses = refl
      held false false false true = refl
      held false false false false = refl

      by : (b : Bool) → crossing_by policy kind n i (if b then bare c else null) ≡ option_map meant_crossing (crossing_by policy kind n i (if b then c else null))
      by true = held (is_range c.kind) (halts_by policy (domain_of policy kind n) c) (logs_by policy (domain_of policy kind n) c) (crosses_by policy (domain_of policy kind n) c)
      by false = refl

  module _ (s : Store) where
    object-meant : (kind : CapKind) (n : ℕ) → object_crossings policy (cap_in (state_map s)) kind n ≡ map meant_crossing (object_crossings policy (stored_cap s) kind n)
    object-meant kind n =
        below-map meant_crossing (λ i. listed (crossing_by policy kind n i (stored_cap s kind n i))) (λ i. listed (crossing_by policy kind n i (cap_in (state_map s) kind n i)))
        (λ i. ap (λ (c : Capability). listed (crossing_by policy kind n i c)) (cap_in-state_map s kind n i)
        ∙ (ap listed (crossing-meant s.items kind n i (cap_in s kind n i)) ∙ listed-map meant_crossing (crossing_by policy kind n i (stored_cap s kind n i))))
        (places_in kind)

    kind-meant : (kind : CapKind) → kind_crossings policy (cap_in (state_map s)) kind (size_of s.items kind) ≡ map meant_crossing (kind_crossings policy (stored_cap s) kind (size_of s.items kind))
    kind-meant kind = below-map meant_crossing (object_crossings policy (stored_cap s) kind) (object_crossings policy (cap_in (state_map s)) kind) (object-meant kind) (size_of s.items kind)

    abbrev Stored : CapKind → List Crossing
    Stored kind = kind_crossings policy (stored_cap s) kind (size_of s.items kind)

    joined : (xs ys : List Crossing) (first second : List Crossing) → first ≡ map meant_crossing xs → second ≡ map meant_crossing ys → first ++ second ≡ map meant_crossing (xs ++ ys)
    joined xs ys first second a b = ap₂ (λ (x y : List Crossing). x ++ y) a b ∙ sym (map-append meant_crossing xs ys)

    capabilities-meant : capability_crossings policy (cap_in (state_map s)) (state_map s) ≡ map meant_crossing (capability_crossings policy (stored_cap s) s)
    capabilities-meant =
        joined (Stored CapPage) _ _ _ (kind-meant CapPage)
        (joined (Stored Gpt) _ _ _ (kind-meant Gpt)
        (joined (Stored Endpoint) (Stored Process) _ _ (kind-meant Endpoint) (kind-meant Process)))

    sleepers-meant : (q : QueuesValue) → sleeper_crossings policy q ≡ map meant_crossing (sleeper_crossings policy q)
    sleepers-meant q =
        below-map meant_crossing (process_crossings policy q) (process_crossings policy q)
        (λ p. below-map meant_crossing (λ on. listed (sleeper_on policy q p on)) (λ on. listed (sleeper_on policy q p on)) (λ on. one p on (stands_in (sleepers_of q on) p)) (length q.sleepers))
        (sleeper_limit q)
      where
        apart : (p on : ℕ) (same : Bool) (c : Crossing) → c ≡ meant_crossing c → listed (if same then None else Some c) ≡ map meant_crossing (listed (if same then None else Some c))
        apart p on true c e = refl
        apart p on false c e = ap (λ (x : Crossing). listed (Some x)) e

        one : (p on : ℕ) (there : Bool) → listed (if there then sleeper_by policy p on else None) ≡ map meant_crossing (listed (if there then sleeper_by policy p on else None))
        one p on true = apart p on _ _ refl
        one p on false = refl

    -- of all
    pub all-meant : (q : QueuesValue) → capability_crossings policy (cap_in (state_map s)) (state_map s) ++ sleeper_crossings policy q ≡ map meant_crossing (crossings_of policy s q)
    all-meant q = joined (capability_crossings policy (stored_cap s) s) (sleeper_crossings policy q) _ _ capabilities-meant (sleepers-meant q)

-- nothing is told by meaning exactly where nothing is told
pub none-meant : (xs : List Crossing) → map meant_crossing xs ≡ [] → xs ≡ []
none-meant [] e = refl
none-meant (x ∷ xs) e = absurd (cc (e))
