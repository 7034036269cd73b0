-- What touches fetch.
use Rattle.std.proofs.Common.{◌≡◌, ℕ, ◌+◌, ◌≤◌, List, [], ◌∷◌, arith}
use Rattle.std.proofs.lemmas.List.Sums.{sum_by-cons}
use Rattle.cap_format.specs.Capability.{Capability}
use Rattle.cap_format.specs.declared.item.Item.{Item}
use Rattle.object_store.specs.Store.{Items}
use Rattle.walk_meaning.specs.declared.kind.Kind.{Kind}
use Rattle.machine_state.specs.Outcome.{Touch, spent}
use Rattle.machine_state.specs.Outcome.Touch.{DataAccess, CapAccess, GptCall, Changed}
use Rattle.event_reach.specs.FreshWalks.{WalksAtMost, walked_at, walked}

-- touches fetch at most what they read where each access is a fresh walk
pub spent_walked : {K : Type 0} (cost : K → Items → Capability → ℕ → Kind → ℕ) (after : K → Items → Capability → ℕ → Kind → K) (without : K → Item → K) (k : K) (touches : List Touch) → WalksAtMost cost → spent cost after without k touches ≤ walked touches
spent_walked cost after without k [] walks = omega arith
spent_walked cost after without k (DataAccess o space address kind ∷ ts) walks =
    let first = sum_by-cons walked_at (DataAccess o space address kind) ts in
    let here = walks.most k o space address kind in
    let rest = spent_walked cost after without (after k o space address kind) ts walks in
    omega (arith, first, here, rest)
spent_walked cost after without k (CapAccess o space address kind ∷ ts) walks =
    let first = sum_by-cons walked_at (CapAccess o space address kind) ts in
    let rest = spent_walked cost after without k ts walks in
    omega (arith, first, rest)
spent_walked cost after without k (GptCall reads ∷ ts) walks =
    let first = sum_by-cons walked_at (GptCall reads) ts in
    let rest = spent_walked cost after without k ts walks in
    omega (arith, first, rest)
spent_walked cost after without k (Changed item ∷ ts) walks =
    let first = sum_by-cons walked_at (Changed item) ts in
    let rest = spent_walked cost after without (without k item) ts walks in
    omega (arith, first, rest)

-- so what was fetched grows by no more
pub fetched_walked : {K : Type 0} (cost : K → Items → Capability → ℕ → Kind → ℕ) (after : K → Items → Capability → ℕ → Kind → K) (without : K → Item → K) (k : K) (touches : List Touch) (old new : ℕ) → WalksAtMost cost → new ≡ old + spent cost after without k touches
    → new ≤ old + walked touches
fetched_walked cost after without k touches old new walks fetched = let most = spent_walked cost after without k touches walks in omega (arith, fetched, most)
