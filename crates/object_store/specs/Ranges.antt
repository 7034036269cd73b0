-- What all objects keep: the ranges of counts, headers and slots, and the sizes.
use Rattle.std.specs.Prelude.{◌≡◌, ℕ, ◌<◌, ◌≤◌, ◌^◌, List, length}
use Rattle.std.specs.List.{All}
use Rattle.gpt_objects.specs.Gpt.{IsGpt}
use Rattle.object_store.specs.declared.sizes.Sizes.{Sizes}
use Rattle.object_store.specs.Store.{CountsValue, Items, Contents, Store}

-- counts of at most `limit` objects, each below 2^20 (this project's)
pub record IsTable (limit : ℕ) (counts : List ℕ) : Type 0 where
  pub size : length counts ≤ limit
  pub below : All (λ count. count < 2 ^ 20) counts

-- the counts of each kind, within the limits of this project
pub record AreCounts (counts : CountsValue) : Type 0 where
  pub pages : IsTable 4096 counts.pages
  pub cappages : IsTable 256 counts.cappages
  pub gpts : IsTable 1024 counts.gpts
  pub processes : IsTable 256 counts.processes
  pub endpoints : IsTable 1024 counts.endpoints

-- all counts, headers and slots are in their ranges, and each GPT has a count
pub record IsRanged (o : Items) : Type 0 where
  pub counts : AreCounts o.counts
  pub gpts : All IsGpt o.gpts
  pub each : length o.gpts ≡ length o.counts.gpts

-- 1 to 8 harts, and as many objects as counts
pub record IsSized (harts : ℕ) (counts : CountsValue) (contents : Contents) : Type 0 where
  pub some_hart : 1 ≤ harts
  pub most_harts : harts ≤ 8
  pub pages : length contents.pages ≡ length counts.pages
  pub cappages : length contents.cappages ≡ length counts.cappages
  pub processes : length contents.processes ≡ length counts.processes
  pub endpoints : length contents.endpoints ≡ length counts.endpoints

-- what all objects keep; the ranges of contents are kept by the types of these
pub record IsStore (s : Store) : Type 0 where
  pub ranged : IsRanged s.items
  pub sized : IsSized s.harts s.items.counts s.contents

-- sizes within the limits of this project: 1 to 8 harts, and the most objects of each kind
pub record IsWithinLimits (sizes : Sizes) : Type 0 where
  pub some_hart : 1 ≤ sizes.harts
  pub harts : sizes.harts ≤ 8
  pub pages : sizes.pages ≤ 4096
  pub cappages : sizes.cappages ≤ 256
  pub gpts : sizes.gpts ≤ 1024
  pub processes : sizes.processes ≤ 256
  pub endpoints : sizes.endpoints ≤ 1024
