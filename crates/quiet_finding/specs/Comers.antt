-- The tables of who comes to which object: what they say of the objects of a model's map. (Own.)
use Rattle.std.specs.Prelude.{◌≡◌, ℕ, Bool, false, List, slice_index_or}
use Rattle.cap_format.specs.declared.kind.CapKind.TheVariants.{Page, Gpt, Process}
use Rattle.object_store.specs.Store.{Store}
use Rattle.quiet_runs.specs.declared.reached_by.ReachedBy.{ReachedBy}
use Rattle.quiet_runs.specs.declared.reached_by.ReachedBy.TheVariants.{Nobody}
use Rattle.quiet_runs.specs.Reaching.{names, reached_by}
use Rattle.quiet_runs.specs.Finding.{is_far_reaching, some_held}

-- who comes to each GPT and to each page, which processes are named by a capability, and whether one is held by which
-- one comes to more than it names
pub record ComersValue : Type 0 where
  pub gpts : List ReachedBy
  pub pages : List ReachedBy
  pub named : List Bool
  pub far : Bool

-- tables by their parts
abbrev pub comers : List ReachedBy → List ReachedBy → List Bool → Bool → ComersValue
comers gpts pages named far = record { gpts = gpts; pages = pages; named = named; far = far }

-- who comes to a GPT, nobody where there is none
abbrev pub to_gpt : ComersValue → ℕ → ReachedBy
to_gpt r n = slice_index_or r.gpts n Nobody

-- who comes to a page, nobody where there is none
abbrev pub to_page : ComersValue → ℕ → ReachedBy
to_page r n = slice_index_or r.pages n Nobody

-- whether a capability names the process
abbrev pub names_process : ComersValue → ℕ → Bool
names_process r p = slice_index_or r.named p false

-- The tables say of each object of these who comes to it, and what is held. They say it of any objects of which the same holds.
pub record AreComers (s : Store) (r : ComersValue) : Type 0 where
  pub gpts : (n : ℕ) → to_gpt r n ≡ reached_by s Gpt n
  pub pages : (n : ℕ) → to_page r n ≡ reached_by s Page n
  pub named : (p : ℕ) → names_process r p ≡ some_held (λ c. names c Process p) s
  pub far : r.far ≡ some_held (λ c. is_far_reaching c.kind) s
