-- What is found out of capabilities before steps are looked at: who comes to which object, and which pages are written. (Own.)
use Rattle.std.specs.Prelude.{ℕ, Bool, false, not, ◌&&◌}
use Rattle.cap_format.specs.declared.item.Item.{Item}
use Rattle.cap_format.specs.declared.item.Item.TheVariants.{Header, Slot}
use Rattle.cap_format.specs.declared.kind.CapKind.TheVariants.{Page, Gpt}
use Rattle.object_store.specs.Store.{Store}
use Rattle.quiet_runs.specs.Reaching.{is_alone}
use Rattle.quiet_finding.specs.Comers.{AreComers, ComersValue, to_gpt}
use Rattle.quiet_finding.specs.Writing.{AreWriting, WritingValue, writes_page}

-- the tables of who comes to which object, and of which pages a capability may write
pub record ReachingValue : Type 0 where
  pub comers : ComersValue
  pub writing : WritingValue

-- both by their parts
abbrev pub reaching : ComersValue → WritingValue → ReachingValue
reaching comers writing = record { comers = comers; writing = writing }

-- The tables say so of these objects. They say it of any objects of which the same holds.
pub record IsReaching (s : Store) (r : ReachingValue) : Type 0 where
  pub comers : AreComers s r.comers
  pub writing : AreWriting s r.writing

-- ---- what is read off them

-- the page is settled: there is no Range, and nobody may write the page
abbrev pub finds_settled : ReachingValue → ℕ → Bool
finds_settled r n = not r.writing.range && not (writes_page r.writing n)

-- the GPT is the process's own
abbrev pub finds_own : ReachingValue → ℕ → ℕ → Bool
finds_own r p g = is_alone p (to_gpt r.comers g)

-- a walk of the process may read this on its way to a settled page
abbrev pub finds_passable : ReachingValue → ℕ → Item → Bool
finds_passable r p (Header Page n) = finds_settled r n
finds_passable r p (Header Gpt g) = finds_own r p g
finds_passable r p (Header kind n) = false
finds_passable r p (Slot g i) = finds_own r p g
