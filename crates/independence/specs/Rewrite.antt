-- Other contents of what is on the left of a cut. (Own.)
use Rattle.std.specs.Prelude.{◌≡◌, ℕ, List, [], ◌∷◌}
use Rattle.cap_format.specs.declared.kind.CapKind.TheVariants.{Page, Process}
use Rattle.process_objects.specs.declared.state.State.TheVariants.{Running}
use Rattle.process_objects.specs.Process.{ProcessValue}
use Rattle.machine_state.specs.State.{State, process}
use Rattle.machine_state.specs.Setters.{set_process, set_page}
use Rattle.confinement.specs.declared.cut_side.CutSide.TheVariants.{Left}
use Rattle.confinement.specs.Cut.{Cut, side_of}
use Rattle.confinement.specs.Acts.{Spares}

-- another process in the place of one, or other bytes of a page
pub data Rewrite : Type 0 where
  ProcessIs : ℕ → ProcessValue → Rewrite
  PageIs : ℕ → List ℕ → Rewrite

-- the process or the page is on the left, and the process still runs, whatever it has become
abbrev pub IsPrivate : Cut → Rewrite → Type 0
IsPrivate cut (ProcessIs p value) = (side_of cut Process p ≡ Left) × (value.state ≡ Running)
IsPrivate cut (PageIs n page) = side_of cut Page n ≡ Left

-- the state with one of these rewritten, and all else the same
abbrev pub rewritten : State → Rewrite → State
rewritten s (ProcessIs p value) = set_process s p value
rewritten s (PageIs n page) = set_page s n page

-- the state with several rewritten, one after the other
abbrev pub rewritten_all : State → List Rewrite → State
rewritten_all s [] = s
rewritten_all s (rewrite ∷ rewrites) = rewritten_all (rewritten s rewrite) rewrites

-- all of them are on the left
abbrev pub ArePrivate : Cut → List Rewrite → Type 0
ArePrivate cut [] = Unit {0}
ArePrivate cut (rewrite ∷ rewrites) = IsPrivate cut rewrite × ArePrivate cut rewrites

-- two processes are the same but for their registers and pc
pub record SameButRegisters (q r : ProcessValue) : Type 0 where
  pub capregs : q.capregs ≡ r.capregs
  pub slots : q.slots ≡ r.slots
  pub state : q.state ≡ r.state

-- Two states are the same but for registers and pcs of processes and bytes of pages: all capabilities are the same, what walks
-- read, endpoints, states of processes, and who stands where.
pub record SameButData (s t : State) : Type 0 where
  pub items : s.store.items ≡ t.store.items
  pub cappages : s.store.contents.cappages ≡ t.store.contents.cappages
  pub endpoints : s.store.contents.endpoints ≡ t.store.contents.endpoints
  pub processes : (p : ℕ) → SameButRegisters (process s p) (process t p)
  pub queues : s.queues ≡ t.queues
  pub halted : s.halted ≡ t.halted

-- And what differs is on the left of a cut.
pub record DifferOnLeft (cut : Cut) (s t : State) : Type 0 where
  pub same : SameButData s t
  pub right : Spares cut Left s.store t.store
