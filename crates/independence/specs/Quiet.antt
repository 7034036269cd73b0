-- Quiet events: instructions by which a process reads and writes nothing but what it has to itself. (The local transitions of
-- partial-order reduction; that they are found by capabilities is this project's own.)
use Rattle.std.specs.Prelude.{◌≡◌, ℕ, ◌%◌, ◌⊎◌, Bool, true, false, Some, Ok}
use Rattle.std.specs.List.{AllByRecursion as Each}
use Rattle.cap_format.specs.declared.item.Item.{Item}
use Rattle.cap_format.specs.declared.item.Item.TheVariants.{Header, Slot}
use Rattle.cap_format.specs.declared.kind.CapKind.TheVariants.{Page, Gpt, Process}
use Rattle.walk_meaning.specs.declared.kind.Kind.{Kind}
use Rattle.walk_meaning.specs.declared.kind.Kind.TheVariants.{Fetch, Load as LoadKind, Store as StoreKind}
use Rattle.walk_meaning.specs.declared.noted.Noted.{Noted}
use Rattle.walk_meaning.specs.Trail.{trail}
use Rattle.walk_engine.specs.declared.hit.Hit.{Hit}
use Rattle.rv32_decode.specs.declared.insn.Insn.{Insn}
use Rattle.rv32_decode.specs.Table.{insn_at}
use Rattle.rv32_user.specs.declared.effect.Effect.{Effect}
use Rattle.rv32_user.specs.declared.effect.Effect.TheVariants.{Next, Load, Store}
use Rattle.rv32_user.specs.Step.{effect_of}
use Rattle.schedules.specs.Queues.{hart_of}
use Rattle.machine_state.specs.State.{State, process, pc_of, space_of}
use Rattle.machine_state.specs.DataAccess.{data_access, number_at}
use Rattle.confinement.specs.declared.cut_side.CutSide.TheVariants.{Left}
use Rattle.confinement.specs.Cut.{Cut, side_of}
use Rattle.independence.specs.Seclusion.{Secluded}
use Rattle.independence.specs.Settled.{AreSettled}

-- a page of the left, or one that is settled
abbrev pub MayRead : Cut → (ℕ → Bool) → ℕ → Type 0
MayRead cut settled n = (side_of cut Page n ≡ Left) ⊎ (settled n ≡ true)

-- the pages that an access of this kind may reach: to a settled one nothing is stored
abbrev pub MayReach : Cut → (ℕ → Bool) → Kind → ℕ → Type 0
MayReach cut settled Fetch n = MayRead cut settled n
MayReach cut settled LoadKind n = MayRead cut settled n
MayReach cut settled _ n = side_of cut Page n ≡ Left

-- what a walk may read on its way: GPTs of the left, and last that such a page is there
abbrev pub MayPass : Cut → (ℕ → Bool) → Item → Type 0
MayPass cut settled (Header Page n) = MayRead cut settled n
MayPass cut settled (Header kind n) = side_of cut kind n ≡ Left
MayPass cut settled (Slot g i) = side_of cut Gpt g ≡ Left

-- An access of data reaches a page of the left, or a settled one that it reads, by a walk that goes by nothing but GPTs of the left.
pub record StaysLeft (cut : Cut) (settled : ℕ → Bool) (s : State) (p address : ℕ) (kind : Kind) (hit : Hit) : Type 0 where
  pub reaches : data_access s p address kind ≡ Ok hit
  pub page : MayReach cut settled kind hit.page
  pub way : Each (λ (n : Noted). MayPass cut settled n.item) (trail s.store.items (space_of s p) address kind)

-- an aligned access of so many bytes that does
pub record AccessesLeft (cut : Cut) (settled : ℕ → Bool) (s : State) (p address size : ℕ) (kind : Kind) : Type 0 where
  pub aligned : address % size ≡ 0
  pub hit : Hit
  pub stays : StaysLeft cut settled s p address kind hit

-- what is left to be done of an instruction stays on the left: it goes on, loads or stores. A system call, a breakpoint and a
-- target that is misaligned don't
abbrev pub IsQuietEffect : Cut → (ℕ → Bool) → State → ℕ → Effect → Type 0
IsQuietEffect cut settled s p (Next pc) = Unit {0}
IsQuietEffect cut settled s p (Load at size signed rd) = AccessesLeft cut settled s p at size LoadKind
IsQuietEffect cut settled s p (Store at size value) = AccessesLeft cut settled s p at size StoreKind
IsQuietEffect cut settled s p _ = ⊥

-- the instruction at a process's pc is fetched from a page of the left or a settled one, it is one, and it stays on the left
pub record IsQuietInstruction (cut : Cut) (settled : ℕ → Bool) (s : State) (p : ℕ) : Type 0 where
  pub hit : Hit
  pub fetch : StaysLeft cut settled s p (pc_of s p) Fetch hit
  pub insn : Insn
  pub decoded : insn_at (number_at s hit 4) ≡ Some insn
  pub effect : IsQuietEffect cut settled s p (effect_of (process s p).regs (pc_of s p) insn)

-- The step of a hart is quiet by a cut and by pages that are settled: the process on the hart is the one on the left, alone, and its
-- instruction stays there, or reads what is settled.
pub record IsQuietBy (cut : Cut) (settled : ℕ → Bool) (p : ℕ) (s : State) (hart : ℕ) : Type 0 where
  pub runs : s.halted ≡ false
  pub on : hart_of s.queues hart ≡ Some p
  pub secluded : Secluded cut s
  pub own : side_of cut Process p ≡ Left
  pub alone : (q : ℕ) → side_of cut Process q ≡ Left → q ≡ p
  pub still : AreSettled settled s.store
  pub instruction : IsQuietInstruction cut settled s p
