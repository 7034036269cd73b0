-- What instructions make of words are words.
use Rattle.std.proofs.Common.{◌≡◌, ℕ, zero, suc, ◌+◌, ◌*◌, ◌/◌, ◌%◌, ◌<◌, ◌≤◌, ◌^◌, ◌==◌, Bool, true, false, List, [], ◌∷◌, All, slice_index, take, arith, div-le_self}
use Rattle.std.specs.Prelude.{ℤ, pos, negsuc, ◌+ℤ◌, bit_and, Some, IfSome}
use Rattle.std.proofs.lemmas.Bool.{cond_both}
use Rattle.std.proofs.lemmas.Nat.{or_lt, xor_lt, and_le_l}
use Rattle.std.proofs.Math.Nat.{pow-le-pow_right}
use Rattle.std.proofs.lemmas.List.Elements.{All-set, All-cons, All-head, All-tail, All-nil}
use Rattle.std.proofs.lemmas.Grind.{pow_more}
use Rattle.object_store.proofs.Lists.{All-at}
use Rattle.rv32_decode.specs.declared.insn.Insn.{Insn}
use Rattle.rv32_decode.specs.declared.insn.Insn.TheVariants.{Add, Sub, Sll, Slt, Sltu, Xor, Srl, Sra, Or, And, Addi, Slti, Sltiu, Xori, Ori, Andi, Slli, Srli, Srai, Lb, Lh, Lw, Lbu, Lhu, Jalr, Sb, Sh, Sw, Beq, Bne, Blt, Bge, Bltu, Bgeu, Jal, Lui, Auipc, Fence, Ecall, Ebreak}
use Rattle.rv32_decode.specs.Table.{Row, made, found, rows, insn_at}
use Rattle.rv32_user.specs.declared.effect.Effect.{Effect}
use Rattle.rv32_user.specs.declared.effect.Effect.TheVariants.{Next, Load, Store, Syscall, Break, Misaligned}
use Rattle.rv32_user.specs.declared.action.Action.{Action}
use Rattle.rv32_user.specs.declared.action.Action.TheVariants.{Write, Link, Only}
use Rattle.rv32_user.specs.Word.{word_of, plus, next_of, extended, is_aligned, signed, flag}
use Rattle.rv32_user.specs.Registers.{register, with_register}
use Rattle.rv32_user.specs.Table.{action_of, arrival, branch}
use Rattle.rv32_user.specs.Step.{effect_in, registers_in, effect_of, registers_after, loaded}
use Rattle.machine_state.specs.DataAccess.{number_of, bytes_of}
use Rattle.run_ranges.specs.Ranges.{IsWord, IsByte}

-- the word of a number is one
pub word_of-small : (z : ℤ) → IsWord (word_of z)
word_of-small (pos a) = omega arith
word_of-small (negsuc a) = omega arith

-- registers that are read, and a register that is written
pub word_at : (x : List ℕ) (i : ℕ) → All IsWord x → IsWord (slice_index x i)
word_at x i all = All-at IsWord x 0 (omega arith) all i

register-small : (x : List ℕ) (i : ℕ) → All IsWord x → IsWord (register x i)
register-small x i all = cond_both (i == 0) _ _ IsWord (λ e. omega arith) (λ e. word_at x i all)

with_register-small : (x : List ℕ) (i value : ℕ) → IsWord value → All IsWord x → All IsWord (with_register x i value)
with_register-small x i value word all = cond_both (i == 0) _ _ (All IsWord) (λ e. all) (λ e. All-set IsWord x i value word all)

flag-small : (b : Bool) → IsWord (flag b)
flag-small true = omega arith
flag-small false = omega arith

quotient-small : (a b : ℕ) → IsWord a → IsWord (a / b)
quotient-small a b word = omega (arith, div-le_self a b)

-- an effect whose addresses are words, and whose loads are of at most four bytes
abbrev pub IsWordEffect : Effect → Type 0
IsWordEffect (Next pc) = IsWord pc
IsWordEffect (Load at size signed rd) = IsWord at × (size ≤ 4)
IsWordEffect (Store at size value) = IsWord at
IsWordEffect Syscall = Unit {0}
IsWordEffect Break = Unit {0}
IsWordEffect (Misaligned target) = IsWord target

-- an action that writes a word
abbrev IsWordAction : Action → Type 0
IsWordAction (Write rd value) = IsWord value
IsWordAction (Link rd target) = IsWord target
IsWordAction (Only effect) = IsWordEffect effect

arrival-small : (target : ℕ) → IsWord target → IsWordEffect (arrival target)
arrival-small target word = cond_both (is_aligned target) _ _ IsWordEffect (λ e. word) (λ e. word)

next-small : (pc : ℕ) → IsWord (next_of pc)
next-small pc = omega arith

branch-small : (pc : ℕ) (off : ℤ) (test : Bool) → IsWordEffect (branch pc off test)
branch-small pc off test = cond_both test _ _ IsWordEffect (λ e. arrival-small (plus pc off) (word_of-small _)) (λ e. next-small pc)

-- the operand of an instruction that makes a word of it alone has the bits of its field
abbrev pub HasOperand : Insn → Type 0
HasOperand (Lui rd imm) = imm < 2 ^ 20
HasOperand _ = Unit {0}

-- so has each that is decoded by these rows
abbrev DecodeOperands : List Row → Type 0
DecodeOperands [] = Unit {0}
DecodeOperands (row ∷ rows) = ((word : ℕ) → HasOperand (made row.form word)) × DecodeOperands rows

found-operand : (rows : List Row) (word : ℕ) → DecodeOperands rows → IfSome (found rows word) HasOperand
found-operand [] word each = tt
found-operand (row ∷ rows) word each =
    cond_both (bit_and word row.mask == row.match) (Some (made row.form word)) (found rows word) (λ insn. IfSome insn HasOperand) (λ e. each.0 word) (λ e. found-operand rows word each.1)

pub insn_at-operand : (word : ℕ) → IfSome (insn_at word) HasOperand
unfolding insn_at rows
insn_at-operand word = found-operand rows word (λ w. omega arith, (λ w. tt, (λ w. tt, (λ w. tt, (λ w. tt, (λ w. tt, (λ w. tt, (λ w. tt, (λ w. tt, (λ w. tt, (λ w. tt, (λ w. tt, (λ w. tt, (λ w. tt, (λ w. tt, (λ w. tt, (λ w. tt, (λ w. tt, (λ w. tt, (λ w. tt, (λ w. tt, (λ w. tt, (λ w. tt, (λ w. tt, (λ w. tt, (λ w. tt, (λ w. tt, (λ w. tt, (λ w. tt, (λ w. tt, (λ w. tt, (λ w. tt, (λ w. tt, (λ w. tt, (λ w. tt, (λ w. tt, (λ w. tt, (λ w. tt, (λ w. tt, (λ w. tt, tt))))))))))))))))))))))))))))))))))))))))

-- each action
module _ (x : List ℕ) (pc : ℕ) (all : All IsWord x) where
  reg : (i : ℕ) → IsWord (register x i)
  reg i = register-small x i all

  pub action-small : (insn : Insn) → HasOperand insn → IsWordAction (action_of x pc insn)
  unfolding action_of
  action-small (Add rd rs1 rs2) range = omega arith
  action-small (Sub rd rs1 rs2) range = word_of-small _
  action-small (Sll rd rs1 rs2) range = omega arith
  action-small (Slt rd rs1 rs2) range = flag-small _
  action-small (Sltu rd rs1 rs2) range = flag-small _
  action-small (Xor rd rs1 rs2) range = xor_lt 32 _ _ (reg rs1) (reg rs2)
  action-small (Srl rd rs1 rs2) range = quotient-small _ _ (reg rs1)
  action-small (Sra rd rs1 rs2) range = word_of-small _
  action-small (Or rd rs1 rs2) range = or_lt 32 _ _ (reg rs1) (reg rs2)
  action-small (And rd rs1 rs2) range = omega (arith, and_le_l (register x rs1) (register x rs2), reg rs1)
  action-small (Addi rd rs1 imm) range = word_of-small _
  action-small (Slti rd rs1 imm) range = flag-small _
  action-small (Sltiu rd rs1 imm) range = flag-small _
  action-small (Xori rd rs1 imm) range = xor_lt 32 _ _ (reg rs1) (word_of-small imm)
  action-small (Ori rd rs1 imm) range = or_lt 32 _ _ (reg rs1) (word_of-small imm)
  action-small (Andi rd rs1 imm) range = omega (arith, and_le_l (register x rs1) (word_of imm), reg rs1)
  action-small (Slli rd rs1 sh) range = omega arith
  action-small (Srli rd rs1 sh) range = quotient-small _ _ (reg rs1)
  action-small (Srai rd rs1 sh) range = word_of-small _
  action-small (Lb rd rs1 imm) range = (word_of-small _, omega arith)
  action-small (Lh rd rs1 imm) range = (word_of-small _, omega arith)
  action-small (Lw rd rs1 imm) range = (word_of-small _, omega arith)
  action-small (Lbu rd rs1 imm) range = (word_of-small _, omega arith)
  action-small (Lhu rd rs1 imm) range = (word_of-small _, omega arith)
  action-small (Jalr rd rs1 imm) range = let word = word_of-small (pos (register x rs1) +ℤ imm) in omega (arith, word)
  action-small (Sb rs1 rs2 imm) range = word_of-small _
  action-small (Sh rs1 rs2 imm) range = word_of-small _
  action-small (Sw rs1 rs2 imm) range = word_of-small _
  action-small (Beq rs1 rs2 off) range = branch-small pc off _
  action-small (Bne rs1 rs2 off) range = branch-small pc off _
  action-small (Blt rs1 rs2 off) range = branch-small pc off _
  action-small (Bge rs1 rs2 off) range = branch-small pc off _
  action-small (Bltu rs1 rs2 off) range = branch-small pc off _
  action-small (Bgeu rs1 rs2 off) range = branch-small pc off _
  action-small (Jal rd off) range = word_of-small _
  action-small (Lui rd imm) range = omega (arith, range)
  action-small (Auipc rd imm) range = omega arith
  action-small Fence range = next-small pc
  action-small Ecall range = tt
  action-small Ebreak range = tt

  -- where the process goes on, what it accesses, and its registers afterwards
  pub effect-small : (insn : Insn) → HasOperand insn → IsWordEffect (effect_of x pc insn)
  unfolding effect_of
  effect-small insn range = by (action_of x pc insn) (action-small insn range)
    where
      by : (action : Action) → IsWordAction action → IsWordEffect (effect_in pc action)
      by (Write rd value) word = next-small pc
      by (Link rd target) word = arrival-small target word
      by (Only effect) word = word

  pub registers-small : (insn : Insn) → HasOperand insn → All IsWord (registers_after x pc insn)
  unfolding registers_after
  registers-small insn range = by (action_of x pc insn) (action-small insn range)
    where
      by : (action : Action) → IsWordAction action → All IsWord (registers_in x pc action)
      by (Write rd value) word = with_register-small x rd value word all
      by (Link rd target) word = cond_both (is_aligned target) _ _ (All IsWord) (λ e. with_register-small x rd (next_of pc) (next-small pc) all) (λ e. all)
      by (Only effect) word = all

-- ---- bytes

-- the number of so many bytes is below this power
bytes_number : (k : ℕ) (bytes : List ℕ) → All IsByte bytes → number_of (take k bytes) < 256 ^ k
bytes_number zero bytes all = omega arith
bytes_number (suc k) [] all = let some : 1 ≤ 256 ^ suc k = pow-le-pow_right {n = 256} (omega arith) {i = 0} {j = suc k} (omega arith) in some
bytes_number (suc k) (byte ∷ bytes) all =
    let head = All-head IsByte byte bytes all in
    let rest = bytes_number k bytes (All-tail IsByte byte bytes all) in
    let more : 256 ^ (k + 1) ≡ 256 ^ k * 256 = pow_more 256 k in
    omega (arith, head, rest, more)

pub bytes_of-bytes : (count value : ℕ) → All IsByte (bytes_of count value)
bytes_of-bytes zero value = All-nil IsByte
bytes_of-bytes (suc count) value = All-cons IsByte (value % 256) (bytes_of count (value / 256)) (omega arith) (bytes_of-bytes count (value / 256))

-- what is loaded is a word
pub loaded-small : (x : List ℕ) (rd size : ℕ) (is_signed : Bool) (bytes : List ℕ) → size ≤ 4 → All IsByte bytes → All IsWord x → All IsWord (loaded x rd size is_signed (number_of (take size bytes)))
unfolding loaded
loaded-small x rd size is_signed bytes few all words =
    with_register-small x rd (extended size is_signed (number_of (take size bytes)))
    (cond_both is_signed _ _ IsWord (λ e. word_of-small _) (λ e.
    let below = bytes_number size bytes all in
    let most : 256 ^ size ≤ 256 ^ 4 = pow-le-pow_right {n = 256} (omega arith) few in
    omega (arith, below, most)))
    words
