-- The word of each instruction is one that the table reads as the instruction.
use Rattle.std.proofs.Common.{◌≡◌, refl, lit<}
use Rattle.std.specs.Prelude.{Some}
use Rattle.rv32_decode.specs.InRange.{InRange}
use Rattle.rv32_decode.specs.Table.{rows, insn_at}
use Rattle.rv32_decode.specs.Groups.{insn_by}
use Rattle.rv32_decode.specs.Word.{word_of}
use Rattle.rv32_decode.specs.declared.insn.Insn.{Insn}
use Rattle.rv32_decode.specs.declared.insn.Insn.TheVariants.{Add, Sub, Sll, Slt, Sltu, Xor, Srl, Sra, Or, And, Addi, Slti, Sltiu, Xori, Ori, Andi, Slli, Srli, Srai, Lb, Lh, Lw, Lbu, Lhu, Jalr, Sb, Sh, Sw, Beq, Bne, Blt, Bge, Bltu, Bgeu, Jal, Lui, Auipc, Fence, Ecall, Ebreak}
use Rattle.rv32_decode.proofs.Back.{r_back, i_back, s_back, b_back, u_back, j_back}

pub reads_back : (insn : Insn) → InRange insn → insn_at (word_of insn) ≡ Some insn
unfolding rows insn_by insn_at word_of
reads_back (Add rd rs1 rs2) range = r_back 51 0 0 (lit< tt) (lit< tt) (lit< tt) Add (λ word. refl) rd rs1 rs2 range
reads_back (Sub rd rs1 rs2) range = r_back 51 0 32 (lit< tt) (lit< tt) (lit< tt) Sub (λ word. refl) rd rs1 rs2 range
reads_back (Sll rd rs1 rs2) range = r_back 51 1 0 (lit< tt) (lit< tt) (lit< tt) Sll (λ word. refl) rd rs1 rs2 range
reads_back (Slt rd rs1 rs2) range = r_back 51 2 0 (lit< tt) (lit< tt) (lit< tt) Slt (λ word. refl) rd rs1 rs2 range
reads_back (Sltu rd rs1 rs2) range = r_back 51 3 0 (lit< tt) (lit< tt) (lit< tt) Sltu (λ word. refl) rd rs1 rs2 range
reads_back (Xor rd rs1 rs2) range = r_back 51 4 0 (lit< tt) (lit< tt) (lit< tt) Xor (λ word. refl) rd rs1 rs2 range
reads_back (Srl rd rs1 rs2) range = r_back 51 5 0 (lit< tt) (lit< tt) (lit< tt) Srl (λ word. refl) rd rs1 rs2 range
reads_back (Sra rd rs1 rs2) range = r_back 51 5 32 (lit< tt) (lit< tt) (lit< tt) Sra (λ word. refl) rd rs1 rs2 range
reads_back (Or rd rs1 rs2) range = r_back 51 6 0 (lit< tt) (lit< tt) (lit< tt) Or (λ word. refl) rd rs1 rs2 range
reads_back (And rd rs1 rs2) range = r_back 51 7 0 (lit< tt) (lit< tt) (lit< tt) And (λ word. refl) rd rs1 rs2 range
reads_back (Addi rd rs1 imm) range = i_back 19 0 (lit< tt) (lit< tt) Addi (λ f7 word. refl) rd rs1 imm range
reads_back (Slti rd rs1 imm) range = i_back 19 2 (lit< tt) (lit< tt) Slti (λ f7 word. refl) rd rs1 imm range
reads_back (Sltiu rd rs1 imm) range = i_back 19 3 (lit< tt) (lit< tt) Sltiu (λ f7 word. refl) rd rs1 imm range
reads_back (Xori rd rs1 imm) range = i_back 19 4 (lit< tt) (lit< tt) Xori (λ f7 word. refl) rd rs1 imm range
reads_back (Ori rd rs1 imm) range = i_back 19 6 (lit< tt) (lit< tt) Ori (λ f7 word. refl) rd rs1 imm range
reads_back (Andi rd rs1 imm) range = i_back 19 7 (lit< tt) (lit< tt) Andi (λ f7 word. refl) rd rs1 imm range
reads_back (Slli rd rs1 sh) range = r_back 19 1 0 (lit< tt) (lit< tt) (lit< tt) Slli (λ word. refl) rd rs1 sh range
reads_back (Srli rd rs1 sh) range = r_back 19 5 0 (lit< tt) (lit< tt) (lit< tt) Srli (λ word. refl) rd rs1 sh range
reads_back (Srai rd rs1 sh) range = r_back 19 5 32 (lit< tt) (lit< tt) (lit< tt) Srai (λ word. refl) rd rs1 sh range
reads_back (Lb rd rs1 imm) range = i_back 3 0 (lit< tt) (lit< tt) Lb (λ f7 word. refl) rd rs1 imm range
reads_back (Lh rd rs1 imm) range = i_back 3 1 (lit< tt) (lit< tt) Lh (λ f7 word. refl) rd rs1 imm range
reads_back (Lw rd rs1 imm) range = i_back 3 2 (lit< tt) (lit< tt) Lw (λ f7 word. refl) rd rs1 imm range
reads_back (Lbu rd rs1 imm) range = i_back 3 4 (lit< tt) (lit< tt) Lbu (λ f7 word. refl) rd rs1 imm range
reads_back (Lhu rd rs1 imm) range = i_back 3 5 (lit< tt) (lit< tt) Lhu (λ f7 word. refl) rd rs1 imm range
reads_back (Jalr rd rs1 imm) range = i_back 103 0 (lit< tt) (lit< tt) Jalr (λ f7 word. refl) rd rs1 imm range
reads_back (Sb rs1 rs2 imm) range = s_back 35 0 (lit< tt) (lit< tt) Sb (λ f7 word. refl) rs1 rs2 imm range
reads_back (Sh rs1 rs2 imm) range = s_back 35 1 (lit< tt) (lit< tt) Sh (λ f7 word. refl) rs1 rs2 imm range
reads_back (Sw rs1 rs2 imm) range = s_back 35 2 (lit< tt) (lit< tt) Sw (λ f7 word. refl) rs1 rs2 imm range
reads_back (Beq rs1 rs2 off) range = b_back 99 0 (lit< tt) (lit< tt) Beq (λ f7 word. refl) rs1 rs2 off range
reads_back (Bne rs1 rs2 off) range = b_back 99 1 (lit< tt) (lit< tt) Bne (λ f7 word. refl) rs1 rs2 off range
reads_back (Blt rs1 rs2 off) range = b_back 99 4 (lit< tt) (lit< tt) Blt (λ f7 word. refl) rs1 rs2 off range
reads_back (Bge rs1 rs2 off) range = b_back 99 5 (lit< tt) (lit< tt) Bge (λ f7 word. refl) rs1 rs2 off range
reads_back (Bltu rs1 rs2 off) range = b_back 99 6 (lit< tt) (lit< tt) Bltu (λ f7 word. refl) rs1 rs2 off range
reads_back (Bgeu rs1 rs2 off) range = b_back 99 7 (lit< tt) (lit< tt) Bgeu (λ f7 word. refl) rs1 rs2 off range
reads_back (Jal rd off) range = j_back 111 (lit< tt) Jal (λ f3 f7 word. refl) rd off range
reads_back (Lui rd imm) range = u_back 55 (lit< tt) Lui (λ f3 f7 word. refl) rd imm range
reads_back (Auipc rd imm) range = u_back 23 (lit< tt) Auipc (λ f3 f7 word. refl) rd imm range
reads_back Fence range = refl
reads_back Ecall range = refl
reads_back Ebreak range = refl
