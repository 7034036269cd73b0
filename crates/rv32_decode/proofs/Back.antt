-- The word of an instruction is one that the table reads as the instruction.
use Rattle.std.proofs.Common.{arith, ◌≡◌, ℕ, ◌+◌, ◌*◌, ◌/◌, ◌%◌, ◌^◌, ◌<◌, refl, ap, ◌∙◌, ℤ, pos, negsuc, neg_ℤ, ◌≤ℤ◌, ◌<ℤ◌, unsigned_abs}
use Rattle.std.proofs.lemmas.Int.{ints}
use Rattle.std.proofs.lemmas.Bool.Decides.{nat_tests}
use Rattle.std.specs.Prelude.{Some}
use Rattle.rv32_decode.specs.InRange.{IsRegister, IsImmediate, IsBranchOffset, IsJumpOffset}
use Rattle.rv32_decode.specs.Fields.{bits, signed, i_immediate, s_immediate, b_immediate, j_immediate}
use Rattle.rv32_decode.specs.Table.{insn_at}
use Rattle.rv32_decode.specs.Groups.{insn_by}
use Rattle.rv32_decode.specs.Word.{unsigned, r_word, i_word, s_word, b_word, u_word, j_word}
use Rattle.rv32_decode.specs.declared.insn.Insn.{Insn}
use Rattle.rv32_decode.proofs.Agreement.{insn_at-by}

-- the six fields of a word, and what the table says of it by three of them
record Six (word op rd f3 rs1 rs2 f7 : ℕ) : Type 0 where
  is_rd : bits word 11 7 ≡ rd
  is_f3 : bits word 14 12 ≡ f3
  is_rs1 : bits word 19 15 ≡ rs1
  is_rs2 : bits word 24 20 ≡ rs2
  is_f7 : bits word 31 25 ≡ f7
  is_insn : insn_at word ≡ insn_by op f3 f7 word

six : (word op rd f3 rs1 rs2 f7 : ℕ) → op < 128 → rd < 32 → f3 < 8 → rs1 < 32 → rs2 < 32 → f7 < 128
    → word ≡ op + rd * 2 ^ 7 + f3 * 2 ^ 12 + rs1 * 2 ^ 15 + rs2 * 2 ^ 20 + f7 * 2 ^ 25
    → Six word op rd f3 rs1 rs2 f7
six word op rd f3 rs1 rs2 f7 a b c d e f g =
    let is_op : bits word 6 0 ≡ op = omega arith in
    let is_f3 : bits word 14 12 ≡ f3 = omega arith in
    let is_f7 : bits word 31 25 ≡ f7 = omega arith in
    let says : insn_at word ≡ insn_by (bits word 6 0) (bits word 14 12) (bits word 31 25) word =
    insn_at-by word (omega arith) in
    record {
      is_rd = omega arith;
      is_f3 = is_f3;
      is_rs1 = omega arith;
      is_rs2 = omega arith;
      is_f7 = is_f7;
      is_insn = cc;
    }

-- a number in two's complement: it fits, it says the number, and it is even where the number is
record Complement (sign : ℕ) (z : ℤ) : Type 0 where
  below : unsigned sign z < 2 * sign
  back : signed sign (unsigned sign z) ≡ z
  even : sign % 2 ≡ 0 → unsigned_abs z % 2 ≡ 0 → unsigned sign z % 2 ≡ 0

complement : (sign : ℕ) (z : ℤ) → neg_ℤ (pos sign) ≤ℤ z → z <ℤ pos sign → Complement sign z
complement sign (pos n) low high = record {
  below = omega (arith, ints);
  back = grind (arith, ints, nat_tests);
  even = λ p q. q;
}
complement sign (negsuc n) low high = record {
  below = omega (arith, ints);
  back = grind (arith, ints, nat_tests);
  even = λ p q. omega (arith, ints);
}

twelve : (imm : ℤ) → IsImmediate imm → Complement (2 ^ 11) imm
twelve imm range = complement (2 ^ 11) imm (omega (arith, ints)) (omega (arith, ints))

-- each format: what the table makes of any word of the row, it makes of the word of these operands
module _ (op f3 f7 : ℕ) (small_op : op < 128) (small_f3 : f3 < 8) where
  pub r_back : f7 < 128 → (insn : ℕ → ℕ → ℕ → Insn)
      → ((word : ℕ) → insn_by op f3 f7 word ≡ Some (insn (bits word 11 7) (bits word 19 15) (bits word 24 20)))
      → (rd rs1 rs2 : ℕ) → IsRegister rd × IsRegister rs1 × IsRegister rs2
      → insn_at (r_word (op + f3 * 2 ^ 12 + f7 * 2 ^ 25) rd rs1 rs2) ≡ Some (insn rd rs1 rs2)
  r_back small_f7 insn reads rd rs1 rs2 operands =
      let word : ℕ = r_word (op + f3 * 2 ^ 12 + f7 * 2 ^ 25) rd rs1 rs2 in
      let fields : Six word op rd f3 rs1 rs2 f7 =
      six word op rd f3 rs1 rs2 f7 small_op operands.0 small_f3 operands.1 operands.2 small_f7 (omega arith) in
      cc (reads word)

module _ (op f3 : ℕ) (small_op : op < 128) (small_f3 : f3 < 8) where
  pub i_back : (insn : ℕ → ℕ → ℤ → Insn)
      → ((f7 word : ℕ) → insn_by op f3 f7 word ≡ Some (insn (bits word 11 7) (bits word 19 15) (i_immediate word)))
      → (rd rs1 : ℕ) (imm : ℤ) → IsRegister rd × IsRegister rs1 × IsImmediate imm
      → insn_at (i_word (op + f3 * 2 ^ 12) rd rs1 imm) ≡ Some (insn rd rs1 imm)
  i_back insn reads rd rs1 imm operands =
      let word : ℕ = i_word (op + f3 * 2 ^ 12) rd rs1 imm in
      let n : ℕ = unsigned (2 ^ 11) imm in
      let is : Complement (2 ^ 11) imm = twelve imm operands.2 in
      let fields : Six word op rd f3 rs1 (n % 32) (n / 32) =
      six word op rd f3 rs1 _ _ small_op operands.0 small_f3 operands.1 (omega arith) (omega arith) (omega arith) in
      let immediate : bits word 31 20 ≡ n = omega arith in
      let says : i_immediate word ≡ imm = ap (signed (2 ^ 11)) immediate ∙ is.back in
      cc (reads (n / 32) word)

  pub s_back : (insn : ℕ → ℕ → ℤ → Insn)
      → ((f7 word : ℕ) → insn_by op f3 f7 word ≡ Some (insn (bits word 19 15) (bits word 24 20) (s_immediate word)))
      → (rs1 rs2 : ℕ) (imm : ℤ) → IsRegister rs1 × IsRegister rs2 × IsImmediate imm
      → insn_at (s_word (op + f3 * 2 ^ 12) rs1 rs2 imm) ≡ Some (insn rs1 rs2 imm)
  s_back insn reads rs1 rs2 imm operands =
      let word : ℕ = s_word (op + f3 * 2 ^ 12) rs1 rs2 imm in
      let n : ℕ = unsigned (2 ^ 11) imm in
      let is : Complement (2 ^ 11) imm = twelve imm operands.2 in
      let fields : Six word op (n % 32) f3 rs1 rs2 (n / 32) =
      six word op _ f3 rs1 rs2 _ small_op (omega arith) small_f3 operands.0 operands.1 (omega arith) (omega arith) in
      let immediate : bits word 31 25 * 2 ^ 5 + bits word 11 7 ≡ n = omega arith in
      let says : s_immediate word ≡ imm = ap (signed (2 ^ 11)) immediate ∙ is.back in
      cc (reads (n / 32) word)

  pub b_back : (insn : ℕ → ℕ → ℤ → Insn)
      → ((f7 word : ℕ) → insn_by op f3 f7 word ≡ Some (insn (bits word 19 15) (bits word 24 20) (b_immediate word)))
      → (rs1 rs2 : ℕ) (off : ℤ) → IsRegister rs1 × IsRegister rs2 × IsBranchOffset off
      → insn_at (b_word (op + f3 * 2 ^ 12) rs1 rs2 off) ≡ Some (insn rs1 rs2 off)
  b_back insn reads rs1 rs2 off operands =
      let word : ℕ = b_word (op + f3 * 2 ^ 12) rs1 rs2 off in
      let n : ℕ = unsigned (2 ^ 12) off in
      let is : Complement (2 ^ 12) off = complement (2 ^ 12) off (omega (arith, ints)) (omega (arith, ints)) in
      let even : n % 2 ≡ 0 = is.even refl operands.2.2 in
      let fields : Six word op (bits n 11 11 + bits n 4 1 * 2) f3 rs1 rs2 (bits n 10 5 + bits n 12 12 * 2 ^ 6) =
      six word op _ f3 rs1 rs2 _ small_op (omega arith) small_f3 operands.0 operands.1 (omega arith) (omega arith) in
      let immediate : bits word 31 31 * 2 ^ 12 + bits word 7 7 * 2 ^ 11 + bits word 30 25 * 2 ^ 5 + bits word 11 8 * 2 ≡ n =
      omega arith in
      let says : b_immediate word ≡ off = ap (signed (2 ^ 12)) immediate ∙ is.back in
      cc (reads (bits n 10 5 + bits n 12 12 * 2 ^ 6) word)

module _ (op : ℕ) (small_op : op < 128) where
  pub u_back : (insn : ℕ → ℕ → Insn)
      → ((f3 f7 word : ℕ) → insn_by op f3 f7 word ≡ Some (insn (bits word 11 7) (bits word 31 12)))
      → (rd imm : ℕ) → IsRegister rd × (imm < 2 ^ 20)
      → insn_at (u_word op rd imm) ≡ Some (insn rd imm)
  u_back insn reads rd imm operands =
      let word : ℕ = u_word op rd imm in
      let fields : Six word op rd (imm % 8) (imm / 8 % 32) (imm / 2 ^ 8 % 32) (imm / 2 ^ 13) =
      six word op rd _ _ _ _ small_op operands.0 (omega arith) (omega arith) (omega arith) (omega arith) (omega arith) in
      let immediate : bits word 31 12 ≡ imm = omega arith in
      cc (reads (imm % 8) (imm / 2 ^ 13) word)

  pub j_back : (insn : ℕ → ℤ → Insn)
      → ((f3 f7 word : ℕ) → insn_by op f3 f7 word ≡ Some (insn (bits word 11 7) (j_immediate word)))
      → (rd : ℕ) (off : ℤ) → IsRegister rd × IsJumpOffset off
      → insn_at (j_word op rd off) ≡ Some (insn rd off)
  j_back insn reads rd off operands =
      let word : ℕ = j_word op rd off in
      let n : ℕ = unsigned (2 ^ 20) off in
      let is : Complement (2 ^ 20) off = complement (2 ^ 20) off (omega (arith, ints)) (omega (arith, ints)) in
      let even : n % 2 ≡ 0 = is.even refl operands.1.2 in
      let upper : ℕ = bits n 19 12 + bits n 11 11 * 2 ^ 8 + bits n 10 1 * 2 ^ 9 + bits n 20 20 * 2 ^ 19 in
      let fields : Six word op rd (upper % 8) (upper / 8 % 32) (upper / 2 ^ 8 % 32) (upper / 2 ^ 13) =
      six word op rd _ _ _ _ small_op operands.0 (omega arith) (omega arith) (omega arith) (omega arith) (omega arith) in
      let immediate : bits word 31 31 * 2 ^ 20 + bits word 19 12 * 2 ^ 12 + bits word 20 20 * 2 ^ 11 + bits word 30 21 * 2 ≡ n =
      omega arith in
      let says : j_immediate word ≡ off = ap (signed (2 ^ 20)) immediate ∙ is.back in
      cc (reads (upper % 8) (upper / 2 ^ 13) word)
