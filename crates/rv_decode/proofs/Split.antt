-- A word is the sum of its six fields: opcode, rd, funct3, rs1, rs2 and funct7.
use Rattle.std.proofs.Common.{◌≡◌, ℕ, ◌+◌, ◌*◌, ◌/◌, ◌%◌, ◌^◌, ◌<◌, arith}
use Rattle.rv_decode.specs.Fields.{part}

-- the fields of a word
pub record Splits (w opcode rd funct3 rs1 rs2 funct7 : ℕ) : Type 0 where
  pub opcode_is : part w 0 7 ≡ opcode
  pub rd_is : part w 7 5 ≡ rd
  pub funct3_is : part w 12 3 ≡ funct3
  pub rs1_is : part w 15 5 ≡ rs1
  pub rs2_is : part w 20 5 ≡ rs2
  pub funct7_is : part w 25 7 ≡ funct7

pub splits_sum : (w opcode rd funct3 rs1 rs2 funct7 : ℕ)
    → opcode < 2 ^ 7 → rd < 2 ^ 5 → funct3 < 2 ^ 3 → rs1 < 2 ^ 5 → rs2 < 2 ^ 5 → funct7 < 2 ^ 7
    → w ≡ opcode + rd * 2 ^ 7 + funct3 * 2 ^ 12 + rs1 * 2 ^ 15 + rs2 * 2 ^ 20 + funct7 * 2 ^ 25
    → Splits w opcode rd funct3 rs1 rs2 funct7
splits_sum w o d f s t g ho hd hf hs ht hg e = record {
  opcode_is = omega arith;
  rd_is = omega arith;
  funct3_is = omega arith;
  rs1_is = omega arith;
  rs2_is = omega arith;
  funct7_is = omega arith;
}

pub sum_of_parts : (w : ℕ) → w < 2 ^ 32
    → w ≡ part w 0 7 + part w 7 5 * 2 ^ 7 + part w 12 3 * 2 ^ 12 + part w 15 5 * 2 ^ 15 + part w 20 5 * 2 ^ 20 + part w 25 7 * 2 ^ 25
sum_of_parts w h = omega arith

-- fields that stand beside each other
pub upper_part : (w : ℕ) → part w 12 20 ≡ part w 12 3 + part w 15 5 * 2 ^ 3 + part w 20 5 * 2 ^ 8 + part w 25 7 * 2 ^ 13
upper_part w = omega arith

pub immediate_part : (w : ℕ) → part w 20 12 ≡ part w 20 5 + part w 25 7 * 2 ^ 5
immediate_part w = omega arith

pub branch_part : (w : ℕ)
    → part w 8 4 * 2 + part w 25 6 * 2 ^ 5 + part w 7 1 * 2 ^ 11 + part w 31 1 * 2 ^ 12
    ≡ part w 7 5 / 2 * 2 + part w 25 7 % 2 ^ 6 * 2 ^ 5 + part w 7 5 % 2 * 2 ^ 11 + part w 25 7 / 2 ^ 6 * 2 ^ 12
branch_part w = omega arith

pub jump_part : (w : ℕ)
    → part w 21 10 * 2 + part w 20 1 * 2 ^ 11 + part w 12 8 * 2 ^ 12 + part w 31 1 * 2 ^ 20
    ≡ part w 20 5 / 2 * 2 + part w 25 7 % 2 ^ 6 * 2 ^ 5 + part w 20 5 % 2 * 2 ^ 11 + part w 12 3 * 2 ^ 12 + part w 15 5 * 2 ^ 15 + part w 25 7 / 2 ^ 6 * 2 ^ 20
jump_part w = omega arith

pub amount_part : (w : ℕ) → part w 20 6 ≡ part w 20 5 + part w 25 7 % 2 * 2 ^ 5
amount_part w = omega arith

pub funct6_part : (w : ℕ) → part w 26 6 * 2 ≡ part w 25 7 / 2 * 2
funct6_part w = omega arith

pub funct5_part : (w : ℕ) → part w 27 5 * 4 ≡ part w 25 7 / 4 * 4
funct5_part w = omega arith

pub aq_part : (w : ℕ) → part w 26 1 ≡ part w 25 7 / 2 % 2
aq_part w = omega arith

pub rl_part : (w : ℕ) → part w 25 1 ≡ part w 25 7 % 2
rl_part w = omega arith
