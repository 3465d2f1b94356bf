-- Words as GNU as writes them for riscv64, one for each instruction of the table, and words that have none.
use Rattle.std.proofs.Common.{◌≡◌, ℕ, List, [], ◌∷◌, map, Some, None, refl, pos, negsuc, true, false}
use Rattle.rv_decode.specs.declared.Instr.{Instr}
use Rattle.rv_decode.specs.declared.Instr.TheVariants.{Upper, Jal, Jalr, Branch, Load, Store, Imm, Shift, Reg, Atomic, Fence, Ecall, Ebreak}
use Rattle.rv_decode.specs.declared.UpperOp.TheVariants.{Lui, Auipc}
use Rattle.rv_decode.specs.declared.BranchOp.TheVariants.{Beq, Bne, Blt, Bge, Bltu, Bgeu}
use Rattle.rv_decode.specs.declared.LoadOp.TheVariants.{Lb, Lh, Lw, Ld, Lbu, Lhu, Lwu}
use Rattle.rv_decode.specs.declared.StoreOp.TheVariants.{Sb, Sh, Sw, Sd}
use Rattle.rv_decode.specs.declared.ImmOp.TheVariants.{Addi, Slti, Sltiu, Xori, Ori, Andi, Addiw}
use Rattle.rv_decode.specs.declared.ShiftOp.TheVariants.{Slli, Srli, Srai, Slliw, Srliw, Sraiw}
use Rattle.rv_decode.specs.declared.RegOp.TheVariants.{Add, Sll, Slt, Sltu, Xor, Srl, Or, And, Sub, Sra, Mul, Mulh, Mulhsu, Mulhu, Div, Divu, Rem, Remu, Addw, Sllw, Srlw, Subw, Sraw, Mulw, Divw, Divuw, Remw, Remuw}
use Rattle.rv_decode.specs.declared.AtomicOp.TheVariants.{Amoadd, Amoswap, Lr, Sc, Amoxor, Amoor, Amoand, Amomin, Amomax, Amominu, Amomaxu}
use Rattle.rv_decode.specs.Instructions.{word_of, instruction_of}

-- a word and its instruction
record Row : Type 0 where
  word : ℕ
  instr : Instr

abbrev row : ℕ → Instr → Row
row word instr = record { word = word; instr = instr }

abbrev rows : List Row
rows =
    row 0x800003B7 (Upper Lui 7 524288)
    ∷ row 0xFFFFF697 (Upper Auipc 13 1048575)
    ∷ row 0xFFFFF3EF (Jal 7 (negsuc 1))
    ∷ row 0xFFFF0A67 (Jalr 20 30 (negsuc 0))
    ∷ row 0x003D8063 (Branch Beq 27 3 (pos 0))
    ∷ row 0x010B9063 (Branch Bne 23 16 (pos 0))
    ∷ row 0xF517C0E3 (Branch Blt 15 17 (negsuc 191))
    ∷ row 0x00E25063 (Branch Bge 4 14 (pos 0))
    ∷ row 0x01EDE163 (Branch Bltu 27 30 (pos 2))
    ∷ row 0x01917063 (Branch Bgeu 2 25 (pos 0))
    ∷ row 0x001C8183 (Load Lb 3 25 (pos 1))
    ∷ row 0x001C9703 (Load Lh 14 25 (pos 1))
    ∷ row 0x001AA983 (Load Lw 19 21 (pos 1))
    ∷ row 0x800CB803 (Load Ld 16 25 (negsuc 2047))
    ∷ row 0x00124683 (Load Lbu 13 4 (pos 1))
    ∷ row 0x7FF9D883 (Load Lhu 17 19 (pos 2047))
    ∷ row 0xFC9C6183 (Load Lwu 3 24 (negsuc 54))
    ∷ row 0x800D0023 (Store Sb 26 0 (negsuc 2047))
    ∷ row 0xE4F793A3 (Store Sh 15 15 (negsuc 440))
    ∷ row 0x00652023 (Store Sw 10 6 (pos 0))
    ∷ row 0xFFFD3FA3 (Store Sd 26 31 (negsuc 0))
    ∷ row 0xE1D40F93 (Imm Addi 31 8 (negsuc 482))
    ∷ row 0x00012E93 (Imm Slti 29 2 (pos 0))
    ∷ row 0x2C983A13 (Imm Sltiu 20 16 (pos 713))
    ∷ row 0x80014C93 (Imm Xori 25 2 (negsuc 2047))
    ∷ row 0x7FFDE113 (Imm Ori 2 27 (pos 2047))
    ∷ row 0x7860FA13 (Imm Andi 20 1 (pos 1926))
    ∷ row 0x9E988E1B (Imm Addiw 28 17 (negsuc 1558))
    ∷ row 0x00139293 (Shift Slli 5 7 1)
    ∷ row 0x00105A93 (Shift Srli 21 0 1)
    ∷ row 0x40185B13 (Shift Srai 22 16 1)
    ∷ row 0x001C189B (Shift Slliw 17 24 1)
    ∷ row 0x001D5C1B (Shift Srliw 24 26 1)
    ∷ row 0x401B511B (Shift Sraiw 2 22 1)
    ∷ row 0x00530EB3 (Reg Add 29 6 5)
    ∷ row 0x01209F33 (Reg Sll 30 1 18)
    ∷ row 0x01622133 (Reg Slt 2 4 22)
    ∷ row 0x012035B3 (Reg Sltu 11 0 18)
    ∷ row 0x0111C2B3 (Reg Xor 5 3 17)
    ∷ row 0x00CEDC33 (Reg Srl 24 29 12)
    ∷ row 0x00A4E9B3 (Reg Or 19 9 10)
    ∷ row 0x001A7633 (Reg And 12 20 1)
    ∷ row 0x418A8CB3 (Reg Sub 25 21 24)
    ∷ row 0x411ADA33 (Reg Sra 20 21 17)
    ∷ row 0x02218233 (Reg Mul 4 3 2)
    ∷ row 0x02AE1DB3 (Reg Mulh 27 28 10)
    ∷ row 0x02B0A1B3 (Reg Mulhsu 3 1 11)
    ∷ row 0x037639B3 (Reg Mulhu 19 12 23)
    ∷ row 0x03E243B3 (Reg Div 7 4 30)
    ∷ row 0x02535B33 (Reg Divu 22 6 5)
    ∷ row 0x02BBEDB3 (Reg Rem 27 23 11)
    ∷ row 0x03C57633 (Reg Remu 12 10 28)
    ∷ row 0x00488E3B (Reg Addw 28 17 4)
    ∷ row 0x01B1933B (Reg Sllw 6 3 27)
    ∷ row 0x0013DF3B (Reg Srlw 30 7 1)
    ∷ row 0x4080853B (Reg Subw 10 1 8)
    ∷ row 0x4039D23B (Reg Sraw 4 19 3)
    ∷ row 0x025109BB (Reg Mulw 19 2 5)
    ∷ row 0x02F247BB (Reg Divw 15 4 15)
    ∷ row 0x02AE593B (Reg Divuw 18 28 10)
    ∷ row 0x02C463BB (Reg Remw 7 8 12)
    ∷ row 0x031AFE3B (Reg Remuw 28 21 17)
    ∷ row 0x023B2CAF (Atomic Amoadd false false true 25 22 3)
    ∷ row 0x09B13BAF (Atomic Amoswap true false false 23 2 27)
    ∷ row 0x1201AEAF (Atomic Lr false false true 29 3 0)
    ∷ row 0x1868B32F (Atomic Sc true false false 6 17 6)
    ∷ row 0x23D12B2F (Atomic Amoxor false false true 22 2 29)
    ∷ row 0x410B3B2F (Atomic Amoor true false false 22 22 16)
    ∷ row 0x6375AE2F (Atomic Amoand false false true 28 11 23)
    ∷ row 0x81FFB12F (Atomic Amomin true false false 2 31 31)
    ∷ row 0xA360A6AF (Atomic Amomax false false true 13 1 22)
    ∷ row 0xC00A312F (Atomic Amominu true false false 2 20 0)
    ∷ row 0xE2CFA22F (Atomic Amomaxu false false true 4 31 12)
    ∷ row 0x0FF0000F (Fence 0 0 0xFF)
    ∷ row 0x8330000F (Fence 0 0 0x833)
    ∷ row 0x00000073 Ecall
    ∷ row 0x00100073 Ebreak
    ∷ []

words : map (λ r. word_of r.instr) rows ≡ map (λ r. r.word) rows
words = refl

instructions : map (λ r. instruction_of r.word) rows ≡ map (λ r. Some r.instr) rows
instructions = refl

-- c.nop, flw, fadd.d, csrrs, fence.i, mret, ecall with rd, a load of funct3 7, a shift of 32 bits by 32, sub's funct7 at sll, lr with rs2, all bits 1
abbrev others : List ℕ
others =
    0x00000001
    ∷ 0x0005A507
    ∷ 0x02B57553
    ∷ 0xC0002573
    ∷ 0x0000100F
    ∷ 0x30200073
    ∷ 0x000000F3
    ∷ 0x00007003
    ∷ 0x0200101B
    ∷ 0x40001033
    ∷ 0x1015A52F
    ∷ 0xFFFFFFFF
    ∷ []

no_instructions : map instruction_of others ≡ map (λ _. None) others
no_instructions = refl
