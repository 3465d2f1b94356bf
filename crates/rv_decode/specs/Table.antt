-- The table of instructions of RV64IMA: what tells each of them from the others.
-- Source: The RISC-V Instruction Set Manual, Volume I, the listings of RV32I,
-- RV64I, RV64M and RV64A.
use Rattle.std.specs.Prelude.{ℕ, Bool, List, [], ◌∷◌, ◌&&◌, ◌==◌, find, Option}
use Rattle.rv_decode.specs.declared.UpperOp.{UpperOp}
use Rattle.rv_decode.specs.declared.UpperOp.TheVariants.{Lui, Auipc}
use Rattle.rv_decode.specs.declared.BranchOp.{BranchOp}
use Rattle.rv_decode.specs.declared.BranchOp.TheVariants.{Beq, Bne, Blt, Bge, Bltu, Bgeu}
use Rattle.rv_decode.specs.declared.LoadOp.{LoadOp}
use Rattle.rv_decode.specs.declared.LoadOp.TheVariants.{Lb, Lh, Lw, Ld, Lbu, Lhu, Lwu}
use Rattle.rv_decode.specs.declared.StoreOp.{StoreOp}
use Rattle.rv_decode.specs.declared.StoreOp.TheVariants.{Sb, Sh, Sw, Sd}
use Rattle.rv_decode.specs.declared.ImmOp.{ImmOp}
use Rattle.rv_decode.specs.declared.ImmOp.TheVariants.{Addi, Slti, Sltiu, Xori, Ori, Andi, Addiw}
use Rattle.rv_decode.specs.declared.ShiftOp.{ShiftOp}
use Rattle.rv_decode.specs.declared.ShiftOp.TheVariants.{Slli, Srli, Srai, Slliw, Srliw, Sraiw}
use Rattle.rv_decode.specs.declared.RegOp.{RegOp}
use Rattle.rv_decode.specs.declared.RegOp.TheVariants.{Add, Sll, Slt, Sltu, Xor, Srl, Or, And, Sub, Sra, Mul, Mulh, Mulhsu, Mulhu, Div, Divu, Rem, Remu, Addw, Sllw, Srlw, Subw, Sraw, Mulw, Divw, Divuw, Remw, Remuw}
use Rattle.rv_decode.specs.declared.AtomicOp.{AtomicOp}
use Rattle.rv_decode.specs.declared.AtomicOp.TheVariants.{Amoadd, Amoswap, Lr, Sc, Amoxor, Amoor, Amoand, Amomin, Amomax, Amominu, Amomaxu}

-- the opcode, funct3 and funct7 of an instruction, each 0 if its form has none
pub record Code : Type 0 where
  pub opcode : ℕ
  pub funct3 : ℕ
  pub funct7 : ℕ

abbrev pub code : ℕ → ℕ → ℕ → Code
code opcode funct3 funct7 = record { opcode = opcode; funct3 = funct3; funct7 = funct7 }

abbrev pub upper_code : UpperOp → Code
upper_code Lui = code 0x37 0 0x00
upper_code Auipc = code 0x17 0 0x00

abbrev pub branch_code : BranchOp → Code
branch_code Beq = code 0x63 0 0x00
branch_code Bne = code 0x63 1 0x00
branch_code Blt = code 0x63 4 0x00
branch_code Bge = code 0x63 5 0x00
branch_code Bltu = code 0x63 6 0x00
branch_code Bgeu = code 0x63 7 0x00

abbrev pub load_code : LoadOp → Code
load_code Lb = code 0x03 0 0x00
load_code Lh = code 0x03 1 0x00
load_code Lw = code 0x03 2 0x00
load_code Ld = code 0x03 3 0x00
load_code Lbu = code 0x03 4 0x00
load_code Lhu = code 0x03 5 0x00
load_code Lwu = code 0x03 6 0x00

abbrev pub store_code : StoreOp → Code
store_code Sb = code 0x23 0 0x00
store_code Sh = code 0x23 1 0x00
store_code Sw = code 0x23 2 0x00
store_code Sd = code 0x23 3 0x00

abbrev pub imm_code : ImmOp → Code
imm_code Addi = code 0x13 0 0x00
imm_code Slti = code 0x13 2 0x00
imm_code Sltiu = code 0x13 3 0x00
imm_code Xori = code 0x13 4 0x00
imm_code Ori = code 0x13 6 0x00
imm_code Andi = code 0x13 7 0x00
imm_code Addiw = code 0x1B 0 0x00

abbrev pub shift_code : ShiftOp → Code
shift_code Slli = code 0x13 1 0x00
shift_code Srli = code 0x13 5 0x00
shift_code Srai = code 0x13 5 0x20
shift_code Slliw = code 0x1B 1 0x00
shift_code Srliw = code 0x1B 5 0x00
shift_code Sraiw = code 0x1B 5 0x20

abbrev pub register_code : RegOp → Code
register_code Add = code 0x33 0 0x00
register_code Sll = code 0x33 1 0x00
register_code Slt = code 0x33 2 0x00
register_code Sltu = code 0x33 3 0x00
register_code Xor = code 0x33 4 0x00
register_code Srl = code 0x33 5 0x00
register_code Or = code 0x33 6 0x00
register_code And = code 0x33 7 0x00
register_code Sub = code 0x33 0 0x20
register_code Sra = code 0x33 5 0x20
register_code Mul = code 0x33 0 0x01
register_code Mulh = code 0x33 1 0x01
register_code Mulhsu = code 0x33 2 0x01
register_code Mulhu = code 0x33 3 0x01
register_code Div = code 0x33 4 0x01
register_code Divu = code 0x33 5 0x01
register_code Rem = code 0x33 6 0x01
register_code Remu = code 0x33 7 0x01
register_code Addw = code 0x3B 0 0x00
register_code Sllw = code 0x3B 1 0x00
register_code Srlw = code 0x3B 5 0x00
register_code Subw = code 0x3B 0 0x20
register_code Sraw = code 0x3B 5 0x20
register_code Mulw = code 0x3B 0 0x01
register_code Divw = code 0x3B 4 0x01
register_code Divuw = code 0x3B 5 0x01
register_code Remw = code 0x3B 6 0x01
register_code Remuw = code 0x3B 7 0x01

-- funct3 is that of the form of 32 bits, and the lowest two bits of funct7 are aq and rl
abbrev pub atomic_code : AtomicOp → Code
atomic_code Amoadd = code 0x2F 2 0x00
atomic_code Amoswap = code 0x2F 2 0x04
atomic_code Lr = code 0x2F 2 0x08
atomic_code Sc = code 0x2F 2 0x0C
atomic_code Amoxor = code 0x2F 2 0x10
atomic_code Amoor = code 0x2F 2 0x20
atomic_code Amoand = code 0x2F 2 0x30
atomic_code Amomin = code 0x2F 2 0x40
atomic_code Amomax = code 0x2F 2 0x50
atomic_code Amominu = code 0x2F 2 0x60
atomic_code Amomaxu = code 0x2F 2 0x70

abbrev pub upper_ops : List UpperOp
upper_ops = Lui ∷ Auipc ∷ []

abbrev pub branch_ops : List BranchOp
branch_ops = Beq ∷ Bne ∷ Blt ∷ Bge ∷ Bltu ∷ Bgeu ∷ []

abbrev pub load_ops : List LoadOp
load_ops = Lb ∷ Lh ∷ Lw ∷ Ld ∷ Lbu ∷ Lhu ∷ Lwu ∷ []

abbrev pub store_ops : List StoreOp
store_ops = Sb ∷ Sh ∷ Sw ∷ Sd ∷ []

abbrev pub imm_ops : List ImmOp
imm_ops = Addi ∷ Slti ∷ Sltiu ∷ Xori ∷ Ori ∷ Andi ∷ Addiw ∷ []

abbrev pub shift_ops : List ShiftOp
shift_ops = Slli ∷ Srli ∷ Srai ∷ Slliw ∷ Srliw ∷ Sraiw ∷ []

abbrev pub register_ops : List RegOp
register_ops =
    Add ∷ Sll ∷ Slt ∷ Sltu ∷ Xor ∷ Srl ∷ Or ∷ And ∷ Sub ∷ Sra ∷ Mul ∷ Mulh ∷ Mulhsu ∷ Mulhu ∷ Div
    ∷ Divu ∷ Rem ∷ Remu ∷ Addw ∷ Sllw ∷ Srlw ∷ Subw ∷ Sraw ∷ Mulw ∷ Divw ∷ Divuw ∷ Remw ∷ Remuw ∷ []

abbrev pub atomic_ops : List AtomicOp
atomic_ops =
    Amoadd ∷ Amoswap ∷ Lr ∷ Sc ∷ Amoxor ∷ Amoor ∷ Amoand ∷ Amomin ∷ Amomax ∷ Amominu ∷ Amomaxu ∷ []

abbrev pub is_same_code : Code → Code → Bool
is_same_code a b = a.opcode == b.opcode && a.funct3 == b.funct3 && a.funct7 == b.funct7

-- the operation of a table that has a code, if there is one
abbrev pub operation_with : {Op : Type 0} → (Op → Code) → List Op → Code → Option Op
operation_with code_of ops c = find (λ op. is_same_code (code_of op) c) ops
