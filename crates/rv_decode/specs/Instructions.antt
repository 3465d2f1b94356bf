-- Instructions and their words of 32 bits.
-- Source: The RISC-V Instruction Set Manual, Volume I, "Base Instruction Formats" and "Immediate
-- Encoding Variants".
use Rattle.std.specs.Prelude.{◌≡◌, ℕ, ◌+◌, ◌*◌, ◌%◌, ◌^◌, Bool, true, ◌&&◌, if◌then◌else◌, nat_lt, ◌==◌, ℤ, List, [], ◌∷◌, ◌++◌, map, filter, find, Option, Some, None, IsTrue, ◌≢◌, ◌↔◌}
use Rattle.rv_decode.specs.declared.Instr.{Instr}
use Rattle.rv_decode.specs.declared.Instr.TheVariants.{Upper, Jal, Jalr, Branch, Load, Store, Imm, Shift, Reg, Atomic, Fence, Ecall, Ebreak}
use Rattle.rv_decode.specs.declared.ShiftOp.{ShiftOp}
use Rattle.rv_decode.specs.declared.ShiftOp.TheVariants.{Slli, Srli, Srai, Slliw, Srliw, Sraiw}
use Rattle.rv_decode.specs.declared.AtomicOp.{AtomicOp}
use Rattle.rv_decode.specs.declared.AtomicOp.TheVariants.{Lr}
use Rattle.rv_decode.specs.Fields.{part, twos_complement, signed_bits, is_signed, is_even}
use Rattle.rv_decode.specs.Table.{Code, upper_code, branch_code, load_code, store_code, imm_code, shift_code, register_code, atomic_code, upper_ops, branch_ops, load_ops, store_ops, imm_ops, shift_ops, register_ops, atomic_ops}

-- the fields of a word, each shifted to its position
abbrev pub code_field : Code → ℕ
code_field c = c.opcode + c.funct3 * 2 ^ 12 + c.funct7 * 2 ^ 25

abbrev pub rd_field : ℕ → ℕ
rd_field r = r * 2 ^ 7

abbrev pub rs1_field : ℕ → ℕ
rs1_field r = r * 2 ^ 15

abbrev pub rs2_field : ℕ → ℕ
rs2_field r = r * 2 ^ 20

abbrev pub immediate_field : ℤ → ℕ
immediate_field z = twos_complement 12 z * 2 ^ 20

abbrev pub store_field : ℤ → ℕ
store_field z = let n = twos_complement 12 z in n % 2 ^ 5 * 2 ^ 7 + part n 5 7 * 2 ^ 25

abbrev pub branch_field : ℤ → ℕ
branch_field z = let n = twos_complement 13 z in
    part n 11 1 * 2 ^ 7 + part n 1 4 * 2 ^ 8 + part n 5 6 * 2 ^ 25 + part n 12 1 * 2 ^ 31

abbrev pub jump_field : ℤ → ℕ
jump_field z = let n = twos_complement 21 z in
    part n 12 8 * 2 ^ 12 + part n 11 1 * 2 ^ 20 + part n 1 10 * 2 ^ 21 + part n 20 1 * 2 ^ 31

abbrev pub flag_field : Bool → ℕ → ℕ
flag_field flag shift = if flag then 2 ^ shift else 0

-- the word of an instruction
abbrev pub word_of : Instr → ℕ
word_of (Upper op rd value) = code_field (upper_code op) + rd_field rd + value * 2 ^ 12
word_of (Jal rd offset) = 0x6F + rd_field rd + jump_field offset
word_of (Jalr rd rs1 offset) = 0x67 + rd_field rd + rs1_field rs1 + immediate_field offset
word_of (Branch op rs1 rs2 offset) =
    code_field (branch_code op) + rs1_field rs1 + rs2_field rs2 + branch_field offset
word_of (Load op rd rs1 offset) =
    code_field (load_code op) + rd_field rd + rs1_field rs1 + immediate_field offset
word_of (Store op rs1 rs2 offset) =
    code_field (store_code op) + rs1_field rs1 + rs2_field rs2 + store_field offset
word_of (Imm op rd rs1 value) =
    code_field (imm_code op) + rd_field rd + rs1_field rs1 + immediate_field value
word_of (Shift op rd rs1 amount) =
    code_field (shift_code op) + rd_field rd + rs1_field rs1 + amount * 2 ^ 20
word_of (Reg op rd rs1 rs2) =
    code_field (register_code op) + rd_field rd + rs1_field rs1 + rs2_field rs2
word_of (Atomic op wide aq rl rd rs1 rs2) =
    code_field (atomic_code op) + flag_field wide 12 + flag_field aq 26 + flag_field rl 25
    + rd_field rd + rs1_field rs1 + rs2_field rs2
word_of (Fence rd rs1 bits) = 0x0F + rd_field rd + rs1_field rs1 + bits * 2 ^ 20
word_of Ecall = 0x00000073
word_of Ebreak = 0x00100073

abbrev pub is_register : ℕ → Bool
is_register r = nat_lt r 32

-- the bits that the amount of a shift has
abbrev pub amount_bits : ShiftOp → ℕ
amount_bits Slli = 6
amount_bits Srli = 6
amount_bits Srai = 6
amount_bits Slliw = 5
amount_bits Srliw = 5
amount_bits Sraiw = 5

-- a load that reserves has no second operand
abbrev pub is_second : AtomicOp → ℕ → Bool
is_second Lr r = r == 0
is_second _ r = is_register r

-- the fields of an instruction are in range
abbrev pub is_in_range : Instr → Bool
is_in_range (Upper op rd value) = is_register rd && nat_lt value (2 ^ 20)
is_in_range (Jal rd offset) = is_register rd && is_signed 21 offset && is_even offset
is_in_range (Jalr rd rs1 offset) = is_register rd && is_register rs1 && is_signed 12 offset
is_in_range (Branch op rs1 rs2 offset) =
    is_register rs1 && is_register rs2 && is_signed 13 offset && is_even offset
is_in_range (Load op rd rs1 offset) = is_register rd && is_register rs1 && is_signed 12 offset
is_in_range (Store op rs1 rs2 offset) = is_register rs1 && is_register rs2 && is_signed 12 offset
is_in_range (Imm op rd rs1 value) = is_register rd && is_register rs1 && is_signed 12 value
is_in_range (Shift op rd rs1 amount) =
    is_register rd && is_register rs1 && nat_lt amount (2 ^ amount_bits op)
is_in_range (Reg op rd rs1 rs2) = is_register rd && is_register rs1 && is_register rs2
is_in_range (Atomic op wide aq rl rd rs1 rs2) =
    is_register rd && is_register rs1 && is_second op rs2
is_in_range (Fence rd rs1 bits) = is_register rd && is_register rs1 && nat_lt bits (2 ^ 12)
is_in_range Ecall = true
is_in_range Ebreak = true

abbrev pub InRange : Instr → Type 0
InRange i = IsTrue (is_in_range i)

-- i is the instruction whose word is w
abbrev pub HasWord : ℕ → Instr → Type 0
HasWord w i = InRange i × (word_of i ≡ w)

-- the instruction's word is w
abbrev pub has_word : ℕ → Instr → Bool
has_word w i = is_in_range i && word_of i == w

-- the signed numbers that stand in a word
abbrev pub immediate_in : ℕ → ℤ
immediate_in w = signed_bits 12 (part w 20 12)

abbrev pub store_in : ℕ → ℤ
store_in w = signed_bits 12 (part w 7 5 + part w 25 7 * 2 ^ 5)

abbrev pub branch_in : ℕ → ℤ
branch_in w =
    signed_bits 13
    (part w 8 4 * 2 + part w 25 6 * 2 ^ 5 + part w 7 1 * 2 ^ 11 + part w 31 1 * 2 ^ 12)

abbrev pub jump_in : ℕ → ℤ
jump_in w =
    signed_bits 21 (part w 21 10 * 2 + part w 20 1 * 2 ^ 11 + part w 12 8 * 2 ^ 12
    + part w 31 1 * 2 ^ 20)

-- the operations of a table that have the opcode of a word
abbrev pub operations_at : {Op : Type 0} → (Op → Code) → List Op → ℕ → List Op
operations_at code_of ops w = filter (λ op. (code_of op).opcode == part w 0 7) ops

-- each instruction of the table that has the opcode of a word, with the fields that stand
-- in the word; and those that have no table
abbrev pub candidates : ℕ → List Instr
candidates w =
    let rd = part w 7 5 in
    let rs1 = part w 15 5 in
    let rs2 = part w 20 5 in
    map (λ op. Upper op rd (part w 12 20)) (operations_at upper_code upper_ops w)
    ++ map (λ op. Branch op rs1 rs2 (branch_in w)) (operations_at branch_code branch_ops w)
    ++ map (λ op. Load op rd rs1 (immediate_in w)) (operations_at load_code load_ops w)
    ++ map (λ op. Store op rs1 rs2 (store_in w)) (operations_at store_code store_ops w)
    ++ map (λ op. Imm op rd rs1 (immediate_in w)) (operations_at imm_code imm_ops w)
    ++ map (λ op. Shift op rd rs1 (part w 20 (amount_bits op)))
    (operations_at shift_code shift_ops w)
    ++ map (λ op. Reg op rd rs1 rs2) (operations_at register_code register_ops w)
    ++ map (λ op. Atomic op (part w 12 1 == 1) (part w 26 1 == 1) (part w 25 1 == 1) rd rs1 rs2)
    (operations_at atomic_code atomic_ops w)
    ++ Jal rd (jump_in w)
    ∷ Jalr rd rs1 (immediate_in w)
    ∷ Fence rd rs1 (part w 20 12)
    ∷ Ecall
    ∷ Ebreak
    ∷ []

-- the instruction that has a word, if there is one
abbrev pub instruction_of : ℕ → Option Instr
instruction_of w = find (has_word w) (candidates w)

-- what decoding a word answers: the instruction that has the word, or None if none has it
abbrev pub IsDecoded : ℕ → Option Instr → Type 0
IsDecoded w (Some i) = HasWord w i
IsDecoded w None = (i : Instr) → InRange i → word_of i ≢ w

-- what decoding a word answers: an instruction exactly if that instruction has the word
abbrev pub IsInstructionOf : ℕ → Option Instr → Type 0
IsInstructionOf w found = (i : Instr) → (found ≡ Some i) ↔ HasWord w i
