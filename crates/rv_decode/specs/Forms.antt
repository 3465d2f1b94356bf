-- What stands in a word of each opcode: the operation of the table that has the word's funct3
-- and funct7, with the fields that stand in the word. The parts of `decode` answer these.
-- What `decode` itself answers is said by the words of instructions alone, in Instructions.
use Rattle.std.specs.Prelude.{ℕ, ◌*◌, Bool, true, false, ◌||◌, if◌then◌else◌, ◌==◌, Option, Some, None}
use Rattle.std.specs.Option.{option_map, option_and_then}
use Rattle.rv_decode.specs.declared.Instr.{Instr}
use Rattle.rv_decode.specs.declared.Instr.TheVariants.{Jalr, Branch, Load, Store, Imm, Shift, Reg, Atomic, Fence, Ecall, Ebreak}
use Rattle.rv_decode.specs.declared.ImmOp.TheVariants.{Addiw}
use Rattle.rv_decode.specs.Fields.{part}
use Rattle.rv_decode.specs.Table.{code, operation_with, branch_code, branch_ops, load_code, load_ops, store_code, store_ops, imm_code, imm_ops, shift_code, shift_ops, register_code, register_ops, atomic_code, atomic_ops}
use Rattle.rv_decode.specs.Instructions.{immediate_in, store_in, branch_in, is_second}

abbrev pub jalr_of : ℕ → Option Instr
jalr_of w =
    if part w 12 3 == 0 then Some (Jalr (part w 7 5) (part w 15 5) (immediate_in w)) else None

abbrev pub branch_of : ℕ → Option Instr
branch_of w =
    option_map
    (λ op. Branch op (part w 15 5) (part w 20 5) (branch_in w))
    (operation_with branch_code branch_ops (code 0x63 (part w 12 3) 0x00))

abbrev pub load_of : ℕ → Option Instr
load_of w =
    option_map
    (λ op. Load op (part w 7 5) (part w 15 5) (immediate_in w))
    (operation_with load_code load_ops (code 0x03 (part w 12 3) 0x00))

abbrev pub store_of : ℕ → Option Instr
store_of w =
    option_map
    (λ op. Store op (part w 15 5) (part w 20 5) (store_in w))
    (operation_with store_code store_ops (code 0x23 (part w 12 3) 0x00))

-- the lowest bit of funct7 is the highest of an amount of 6 bits
abbrev pub shift_of : ℕ → Option Instr
shift_of w =
    option_map
    (λ op. Shift op (part w 7 5) (part w 15 5) (part w 20 6))
    (operation_with shift_code shift_ops (code 0x13 (part w 12 3) (part w 26 6 * 2)))

abbrev pub imm_of : ℕ → Option Instr
imm_of w =
    option_map
    (λ op. Imm op (part w 7 5) (part w 15 5) (immediate_in w))
    (operation_with imm_code imm_ops (code 0x13 (part w 12 3) 0x00))

abbrev pub shift_or_imm_of : ℕ → Option Instr
shift_or_imm_of w = if part w 12 3 == 1 || part w 12 3 == 5 then shift_of w else imm_of w

abbrev pub word_shift_of : ℕ → Option Instr
word_shift_of w =
    option_map
    (λ op. Shift op (part w 7 5) (part w 15 5) (part w 20 5))
    (operation_with shift_code shift_ops (code 0x1B (part w 12 3) (part w 25 7)))

abbrev pub word_shift_or_imm_of : ℕ → Option Instr
word_shift_or_imm_of w =
    if part w 12 3 == 0 then Some (Imm Addiw (part w 7 5) (part w 15 5) (immediate_in w))
    else word_shift_of w

abbrev pub register_of : ℕ → ℕ → Option Instr
register_of opcode w =
    option_map
    (λ op. Reg op (part w 7 5) (part w 15 5) (part w 20 5))
    (operation_with register_code register_ops (code opcode (part w 12 3) (part w 25 7)))

-- the lowest two bits of funct7 are the flags
abbrev pub atomic_with : Bool → ℕ → Option Instr
atomic_with wide w =
    option_and_then
    (λ op. if is_second op (part w 20 5)
    then Some (Atomic op wide (part w 26 1 == 1) (part w 25 1 == 1)
    (part w 7 5) (part w 15 5) (part w 20 5))
    else None)
    (operation_with atomic_code atomic_ops (code 0x2F 2 (part w 27 5 * 4)))

abbrev pub atomic_of : ℕ → Option Instr
atomic_of w =
    if part w 12 3 == 2 then atomic_with false w
    else if part w 12 3 == 3 then atomic_with true w
    else None

abbrev pub fence_of : ℕ → Option Instr
fence_of w =
    if part w 12 3 == 0 then Some (Fence (part w 7 5) (part w 15 5) (part w 20 12)) else None

abbrev pub system_of : ℕ → Option Instr
system_of w = if w == 0x00000073 then Some Ecall else if w == 0x00100073 then Some Ebreak else None
