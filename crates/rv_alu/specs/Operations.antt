-- What instructions compute (RISC-V unprivileged manual, chapters RV32I, RV64I, M and A).
-- A register holds a number below 2 ^ 64. An operation is given for numbers of k bits,
-- which are below 2 ^ k.
use Rattle.std.specs.Prelude.{ℕ, ◌+◌, ◌-◌, ◌*◌, ◌/◌, ◌%◌, ◌^◌, Bool, true, false, not, if◌then◌else◌, nat_lt, nat_le, ◌==◌, min, max, ℤ, pos, ◌*ℤ◌, int_lt, int_div, int_rem, bit_and, bit_or, bit_xor}
use Rattle.std.specs.Int.{int_shr, int_min, int_max}
use Rattle.rv_decode.specs.declared.UpperOp.{UpperOp}
use Rattle.rv_decode.specs.declared.UpperOp.TheVariants.{Lui, Auipc}
use Rattle.rv_decode.specs.declared.BranchOp.{BranchOp}
use Rattle.rv_decode.specs.declared.BranchOp.TheVariants.{Beq, Bne, Blt, Bge, Bltu, Bgeu}
use Rattle.rv_decode.specs.declared.ImmOp.{ImmOp}
use Rattle.rv_decode.specs.declared.ImmOp.TheVariants.{Addi, Slti, Sltiu, Xori, Ori, Andi, Addiw}
use Rattle.rv_decode.specs.declared.ShiftOp.{ShiftOp}
use Rattle.rv_decode.specs.declared.ShiftOp.TheVariants.{Slli, Srli, Srai, Slliw, Srliw, Sraiw}
use Rattle.rv_decode.specs.declared.RegOp.{RegOp}
use Rattle.rv_decode.specs.declared.RegOp.TheVariants.{Add, Sll, Slt, Sltu, Xor, Srl, Or, And, Sub, Sra, Mul, Mulh, Mulhsu, Mulhu, Div, Divu, Rem, Remu, Addw, Sllw, Srlw, Subw, Sraw, Mulw, Divw, Divuw, Remw, Remuw}
use Rattle.rv_decode.specs.declared.AtomicOp.{AtomicOp}
use Rattle.rv_decode.specs.declared.AtomicOp.TheVariants.{Amoadd, Amoswap, Lr, Sc, Amoxor, Amoor, Amoand, Amomin, Amomax, Amominu, Amomaxu}
use Rattle.rv_decode.specs.Fields.{twos_complement, signed_bits}

-- 1 or 0
abbrev pub flag : Bool → ℕ
flag b = if b then 1 else 0

-- the register that holds the signed number which k bits write
abbrev pub extension : ℕ → ℕ → ℕ
extension k n = twos_complement 64 (signed_bits k n)

abbrev pub low_half : ℕ → ℕ
low_half n = n % 2 ^ 32

-- an operation of 32 bits: it takes the low halves, and the sign of its result is extended
abbrev pub by_halves : (ℕ → ℕ → ℕ → ℕ) → ℕ → ℕ → ℕ
by_halves operation a b = extension 32 (operation 32 (low_half a) (low_half b))

abbrev pub sum : ℕ → ℕ → ℕ → ℕ
sum k a b = (a + b) % 2 ^ k

abbrev pub difference : ℕ → ℕ → ℕ → ℕ
difference k a b = (a + 2 ^ k - b) % 2 ^ k

abbrev pub product : ℕ → ℕ → ℕ → ℕ
product k a b = a * b % 2 ^ k

-- the upper half of a signed product
abbrev pub upper_half : ℤ → ℕ
upper_half z = twos_complement 128 z / 2 ^ 64

-- a shift is by the lowest bits of the amount
abbrev pub left_shift : ℕ → ℕ → ℕ → ℕ
left_shift k a b = a * 2 ^ (b % k) % 2 ^ k

abbrev pub right_shift : ℕ → ℕ → ℕ → ℕ
right_shift k a b = a / 2 ^ (b % k)

abbrev pub signed_right_shift : ℕ → ℕ → ℕ → ℕ
signed_right_shift k a b = twos_complement k (int_shr (signed_bits k a) (b % k))

-- rounded toward zero; all ones if the divisor is 0
abbrev pub quotient : ℕ → ℕ → ℕ → ℕ
quotient k a b =
    if b == 0 then 2 ^ k - 1 else twos_complement k (int_div (signed_bits k a) (signed_bits k b))

abbrev pub unsigned_quotient : ℕ → ℕ → ℕ → ℕ
unsigned_quotient k a b = if b == 0 then 2 ^ k - 1 else a / b

-- with the sign of the dividend; the dividend if the divisor is 0
abbrev pub remainder : ℕ → ℕ → ℕ → ℕ
remainder k a b =
    if b == 0 then a else twos_complement k (int_rem (signed_bits k a) (signed_bits k b))

abbrev pub unsigned_remainder : ℕ → ℕ → ℕ → ℕ
unsigned_remainder k a b = if b == 0 then a else a % b

abbrev pub is_less : ℕ → ℕ → ℕ → Bool
is_less k a b = int_lt (signed_bits k a) (signed_bits k b)

abbrev pub register_result : RegOp → ℕ → ℕ → ℕ
register_result Add a b = sum 64 a b
register_result Sub a b = difference 64 a b
register_result Sll a b = left_shift 64 a b
register_result Srl a b = right_shift 64 a b
register_result Sra a b = signed_right_shift 64 a b
register_result Slt a b = flag (is_less 64 a b)
register_result Sltu a b = flag (nat_lt a b)
register_result Xor a b = bit_xor a b
register_result Or a b = bit_or a b
register_result And a b = bit_and a b
register_result Mul a b = product 64 a b
register_result Mulh a b = upper_half (signed_bits 64 a *ℤ signed_bits 64 b)
register_result Mulhsu a b = upper_half (signed_bits 64 a *ℤ pos b)
register_result Mulhu a b = upper_half (pos a *ℤ pos b)
register_result Div a b = quotient 64 a b
register_result Divu a b = unsigned_quotient 64 a b
register_result Rem a b = remainder 64 a b
register_result Remu a b = unsigned_remainder 64 a b
register_result Addw a b = by_halves sum a b
register_result Subw a b = by_halves difference a b
register_result Sllw a b = by_halves left_shift a b
register_result Srlw a b = by_halves right_shift a b
register_result Sraw a b = by_halves signed_right_shift a b
register_result Mulw a b = by_halves product a b
register_result Divw a b = by_halves quotient a b
register_result Divuw a b = by_halves unsigned_quotient a b
register_result Remw a b = by_halves remainder a b
register_result Remuw a b = by_halves unsigned_remainder a b

-- with the immediate as a number of 64 bits
abbrev pub immediate_result : ImmOp → ℕ → ℤ → ℕ
immediate_result Addi a z = sum 64 a (twos_complement 64 z)
immediate_result Slti a z = flag (int_lt (signed_bits 64 a) z)
immediate_result Sltiu a z = flag (nat_lt a (twos_complement 64 z))
immediate_result Xori a z = bit_xor a (twos_complement 64 z)
immediate_result Ori a z = bit_or a (twos_complement 64 z)
immediate_result Andi a z = bit_and a (twos_complement 64 z)
immediate_result Addiw a z = by_halves sum a (twos_complement 64 z)

abbrev pub shift_result : ShiftOp → ℕ → ℕ → ℕ
shift_result Slli a n = left_shift 64 a n
shift_result Srli a n = right_shift 64 a n
shift_result Srai a n = signed_right_shift 64 a n
shift_result Slliw a n = by_halves left_shift a n
shift_result Srliw a n = by_halves right_shift a n
shift_result Sraiw a n = by_halves signed_right_shift a n

-- at a pc
abbrev pub upper_result : UpperOp → ℕ → ℕ → ℕ
upper_result Lui value pc = extension 32 (value * 2 ^ 12)
upper_result Auipc value pc = sum 64 pc (extension 32 (value * 2 ^ 12))

-- the branch is taken
abbrev pub is_taken : BranchOp → ℕ → ℕ → Bool
is_taken Beq a b = a == b
is_taken Bne a b = not (a == b)
is_taken Blt a b = is_less 64 a b
is_taken Bge a b = not (is_less 64 a b)
is_taken Bltu a b = nat_lt a b
is_taken Bgeu a b = nat_le b a

-- an atomic operation that loads, computes and stores: neither lr nor sc
abbrev pub is_amo : AtomicOp → Bool
is_amo Lr = false
is_amo Sc = false
is_amo _ = true

-- what an atomic operation on an old value and another, both of k bits, stores; lr stores nothing
abbrev pub atomic_result : AtomicOp → ℕ → ℕ → ℕ → ℕ
atomic_result Amoswap k old b = b
atomic_result Amoadd k old b = sum k old b
atomic_result Amoxor k old b = bit_xor old b
atomic_result Amoand k old b = bit_and old b
atomic_result Amoor k old b = bit_or old b
atomic_result Amomin k old b = twos_complement k (int_min (signed_bits k old) (signed_bits k b))
atomic_result Amomax k old b = twos_complement k (int_max (signed_bits k old) (signed_bits k b))
atomic_result Amominu k old b = min old b
atomic_result Amomaxu k old b = max old b
atomic_result Lr k old b = old
atomic_result Sc k old b = b

-- what it stores at the width of its form: of the low halves at the narrow one
abbrev pub stored_result : AtomicOp → Bool → ℕ → ℕ → ℕ
stored_result op wide old b =
    if wide then atomic_result op 64 old b else atomic_result op 32 (low_half old) (low_half b)
