-- What instructions put into a register is a word of 64 bits.
use Rattle.std.proofs.Common.{◌≡◌, ℕ, ◌+◌, ◌-◌, ◌*◌, ◌/◌, ◌%◌, ◌^◌, ◌<◌, Bool, true, false, if◌then◌else◌, ◌==◌, ℤ, pos, ◌*ℤ◌, int_lt, int_div, int_rem, nat_lt, refl, arith}
use Rattle.std.proofs.lemmas.Bool.Decides.{nat_tests}
use Rattle.std.proofs.lemmas.Nat.{pow_pos, mod_below, div_below, xor_lt, or_lt}
use Rattle.std.specs.Int.Bits.{and_lt}
use Rattle.rv_decode.specs.declared.UpperOp.{UpperOp}
use Rattle.rv_decode.specs.declared.UpperOp.TheVariants.{Lui, Auipc}
use Rattle.rv_decode.specs.declared.ImmOp.{ImmOp}
use Rattle.rv_decode.specs.declared.ImmOp.TheVariants.{Addi, Slti, Sltiu, Xori, Ori, Andi, Addiw}
use Rattle.rv_decode.specs.declared.ShiftOp.{ShiftOp}
use Rattle.rv_decode.specs.declared.ShiftOp.TheVariants.{Slli, Srli, Srai, Slliw, Srliw, Sraiw}
use Rattle.rv_decode.specs.declared.RegOp.{RegOp}
use Rattle.rv_decode.specs.declared.RegOp.TheVariants.{Add, Sll, Slt, Sltu, Xor, Srl, Or, And, Sub, Sra, Mul, Mulh, Mulhsu, Mulhu, Div, Divu, Rem, Remu, Addw, Sllw, Srlw, Subw, Sraw, Mulw, Divw, Divuw, Remw, Remuw}
use Rattle.rv_decode.specs.Fields.{twos_complement, signed_bits}
use Rattle.rv_decode.proofs.Signs.{twos_below}
use Rattle.rv_alu.specs.Operations.{flag, extension, by_halves, sum, difference, product, upper_half, left_shift, right_shift, signed_right_shift, quotient, unsigned_quotient, remainder, unsigned_remainder, is_less, register_result, immediate_result, shift_result, upper_result}

abbrev pub IsWord : ℕ → Type 0
IsWord n = n < 2 ^ 64

pub twos_word : (z : ℤ) → IsWord (twos_complement 64 z)
twos_word z = twos_below 64 refl z

pub mod_word : (n : ℕ) → IsWord (n % 2 ^ 64)
mod_word n = mod_below n (2 ^ 64) (pow_pos 64)

flag_word : (b : Bool) → IsWord (flag b)
flag_word true = omega arith
flag_word false = omega arith

pub extended_word : (k n : ℕ) → IsWord (extension k n)
extended_word k n = twos_word (signed_bits k n)

div_word : (n k : ℕ) → 0 < k → IsWord n → IsWord (n / k)
div_word n k some word = div_below n k (2 ^ 64) some (omega arith)

half_word : (z : ℤ) → IsWord (upper_half z)
half_word z = let below : twos_complement 128 z < 2 ^ 128 = twos_below 128 refl z in div_below (twos_complement 128 z) (2 ^ 64) (2 ^ 64) (pow_pos 64) (omega arith)

chosen_word : (b : Bool) (m n : ℕ) → IsWord m → (b ≡ false → IsWord n) → IsWord (if b then m else n)
chosen_word true m n one two = one
chosen_word false m n one two = two refl

not_zero : (b : ℕ) → (b == 0) ≡ false → 0 < b
not_zero b e = grind (arith, nat_tests, e)

quotient_word : (a b : ℕ) → IsWord (quotient 64 a b)
quotient_word a b = chosen_word (b == 0) (2 ^ 64 - 1) _ (omega arith) (λ e. twos_word (int_div (signed_bits 64 a) (signed_bits 64 b)))

unsigned_quotient_word : (a b : ℕ) → IsWord a → IsWord (unsigned_quotient 64 a b)
unsigned_quotient_word a b word = chosen_word (b == 0) (2 ^ 64 - 1) _ (omega arith) (λ e. div_word a b (not_zero b e) word)

remainder_word : (a b : ℕ) → IsWord a → IsWord (remainder 64 a b)
remainder_word a b word = chosen_word (b == 0) a _ word (λ e. twos_word (int_rem (signed_bits 64 a) (signed_bits 64 b)))

unsigned_remainder_word : (a b : ℕ) → IsWord a → IsWord b → IsWord (unsigned_remainder 64 a b)
unsigned_remainder_word a b word other = chosen_word (b == 0) a _ word (λ e. let less : a % b < b = mod_below a b (not_zero b e) in omega arith)

shifted_word : (a b : ℕ) → IsWord a → IsWord (right_shift 64 a b)
shifted_word a b word = div_word a (2 ^ (b % 64)) (pow_pos (b % 64)) word

halves_word : (operation : ℕ → ℕ → ℕ → ℕ) (a b : ℕ) → IsWord (by_halves operation a b)
halves_word operation a b = extended_word 32 _

pub register_word : (op : RegOp) (a b : ℕ) → IsWord a → IsWord b → IsWord (register_result op a b)
register_word Add a b one two = mod_word (a + b)
register_word Sub a b one two = mod_word (a + 2 ^ 64 - b)
register_word Sll a b one two = mod_word (a * 2 ^ (b % 64))
register_word Srl a b one two = shifted_word a b one
register_word Sra a b one two = twos_word _
register_word Slt a b one two = flag_word (is_less 64 a b)
register_word Sltu a b one two = flag_word (nat_lt a b)
register_word Xor a b one two = xor_lt 64 a b one two
register_word Or a b one two = or_lt 64 a b one two
register_word And a b one two = and_lt 64 a b one two
register_word Mul a b one two = mod_word (a * b)
register_word Mulh a b one two = half_word (signed_bits 64 a *ℤ signed_bits 64 b)
register_word Mulhsu a b one two = half_word (signed_bits 64 a *ℤ pos b)
register_word Mulhu a b one two = half_word (pos a *ℤ pos b)
register_word Div a b one two = quotient_word a b
register_word Divu a b one two = unsigned_quotient_word a b one
register_word Rem a b one two = remainder_word a b one
register_word Remu a b one two = unsigned_remainder_word a b one two
register_word Addw a b one two = halves_word sum a b
register_word Subw a b one two = halves_word difference a b
register_word Sllw a b one two = halves_word left_shift a b
register_word Srlw a b one two = halves_word right_shift a b
register_word Sraw a b one two = halves_word signed_right_shift a b
register_word Mulw a b one two = halves_word product a b
register_word Divw a b one two = halves_word quotient a b
register_word Divuw a b one two = halves_word unsigned_quotient a b
register_word Remw a b one two = halves_word remainder a b
register_word Remuw a b one two = halves_word unsigned_remainder a b

pub immediate_word : (op : ImmOp) (a : ℕ) (z : ℤ) → IsWord a → IsWord (immediate_result op a z)
immediate_word Addi a z word = mod_word (a + twos_complement 64 z)
immediate_word Slti a z word = flag_word (int_lt (signed_bits 64 a) z)
immediate_word Sltiu a z word = flag_word (nat_lt a (twos_complement 64 z))
immediate_word Xori a z word = xor_lt 64 a (twos_complement 64 z) word (twos_word z)
immediate_word Ori a z word = or_lt 64 a (twos_complement 64 z) word (twos_word z)
immediate_word Andi a z word = and_lt 64 a (twos_complement 64 z) word (twos_word z)
immediate_word Addiw a z word = halves_word sum a (twos_complement 64 z)

pub shift_word : (op : ShiftOp) (a n : ℕ) → IsWord a → IsWord (shift_result op a n)
shift_word Slli a n word = mod_word (a * 2 ^ (n % 64))
shift_word Srli a n word = shifted_word a n word
shift_word Srai a n word = twos_word _
shift_word Slliw a n word = halves_word left_shift a n
shift_word Srliw a n word = halves_word right_shift a n
shift_word Sraiw a n word = halves_word signed_right_shift a n

pub upper_word : (op : UpperOp) (value pc : ℕ) → IsWord (upper_result op value pc)
upper_word Lui value pc = extended_word 32 _
upper_word Auipc value pc = mod_word (pc + extension 32 (value * 2 ^ 12))
