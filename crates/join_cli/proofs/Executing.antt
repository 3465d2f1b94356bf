-- An instruction leaves words in the registers and bytes in the memory.
use Rattle.std.proofs.Common.{ℕ, zero, suc, ◌+◌, ◌*◌, ◌/◌, ◌%◌, ◌^◌, ◌<◌, Bool, true, false, not, cond, if◌then◌else◌, ◌==◌, nat_lt, List, [], ◌∷◌, filter, get_or, set, Option, Some, None, unwrap_or, arith}
use Rattle.std.specs.Int.{byte_at as byte_of, bytes_low_first}
use Rattle.std.specs.List.{AllByRecursion}
use Rattle.std.proofs.lemmas.Nat.{mod_below}
use Rattle.coz_types.specs.Maps.{Map, value_at, with_value, entries_without}
use Rattle.coz_types.specs.declared.ending.TrapCause.{TrapCause}
use Rattle.coz_types.specs.declared.ending.TrapCause.TheVariants.{Access, Misaligned}
use Rattle.rv_decode.specs.declared.Instr.{Instr}
use Rattle.rv_decode.specs.declared.Instr.TheVariants.{Upper, Jal, Jalr, Branch, Load, Store, Imm, Shift, Reg, Atomic, Fence, Ecall, Ebreak}
use Rattle.rv_decode.specs.declared.LoadOp.{LoadOp}
use Rattle.rv_decode.specs.declared.LoadOp.TheVariants.{Lb, Lh, Lw, Ld, Lbu, Lhu, Lwu}
use Rattle.rv_decode.specs.declared.AtomicOp.{AtomicOp}
use Rattle.rv_decode.specs.declared.AtomicOp.TheVariants.{Amoadd, Amoswap, Lr, Sc, Amoxor, Amoor, Amoand, Amomin, Amomax, Amominu, Amomaxu}
use Rattle.rv_alu.specs.Operations.{stored_result, is_taken}
use Rattle.guest_memory.specs.Memory.{MemoryMap, is_any_byte, byte_at, with_byte, with_bytes, number_at, is_readable, is_writable, load, store, with_number}
use Rattle.rv_execute.specs.declared.hart.HartState.{HartState}
use Rattle.rv_execute.specs.declared.hart.Step.TheVariants.{Next}
use Rattle.rv_execute.specs.Reservations.{is_reserved, with_reservation, without_own}
use Rattle.rv_execute.specs.Execution.{Setting, register, address_at, Executed, execute, next, with_rd, jump, branch, fault, with_pc, with_register, pc_after, load_size, load_value, with_store, reserve, store_reserved, exchange, aligned_effect, atomic, atomic_size, atomic_load_value}
use Rattle.join_cli.proofs.Tables.{AreBytes}
use Rattle.join_cli.proofs.Words.{IsWord, mod_word, extended_word, register_word, immediate_word, shift_word, upper_word}

-- ---- lists

pub either : {X : Type 0} (P : X → Type 0) (b : Bool) (x y : X) → P x → P y → P (cond b x y)
either P true x y p q = p
either P false x y p q = q

pub set_all : {X : Type 0} (P : X → Type 0) (xs : List X) (i : ℕ) (x : X) → AllByRecursion P xs → P x → AllByRecursion P (set xs i x)
set_all P [] i x all one = tt
set_all P (y ∷ xs) zero x all one = (one, all.1)
set_all P (y ∷ xs) (suc i) x all one = (all.0, set_all P xs i x all.1 one)

pub get_all : {X : Type 0} (P : X → Type 0) (xs : List X) (i : ℕ) (x : X) → AllByRecursion P xs → P x → P (get_or xs i x)
get_all P [] i x all one = one
get_all P (y ∷ xs) zero x all one = all.0
get_all P (y ∷ xs) (suc i) x all one = get_all P xs i x all.1 one

pub filter_all : {X : Type 0} (P : X → Type 0) (p : X → Bool) (xs : List X) → AllByRecursion P xs → AllByRecursion P (filter p xs)
filter_all P p [] all = tt
filter_all P p (x ∷ xs) all = by (p x) (filter_all P p xs all.1)
  where
    by : (b : Bool) → AllByRecursion P (filter p xs) → AllByRecursion P (if b then x ∷ filter p xs else filter p xs)
    by true rest = (all.0, rest)
    by false rest = rest

-- ---- bytes of a memory

abbrev IsByte : ℕ × ℕ → Type 0
IsByte e = e.1 < 256

-- each address has a byte
abbrev pub HasOnlyBytes : MemoryMap → Type 0
HasOnlyBytes m = AllByRecursion IsByte m.bytes

value_all : (m : Map ℕ) (k b : ℕ) → AllByRecursion IsByte m → b < 256 → AllByRecursion IsByte (with_value k b m)
value_all [] k b all byte = (byte, tt)
value_all (e ∷ es) k b all byte = by (nat_lt e.0 k) (e.0 == k) (value_all es k b all.1 byte)
  where
    by : (c d : Bool) → AllByRecursion IsByte (with_value k b es) → AllByRecursion IsByte (elim c [ true ↦ e ∷ with_value k b es | false ↦ elim d [ true ↦ (k, b) ∷ es | false ↦ (k, b) ∷ e ∷ es ] ])
    by true d rest = (all.0, rest)
    by false true rest = (byte, all.1)
    by false false rest = (byte, all)

pub without_all : (test : ℕ → Bool) (m : Map ℕ) → AllByRecursion IsByte m → AllByRecursion IsByte (entries_without test m)
without_all test m all = filter_all IsByte (λ e. not (test e.0)) m all

byte_put : (a b : ℕ) (m : MemoryMap) → HasOnlyBytes m → b < 256 → HasOnlyBytes (with_byte a b m)
byte_put a b m all byte = by (is_any_byte b)
  where
    by : (c : Bool) → AllByRecursion IsByte (elim c [ true ↦ with_value a b m.bytes | false ↦ entries_without (λ q. q == a) m.bytes ])
    by true = value_all m.bytes a b all byte
    by false = without_all (λ q. q == a) m.bytes all

pub bytes_put : (a : ℕ) (bytes : List ℕ) (m : MemoryMap) → HasOnlyBytes m → AreBytes bytes → HasOnlyBytes (with_bytes a bytes m)
bytes_put a [] m all are = all
bytes_put a (b ∷ bytes) m all are = bytes_put (a + 1) bytes (with_byte a b m) (byte_put a b m all are.0) are.1

byte_low : (i n : ℕ) → byte_of i n < 256
byte_low zero n = mod_below n 256 (omega arith)
byte_low (suc i) n = mod_below (n / 256 ^ suc i) 256 (omega arith)

pub low_bytes : (i k n : ℕ) → AreBytes (bytes_low_first i k n)
low_bytes i zero n = tt
low_bytes i (suc k) n = (byte_low i n, low_bytes (suc i) k n)

value_low : (m : Map ℕ) (a : ℕ) → AllByRecursion IsByte m → unwrap_or (value_at m a) 0 < 256
value_low [] a all = omega arith
value_low (e ∷ es) a all = by (e.0 == a) (value_low es a all.1)
  where
    by : (c : Bool) → unwrap_or (value_at es a) 0 < 256 → unwrap_or (elim c [ true ↦ Some e.1 | false ↦ value_at es a ]) 0 < 256
    by true rest = all.0
    by false rest = rest

pub read_low : (m : MemoryMap) (a : ℕ) → HasOnlyBytes m → byte_at m a < 256
read_low m a all = value_low m.bytes a all

number_low : (m : MemoryMap) (a n : ℕ) → HasOnlyBytes m → number_at m a n < 256 ^ n
number_low m a zero all = omega arith
number_low m a (suc n) all =
    let one : byte_at m a < 256 = read_low m a all in
    let more : number_at m (a + 1) n < 256 ^ n = number_low m (a + 1) n all in
    omega arith

-- ---- harts

pub record IsFitState (s : HartState) : Type 0 where
  pub registers : AllByRecursion IsWord s.registers
  pub pc : IsWord s.pc

pub value_word : (s : HartState) (r : ℕ) → IsFitState s → IsWord (register s r)
value_word s r fit = either IsWord (r == 0) 0 (get_or s.registers r 0) (omega arith) (get_all IsWord s.registers r 0 fit.registers (omega arith))

pub register_put : (rd n : ℕ) (s : HartState) → IsFitState s → IsWord n → IsFitState (with_register rd n s)
register_put rd n s fit word = record {
  registers = either (AllByRecursion IsWord) (rd == 0) s.registers (set s.registers rd n) fit.registers (set_all IsWord s.registers rd n fit.registers word);
  pc = fit.pc;
}

pub pc_put : (pc : ℕ) (s : HartState) → IsFitState s → IsWord pc → IsFitState (with_pc pc s)
pc_put pc s fit word = record { registers = fit.registers; pc = word }

pub moved_on : (s : HartState) → IsFitState s → IsFitState (with_pc (pc_after s) s)
moved_on s fit = pc_put (pc_after s) s fit (mod_word (s.pc + 4))

-- ---- instructions

pub record IsFitSetting (s : Setting) : Type 0 where
  pub hart : IsFitState s.hart
  pub memory : HasOnlyBytes s.memory

abbrev IsFitAfter : Executed → Type 0
IsFitAfter e = IsFitSetting e.setting

next_fit : (s : Setting) → IsFitSetting s → IsFitAfter (next s)
next_fit s fit = record { hart = moved_on s.hart fit.hart; memory = fit.memory }

put_fit : (rd n : ℕ) (s : Setting) → IsFitSetting s → IsWord n → IsFitAfter (with_rd rd n s)
put_fit rd n s fit word = next_fit (record s { hart = with_register rd n s.hart }) (record { hart = register_put rd n s.hart fit.hart word; memory = fit.memory })

fault_fit : (cause : TrapCause) (s : Setting) → IsFitSetting s → IsFitAfter (fault s cause)
fault_fit cause s fit = fit

jump_fit : (rd target : ℕ) (s : Setting) → IsFitSetting s → IsWord target → IsFitAfter (jump rd target s)
jump_fit rd target s fit word =
    let jumped : Executed = record { setting = record s { hart = with_pc target (with_register rd (pc_after s.hart) s.hart) }; step = Next } in
    either IsFitAfter (target % 4 == 0) jumped (fault s Misaligned)
    (record { hart = pc_put target (with_register rd (pc_after s.hart) s.hart) (register_put rd (pc_after s.hart) s.hart fit.hart (mod_word (s.hart.pc + 4))) word; memory = fit.memory }) (fault_fit Misaligned s fit)

branch_fit : (taken : Bool) (target : ℕ) (s : Setting) → IsFitSetting s → IsWord target → IsFitAfter (branch taken target s)
branch_fit taken target s fit word = either IsFitAfter taken (jump 0 target s) (next s) (jump_fit 0 target s fit word) (next_fit s fit)

-- what is loaded, if it is
abbrev IsLow : ℕ → Option ℕ → Type 0
IsLow size None = Unit {0}
IsLow size (Some n) = n < 256 ^ size

load_low : (m : MemoryMap) (a size : ℕ) → HasOnlyBytes m → IsLow size (load m a size)
load_low m a size all = either (IsLow size) (is_readable m a size) (Some (number_at m a size)) None (number_low m a size all) tt

load_word : (op : LoadOp) (n : ℕ) → n < 256 ^ load_size op → IsWord (load_value op n)
load_word Lb n low = extended_word 8 _
load_word Lh n low = extended_word 16 _
load_word Lw n low = extended_word 32 _
load_word Ld n low = omega arith
load_word Lbu n low = omega arith
load_word Lhu n low = omega arith
load_word Lwu n low = omega arith

atomic_word : (wide : Bool) (n : ℕ) → n < 256 ^ atomic_size wide → IsWord (atomic_load_value wide n)
atomic_word true n low = omega arith
atomic_word false n low = extended_word 32 _

loaded_fit : (rd : ℕ) (op : LoadOp) (o : Option ℕ) (s : Setting) → IsFitSetting s → IsLow (load_size op) o → IsFitAfter (elim o [ None ↦ fault s Access | Some n ↦ with_rd rd (load_value op n) s ])
loaded_fit rd op None s fit low = fit
loaded_fit rd op (Some n) s fit low = put_fit rd (load_value op n) s fit (load_word op n low)

-- a memory after a store, if there is one
abbrev AreKept : Option MemoryMap → Type 0
AreKept None = Unit {0}
AreKept (Some m) = HasOnlyBytes m

store_kept : (m : MemoryMap) (a size n : ℕ) → HasOnlyBytes m → AreKept (store a size n m)
store_kept m a size n all = either AreKept (is_writable m a size) (Some (with_number a size n m)) None (bytes_put a (bytes_low_first 0 size n) m all (low_bytes 0 size n)) tt

stored_fit : (a size : ℕ) (o : Option MemoryMap) (s : Setting) → IsFitSetting s → AreKept o → IsFitAfter (elim o [ None ↦ fault s Access | Some memory ↦ next (with_store a size memory s) ])
stored_fit a size None s fit kept = fit
stored_fit a size (Some m) s fit kept = next_fit (with_store a size m s) (record { hart = fit.hart; memory = kept })

put_stored_fit : (rd n a size : ℕ) (m : MemoryMap) (s : Setting) → IsFitSetting s → IsWord n → HasOnlyBytes m → IsFitAfter (with_rd rd n (with_store a size m s))
put_stored_fit rd n a size m s fit word kept = put_fit rd n (with_store a size m s) (record { hart = fit.hart; memory = kept }) word

reserved_fit : (reserved : Bool) (rd a size : ℕ) (o : Option MemoryMap) (s : Setting) → IsFitSetting s → AreKept o
    → IsFitAfter (elim o [ None ↦ fault s Access | Some memory ↦ cond reserved (with_rd rd 0 (with_store a size memory s)) (with_rd rd 1 s) ])
reserved_fit reserved rd a size None s fit kept = fit
reserved_fit reserved rd a size (Some m) s fit kept =
    either IsFitAfter reserved (with_rd rd 0 (with_store a size m s)) (with_rd rd 1 s) (put_stored_fit rd 0 a size m s fit (omega arith) kept) (put_fit rd 1 s fit (omega arith))

exchanged_fit : (rd n a size : ℕ) (o : Option MemoryMap) (s : Setting) → IsFitSetting s → IsWord n → AreKept o
    → IsFitAfter (elim o [ None ↦ fault s Access | Some memory ↦ with_rd rd n (with_store a size memory s) ])
exchanged_fit rd n a size None s fit word kept = fit
exchanged_fit rd n a size (Some m) s fit word kept = put_stored_fit rd n a size m s fit word kept

reserve_fit : (h : ℕ) (wide : Bool) (rd a : ℕ) (o : Option ℕ) (s : Setting) → IsFitSetting s → IsLow (atomic_size wide) o
    → IsFitAfter (elim o [ None ↦ fault s Access | Some n ↦ with_rd rd (atomic_load_value wide n) (record s { reservations = with_reservation h a s.reservations }) ])
reserve_fit h wide rd a None s fit low = fit
reserve_fit h wide rd a (Some n) s fit low = put_fit rd (atomic_load_value wide n) (record s { reservations = with_reservation h a s.reservations }) (record { hart = fit.hart; memory = fit.memory }) (atomic_word wide n low)

exchange_fit : (op : AtomicOp) (wide : Bool) (rd a n : ℕ) (o : Option ℕ) (s : Setting) → IsFitSetting s → IsLow (atomic_size wide) o
    → IsFitAfter (elim o [
      | None ↦ fault s Access
      | Some old ↦ elim (store a (atomic_size wide) (stored_result op wide old n) s.memory) [
        | None ↦ fault s Access
        | Some memory ↦ with_rd rd (atomic_load_value wide old) (with_store a (atomic_size wide) memory s)
      ]
    ])
exchange_fit op wide rd a n None s fit low = fit
exchange_fit op wide rd a n (Some old) s fit low =
    exchanged_fit rd (atomic_load_value wide old) a (atomic_size wide) (store a (atomic_size wide) (stored_result op wide old n) s.memory) s fit (atomic_word wide old low) (store_kept s.memory a (atomic_size wide) (stored_result op wide old n) fit.memory)

swapped_fit : (op : AtomicOp) (wide : Bool) (rd a n : ℕ) (s : Setting) → IsFitSetting s → IsFitAfter (aligned_effect a wide (exchange op wide rd a n) s)
swapped_fit op wide rd a n s fit =
    either IsFitAfter (a % atomic_size wide == 0) (exchange op wide rd a n s) (fault s Misaligned)
    (exchange_fit op wide rd a n (load s.memory a (atomic_size wide)) s fit (load_low s.memory a (atomic_size wide) fit.memory)) fit

abbrev freed : ℕ → Setting → Setting
freed h s = record s { reservations = without_own h s.reservations }

freed_fit : (h : ℕ) (s : Setting) → IsFitSetting s → IsFitSetting (freed h s)
freed_fit h s fit = record { hart = fit.hart; memory = fit.memory }

atomic_fit : (h : ℕ) (op : AtomicOp) (wide : Bool) (rd a n : ℕ) (s : Setting) → IsFitSetting s → IsFitAfter (atomic h op wide rd a n s)
atomic_fit h Lr wide rd a n s fit =
    either IsFitAfter (a % atomic_size wide == 0) (reserve h wide rd a s) (fault s Misaligned)
    (reserve_fit h wide rd a (load s.memory a (atomic_size wide)) s fit (load_low s.memory a (atomic_size wide) fit.memory)) fit
atomic_fit h Sc wide rd a n s fit =
    either IsFitAfter (a % atomic_size wide == 0) (store_reserved (is_reserved h a s.reservations) wide rd a n (freed h s)) (fault (freed h s) Misaligned)
    (reserved_fit (is_reserved h a s.reservations) rd a (atomic_size wide) (store a (atomic_size wide) n s.memory) (freed h s) (freed_fit h s fit) (store_kept s.memory a (atomic_size wide) n fit.memory))
    (freed_fit h s fit)
atomic_fit h Amoadd wide rd a n s fit = swapped_fit Amoadd wide rd a n s fit
atomic_fit h Amoswap wide rd a n s fit = swapped_fit Amoswap wide rd a n s fit
atomic_fit h Amoxor wide rd a n s fit = swapped_fit Amoxor wide rd a n s fit
atomic_fit h Amoor wide rd a n s fit = swapped_fit Amoor wide rd a n s fit
atomic_fit h Amoand wide rd a n s fit = swapped_fit Amoand wide rd a n s fit
atomic_fit h Amomin wide rd a n s fit = swapped_fit Amomin wide rd a n s fit
atomic_fit h Amomax wide rd a n s fit = swapped_fit Amomax wide rd a n s fit
atomic_fit h Amominu wide rd a n s fit = swapped_fit Amominu wide rd a n s fit
atomic_fit h Amomaxu wide rd a n s fit = swapped_fit Amomaxu wide rd a n s fit

even_word : (n : ℕ) → IsWord n → IsWord (n / 2 * 2)
even_word n word = omega arith

pub execute_fit : (h : ℕ) (i : Instr) (s : Setting) → IsFitSetting s → IsFitAfter (execute h i s)
unfolding execute
execute_fit h (Upper op rd n) s fit = put_fit rd _ s fit (upper_word op n s.hart.pc)
execute_fit h (Jal rd offset) s fit = jump_fit rd (address_at s.hart.pc offset) s fit (mod_word _)
execute_fit h (Jalr rd rs1 offset) s fit = jump_fit rd _ s fit (even_word (address_at (register s.hart rs1) offset) (mod_word _))
execute_fit h (Branch op rs1 rs2 offset) s fit = branch_fit (is_taken op (register s.hart rs1) (register s.hart rs2)) (address_at s.hart.pc offset) s fit (mod_word _)
execute_fit h (Load op rd rs1 offset) s fit = loaded_fit rd op (load s.memory (address_at (register s.hart rs1) offset) (load_size op)) s fit (load_low s.memory (address_at (register s.hart rs1) offset) (load_size op) fit.memory)
execute_fit h (Store op rs1 rs2 offset) s fit = stored_fit _ _ _ s fit (store_kept s.memory _ _ _ fit.memory)
execute_fit h (Imm op rd rs1 n) s fit = put_fit rd _ s fit (immediate_word op (register s.hart rs1) n (value_word s.hart rs1 fit.hart))
execute_fit h (Shift op rd rs1 amount) s fit = put_fit rd _ s fit (shift_word op (register s.hart rs1) amount (value_word s.hart rs1 fit.hart))
execute_fit h (Reg op rd rs1 rs2) s fit = put_fit rd _ s fit (register_word op (register s.hart rs1) (register s.hart rs2) (value_word s.hart rs1 fit.hart) (value_word s.hart rs2 fit.hart))
execute_fit h (Atomic op wide aq rl rd rs1 rs2) s fit = atomic_fit h op wide rd _ _ s fit
execute_fit h (Fence rd rs1 bits) s fit = next_fit s fit
execute_fit h Ecall s fit = fit
execute_fit h Ebreak s fit = fit
