-- The effect of one instruction (RISC-V unprivileged manual, chapters RV32I, RV64I, M and A).
use Rattle.std.specs.Prelude.{◌≡◌, ℕ, ◌*◌, ◌/◌, ◌%◌, ◌^◌, Bool, if◌then◌else◌, ◌==◌, ℤ, slice_index, slice_set, Some, None}
use Rattle.coz_types.specs.declared.ending.TrapCause.{TrapCause}
use Rattle.coz_types.specs.declared.ending.TrapCause.TheVariants.{Misaligned, Access, Break}
use Rattle.rv_decode.specs.declared.Instr.{Instr}
use Rattle.rv_decode.specs.declared.Instr.TheVariants.{Upper, Jal, Jalr, Branch, Load, Store, Imm, Shift, Reg, Atomic, Fence, Ecall, Ebreak}
use Rattle.rv_decode.specs.declared.LoadOp.{LoadOp}
use Rattle.rv_decode.specs.declared.LoadOp.TheVariants.{Lb, Lh, Lw, Ld, Lbu, Lhu, Lwu}
use Rattle.rv_decode.specs.declared.StoreOp.{StoreOp}
use Rattle.rv_decode.specs.declared.StoreOp.TheVariants.{Sb, Sh, Sw, Sd}
use Rattle.rv_decode.specs.declared.AtomicOp.{AtomicOp}
use Rattle.rv_decode.specs.declared.AtomicOp.TheVariants.{Lr, Sc}
use Rattle.rv_decode.specs.Fields.{twos_complement}
use Rattle.rv_alu.specs.Operations.{extension, sum, register_result, immediate_result, shift_result, upper_result, is_taken, stored_result}
use Rattle.guest_memory.specs.Memory.{MemoryMap, load, store}
use Rattle.rv_execute.specs.declared.hart.HartState.{HartState}
use Rattle.rv_execute.specs.declared.hart.Step.{Step}
use Rattle.rv_execute.specs.declared.hart.Step.TheVariants.{Next, Call, Fault}
use Rattle.rv_execute.specs.Reservations.{Reservations, with_reservation, without_own, without_touched, is_reserved}

-- what an instruction of a hart reads and changes
pub record Setting : Type 0 where
  pub hart : HartState
  pub memory : MemoryMap
  pub reservations : Reservations

abbrev pub setting : HartState → MemoryMap → Reservations → Setting
setting hart memory reservations = record {
  hart = hart;
  memory = memory;
  reservations = reservations;
}

-- the setting after an instruction, and what follows
pub record Executed : Type 0 where
  pub setting : Setting
  pub step : Step

abbrev pub execution : HartState → MemoryMap → Reservations → Step → Executed
execution hart memory reservations step = record {
  setting = setting hart memory reservations;
  step = step;
}

-- register 0 reads as 0
abbrev pub register : HartState → ℕ → ℕ
register hart r = if r == 0 then 0 else slice_index hart.registers r

-- and is never written
abbrev pub with_register : ℕ → ℕ → HartState → HartState
with_register rd value hart = record hart {
  registers = if rd == 0 then hart.registers else slice_set hart.registers rd value;
}

abbrev pub with_pc : ℕ → HartState → HartState
with_pc pc hart = record hart { pc = pc }

abbrev pub pc_after : HartState → ℕ
pc_after hart = sum 64 hart.pc 4

-- the address that lies so far from another
abbrev pub address_at : ℕ → ℤ → ℕ
address_at base offset = sum 64 base (twos_complement 64 offset)

abbrev pub load_size : LoadOp → ℕ
load_size Lb = 1
load_size Lh = 2
load_size Lw = 4
load_size Ld = 8
load_size Lbu = 1
load_size Lhu = 2
load_size Lwu = 4

-- the register that holds the signed number which the lowest k bits write
abbrev pub low_extended : ℕ → ℕ → ℕ
low_extended k n = extension k (n % 2 ^ k)

-- what a load of a number puts into a register
abbrev pub load_value : LoadOp → ℕ → ℕ
load_value Lb n = low_extended 8 n
load_value Lh n = low_extended 16 n
load_value Lw n = low_extended 32 n
load_value Ld n = n
load_value Lbu n = n
load_value Lhu n = n
load_value Lwu n = n

abbrev pub store_size : StoreOp → ℕ
store_size Sb = 1
store_size Sh = 2
store_size Sw = 4
store_size Sd = 8

abbrev pub atomic_size : Bool → ℕ
atomic_size wide = if wide then 8 else 4

-- what an atomic load of a number puts into a register
abbrev pub atomic_load_value : Bool → ℕ → ℕ
atomic_load_value wide n = if wide then n else low_extended 32 n

module _ (s : Setting) where
  abbrev pub value : ℕ → ℕ
  value r = register s.hart r

  abbrev pub fault : TrapCause → Executed
  fault cause = record { setting = s; step = Fault cause }

  -- the pc moves on
  abbrev pub next : Executed
  next = record { setting = record s { hart = with_pc (pc_after s.hart) s.hart }; step = Next }

-- rd gets a value, and the pc moves on
abbrev pub with_rd : ℕ → ℕ → Setting → Executed
with_rd rd n s = next (record s { hart = with_register rd n s.hart })

-- rd gets the address of the next instruction, and the pc moves to the target
abbrev pub jump : ℕ → ℕ → Setting → Executed
jump rd target s =
    if target % 4 == 0
    then record {
      setting = record s { hart = with_pc target (with_register rd (pc_after s.hart) s.hart) };
      step = Next;
    }
    else fault s Misaligned

abbrev pub branch : Bool → ℕ → Setting → Executed
branch taken target s = if taken then jump 0 target s else next s

abbrev pub load_to : LoadOp → ℕ → ℕ → Setting → Executed
load_to op rd address s =
    elim (load s.memory address (load_size op)) [
      | None ↦ fault s Access
      | Some n ↦ with_rd rd (load_value op n) s
    ]

-- with the memory after a store of `size` bytes at an address
abbrev pub with_store : ℕ → ℕ → MemoryMap → Setting → Setting
with_store address size memory s = record s {
  memory = memory;
  reservations = without_touched address size s.reservations;
}

abbrev pub store_at : ℕ → ℕ → ℕ → Setting → Executed
store_at address size n s =
    elim (store address size n s.memory) [
      | None ↦ fault s Access
      | Some memory ↦ next (with_store address size memory s)
    ]

abbrev pub reserve : ℕ → Bool → ℕ → ℕ → Setting → Executed
reserve h wide rd address s =
    elim (load s.memory address (atomic_size wide)) [
      | None ↦ fault s Access
      | Some n ↦ with_rd rd (atomic_load_value wide n)
          (record s { reservations = with_reservation h address s.reservations })
    ]

-- the store needs the right to write also if the hart has no reservation
abbrev pub store_reserved : Bool → Bool → ℕ → ℕ → ℕ → Setting → Executed
store_reserved reserved wide rd address n s =
    elim (store address (atomic_size wide) n s.memory) [
      | None ↦ fault s Access
      | Some memory ↦ if reserved then with_rd rd 0 (with_store address (atomic_size wide) memory s)
          else with_rd rd 1 s
    ]

-- rd gets the old value, and the result is stored
abbrev pub exchange : AtomicOp → Bool → ℕ → ℕ → ℕ → Setting → Executed
exchange op wide rd address n s =
    elim (load s.memory address (atomic_size wide)) [
      | None ↦ fault s Access
      | Some old ↦ elim (store address (atomic_size wide) (stored_result op wide old n) s.memory) [
        | None ↦ fault s Access
        | Some memory ↦
            with_rd rd (atomic_load_value wide old) (with_store address (atomic_size wide) memory s)
      ]
    ]

-- an atomic at an address that is a multiple of its size
abbrev pub aligned_effect : ℕ → Bool → (Setting → Executed) → Setting → Executed
aligned_effect address wide effect s =
    if address % atomic_size wide == 0 then effect s else fault s Misaligned

-- sc ends the hart's own reservation in every case
abbrev pub atomic : ℕ → AtomicOp → Bool → ℕ → ℕ → ℕ → Setting → Executed
atomic h Lr wide rd address n s = aligned_effect address wide (reserve h wide rd address) s
atomic h Sc wide rd address n s =
    aligned_effect address wide
    (store_reserved (is_reserved h address s.reservations) wide rd address n)
    (record s { reservations = without_own h s.reservations })
atomic h op wide rd address n s = aligned_effect address wide (exchange op wide rd address n) s

-- whatever the memory and the reservations are, the effect leaves them, makes of the old hart
-- the new one, and this step follows
abbrev pub ChangesHart : HartState → HartState → Step → (Setting → Executed) → Type 0
ChangesHart old new step effect =
    (m : MemoryMap) (r : Reservations) → execution new m r step ≡ effect (setting old m r)

-- the effect of an instruction of hart h
unfoldable pub execute : ℕ → Instr → Setting → Executed
execute h (Upper op rd n) s = with_rd rd (upper_result op n s.hart.pc) s
execute h (Jal rd offset) s = jump rd (address_at s.hart.pc offset) s
execute h (Jalr rd rs1 offset) s = jump rd (address_at (value s rs1) offset / 2 * 2) s
execute h (Branch op rs1 rs2 offset) s =
    branch (is_taken op (value s rs1) (value s rs2)) (address_at s.hart.pc offset) s
execute h (Load op rd rs1 offset) s = load_to op rd (address_at (value s rs1) offset) s
execute h (Store op rs1 rs2 offset) s =
    store_at (address_at (value s rs1) offset) (store_size op) (value s rs2) s
execute h (Imm op rd rs1 n) s = with_rd rd (immediate_result op (value s rs1) n) s
execute h (Shift op rd rs1 amount) s = with_rd rd (shift_result op (value s rs1) amount) s
execute h (Reg op rd rs1 rs2) s = with_rd rd (register_result op (value s rs1) (value s rs2)) s
execute h (Atomic op wide aq rl rd rs1 rs2) s = atomic h op wide rd (value s rs1) (value s rs2) s
execute h (Fence rd rs1 bits) s = next s
execute h Ecall s = record { setting = s; step = Call }
execute h Ebreak s = fault s Break
