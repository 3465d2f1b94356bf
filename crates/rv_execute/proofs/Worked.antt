-- Single instructions, worked out: x5 holds an address, x6 a value that is stored, and x7 is written.
use Rattle.std.proofs.Common.{◌≡◌, ℕ, true, false, [], ◌∷◌, replicate, set, refl, pos}
use Rattle.coz_types.specs.declared.ending.TrapCause.TheVariants.{Misaligned, Access}
use Rattle.rv_decode.specs.declared.Instr.{Instr}
use Rattle.rv_decode.specs.declared.Instr.TheVariants.{Jal, Jalr, Store, Atomic}
use Rattle.rv_decode.specs.declared.StoreOp.TheVariants.{Sb}
use Rattle.rv_decode.specs.declared.AtomicOp.TheVariants.{Lr, Sc, Amoadd}
use Rattle.guest_memory.specs.Memory.{read_and_write, byte_at}
use Rattle.rv_execute.specs.declared.hart.HartState.{HartState}
use Rattle.rv_execute.specs.declared.hart.Step.TheVariants.{Fault}
use Rattle.rv_execute.specs.Execution.{Setting, setting, execute, register}

abbrev hart : ℕ → ℕ → HartState
hart address value = record { registers = set (set (replicate 32 0) 5 address) 6 value; pc = 0x10000 }

-- one page may be read and written: that of 0x11000
abbrev before : Setting
before = setting (hart 0x11000 7) (record { image = record { file = []; areas = []; entry = 0x10000; headers = 0; header_count = 0 }; layout = record { brk = 0; map = 0; stack = 4096 }; rights = (0x11, read_and_write) ∷ []; bytes = [] }) []

-- the setting after an instruction of a hart, with the registers that each hart here begins with
abbrev after : ℕ → Instr → Setting → Setting
unfolding execute
after h i s = record (execute h i s).setting { hart = hart 0x11000 7 }

abbrev lr : Instr
lr = Atomic Lr true false false 7 5 0

abbrev sc : Instr
sc = Atomic Sc true false false 7 5 6

abbrev sb : Instr
sb = Store Sb 5 6 (pos 7)

-- what sc puts into x7, and the lowest byte of the memory after it
abbrev conditional : Setting → ℕ × ℕ
unfolding execute
conditional s = (register (execute 0 sc s).setting.hart 7, byte_at (execute 0 sc s).setting.memory 0x11000)

stored : conditional (after 0 lr before) ≡ (0, 7)
unfolding execute
stored = refl

touched : conditional (after 1 sb (after 0 lr before)) ≡ (1, 0)
unfolding execute
touched = refl

again : conditional (after 0 sc (after 0 lr before)) ≡ (1, 7)
unfolding execute
again = refl

reserved_by_another : conditional (after 1 lr before) ≡ (1, 0)
unfolding execute
reserved_by_another = refl

-- a page that may only be read
abbrev read_alone : ℕ → Setting
read_alone address = setting (hart address 7) (record before.memory { rights = (0x13, record { read = true; write = false; execute = false }) ∷ [] }) []

misaligned_first : (execute 0 sc (read_alone 0x13004)).step ≡ Fault Misaligned
unfolding execute
misaligned_first = refl

unwritable : (execute 0 sc (read_alone 0x13000)).step ≡ Fault Access
unfolding execute
unwritable = refl

unwritable_exchange : execute 0 (Atomic Amoadd true false false 7 5 6) (read_alone 0x13000) ≡ record { setting = read_alone 0x13000; step = Fault Access }
unfolding execute
unwritable_exchange = refl

-- jalr reads its base before it writes the link
linked : (execute 0 (Jalr 5 5 (pos 5)) before).setting.hart ≡ record { registers = set (set (replicate 32 0) 5 0x10004) 6 7; pc = 0x11004 }
unfolding execute
linked = refl

-- a jump to an address that isn't a multiple of 4 writes no link
not_linked : execute 0 (Jal 7 (pos 2)) before ≡ record { setting = before; step = Fault Misaligned }
unfolding execute
not_linked = refl
