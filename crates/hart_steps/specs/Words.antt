-- What a hart finds at its pc.
use Rattle.std.specs.Prelude.{ℕ, ◌≡◌, ◌*◌, ◌≤◌, Bool, true, false, Option, Some, None, Result, Ok, Err, IfSome}
use Rattle.coz_types.specs.declared.ending.TrapCause.{TrapCause}
use Rattle.coz_types.specs.declared.ending.TrapCause.TheVariants.{Fetch, Illegal}
use Rattle.cost_table.specs.declared.TheConstants.{MAX_TICKS}
use Rattle.cost_table.specs.Costs.{cycles_of}
use Rattle.guest_memory.specs.Memory.{MemoryMap, fetch}
use Rattle.rv_decode.specs.declared.Instr.{Instr}
use Rattle.rv_decode.specs.declared.Instr.TheVariants.{Store, Atomic}
use Rattle.rv_decode.specs.Instructions.{instruction_of, InRange}
use Rattle.hart_steps.specs.declared.code.Word.{Word}

-- the instruction of a word that was fetched, or why there is none
abbrev pub decoded : Option Instr → Result Instr TrapCause
decoded None = Err Illegal
decoded (Some i) = Ok i

-- None is a word that can't be fetched
abbrev pub found : Option ℕ → Result Instr TrapCause
found None = Err Fetch
found (Some w) = decoded (instruction_of w)

-- an instruction that may change the memory
abbrev pub is_storing : Instr → Bool
is_storing (Store op rs1 rs2 offset) = true
is_storing (Atomic op wide aq rl rd rs1 rs2) = true
is_storing i = false

abbrev pub may_store : Option Instr → Bool
may_store None = false
may_store (Some i) = is_storing i

-- it is decoded, and its ticks are those of its instruction
pub record IsWord (word : Word) : Type 0 where
  pub instr : word.instr ≡ instruction_of word.raw
  pub ticks : word.ticks ≡ 100 * cycles_of word.instr
  pub few : word.ticks ≤ MAX_TICKS
  pub fields : IfSome word.instr InRange
  pub stores : word.stores ≡ may_store word.instr

-- it is what is fetched from an address
pub record IsWordAt (m : MemoryMap) (a : ℕ) (word : Word) : Type 0 where
  pub fetched : fetch m a ≡ Some word.raw
  pub is : IsWord word
