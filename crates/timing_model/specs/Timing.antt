-- What a machine of the timing model is: the cost of each class of instruction, how many cores
-- there are and how long a slice is, the seed of the jitter, and who pays for code without a line.
use Rattle.std.specs.Prelude.{◌≡◌, ℕ, ◌≤◌, Bool, true, false, Option, Some, None}
use Rattle.rv_decode.specs.declared.Instr.{Instr}
use Rattle.rv_decode.specs.declared.Instr.TheVariants.{Upper, Jal, Jalr, Branch, Load, Store, Imm, Shift, Reg, Atomic, Fence, Ecall, Ebreak}
use Rattle.rv_decode.specs.declared.RegOp.{RegOp}
use Rattle.rv_decode.specs.declared.RegOp.TheVariants.{Mul, Mulh, Mulhsu, Mulhu, Div, Divu, Rem, Remu, Mulw, Divw, Divuw, Remw, Remuw}
use Rattle.cost_table.specs.Costs.{cycles_of}
use Rattle.timing_model.specs.declared.costs.Class.{Class}
use Rattle.timing_model.specs.declared.costs.Class as classes
use Rattle.timing_model.specs.declared.costs.Costs.{Costs}
use Rattle.timing_model.specs.declared.timing.Charge.{Charge}
use Rattle.timing_model.specs.declared.timing.Charge.TheVariants.{Nobody, Last}
use Rattle.timing_model.specs.declared.timing.Timing.{Timing}

abbrev pub class_of_register : RegOp → Class
class_of_register Mul = classes.TheVariants.Multiply
class_of_register Mulh = classes.TheVariants.Multiply
class_of_register Mulhsu = classes.TheVariants.Multiply
class_of_register Mulhu = classes.TheVariants.Multiply
class_of_register Mulw = classes.TheVariants.Multiply
class_of_register Div = classes.TheVariants.Divide
class_of_register Divu = classes.TheVariants.Divide
class_of_register Rem = classes.TheVariants.Divide
class_of_register Remu = classes.TheVariants.Divide
class_of_register Divw = classes.TheVariants.Divide
class_of_register Divuw = classes.TheVariants.Divide
class_of_register Remw = classes.TheVariants.Divide
class_of_register Remuw = classes.TheVariants.Divide
class_of_register _ = classes.TheVariants.Integer

-- the class of an instruction
abbrev pub class_of_instruction : Instr → Class
class_of_instruction (Upper op rd value) = classes.TheVariants.Integer
class_of_instruction (Jal rd offset) = classes.TheVariants.Jump
class_of_instruction (Jalr rd rs1 offset) = classes.TheVariants.Jump
class_of_instruction (Branch op rs1 rs2 offset) = classes.TheVariants.Integer
class_of_instruction (Load op rd rs1 offset) = classes.TheVariants.Load
class_of_instruction (Store op rs1 rs2 offset) = classes.TheVariants.Integer
class_of_instruction (Imm op rd rs1 value) = classes.TheVariants.Integer
class_of_instruction (Shift op rd rs1 amount) = classes.TheVariants.Integer
class_of_instruction (Reg op rd rs1 rs2) = class_of_register op
class_of_instruction (Atomic op wide aq rl rd rs1 rs2) = classes.TheVariants.Atomic
class_of_instruction (Fence rd rs1 bits) = classes.TheVariants.Jump
class_of_instruction Ecall = classes.TheVariants.Ecall
class_of_instruction Ebreak = classes.TheVariants.Integer

-- None is a word that encodes no instruction, or one that can't be fetched
abbrev pub class_of : Option Instr → Class
class_of (Some i) = class_of_instruction i
class_of None = classes.TheVariants.Integer

-- the cycles of a class
abbrev pub cost_of : Costs → Class → ℕ
cost_of costs class =
    elim class [
      | classes.TheVariants.Integer ↦ costs.integer
      | classes.TheVariants.Jump ↦ costs.jump
      | classes.TheVariants.Load ↦ costs.load
      | classes.TheVariants.Multiply ↦ costs.multiply
      | classes.TheVariants.Atomic ↦ costs.atomic
      | classes.TheVariants.Divide ↦ costs.divide
      | classes.TheVariants.Ecall ↦ costs.ecall
    ]

-- the cycles of an instruction
abbrev pub cycles_in : Costs → Option Instr → ℕ
cycles_in costs i = cost_of costs (class_of i)

-- from 1 to 10,000
abbrev pub IsCost : ℕ → Type 0
IsCost cycles = (1 ≤ cycles) × (cycles ≤ 10000)

-- each class has such a cost
abbrev pub AreCosts : Costs → Type 0
AreCosts costs = (class : Class) → IsCost (cost_of costs class)

abbrev pub charges : Charge → Bool
charges Nobody = false
charges Last = true

-- from 1 to 256 cores, slices of 1 to 10^9 cycles, and costs of 1 to 10,000 cycles
pub record IsTiming (t : Timing) : Type 0 where
  pub some_core : 1 ≤ t.cores
  pub few_cores : t.cores ≤ 256
  pub some_slice : 1 ≤ t.slice
  pub short_slice : t.slice ≤ 1000000000
  pub costs : AreCosts t.costs

-- the costs of `cost_table`
abbrev pub usual_costs : Costs
usual_costs = record {
  integer = 1;
  jump = 2;
  load = 3;
  multiply = 3;
  atomic = 8;
  divide = 20;
  ecall = 40;
}

-- the machine of `coz profile`
abbrev pub usual : Timing
usual = record { cores = 256; slice = 100000; costs = usual_costs; charge = Nobody; seed = 0 }

-- A core for each hart, the costs of `cost_table`, nothing charged to another line, and no jitter.
-- The slice does not matter: nobody waits for a core.
pub record IsUsual (t : Timing) : Type 0 where
  pub cores : 256 ≤ t.cores
  pub costs : (i : Option Instr) → cycles_in t.costs i ≡ cycles_of i
  pub charge : charges t.charge ≡ false
  pub seed : t.seed ≡ 0
