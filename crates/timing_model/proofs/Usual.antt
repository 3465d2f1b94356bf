-- The usual machine is within the limits, and has the costs of `cost_table`.
use Rattle.std.proofs.Common.{◌≡◌, Option, Some, None, refl, arith}
use Rattle.rv_decode.specs.declared.Instr.{Instr}
use Rattle.rv_decode.specs.declared.Instr.TheVariants.{Upper, Jal, Jalr, Branch, Load, Store, Imm, Shift, Reg, Atomic, Fence, Ecall, Ebreak}
use Rattle.rv_decode.specs.declared.RegOp.{RegOp}
use Rattle.rv_decode.specs.declared.RegOp.TheVariants as ops
use Rattle.cost_table.specs.Costs.{cycles_of, register_cycles}
use Rattle.timing_model.specs.declared.costs.Class.{Class}
use Rattle.timing_model.specs.declared.costs.Class.TheVariants as classes
use Rattle.timing_model.specs.Timing.{class_of_register, cost_of, cycles_in, usual_costs, usual, IsCost, IsTiming, IsUsual}

register_same : (op : RegOp) → cost_of usual_costs (class_of_register op) ≡ register_cycles op
register_same ops.Add = refl
register_same ops.Sll = refl
register_same ops.Slt = refl
register_same ops.Sltu = refl
register_same ops.Xor = refl
register_same ops.Srl = refl
register_same ops.Or = refl
register_same ops.And = refl
register_same ops.Sub = refl
register_same ops.Sra = refl
register_same ops.Mul = refl
register_same ops.Mulh = refl
register_same ops.Mulhsu = refl
register_same ops.Mulhu = refl
register_same ops.Div = refl
register_same ops.Divu = refl
register_same ops.Rem = refl
register_same ops.Remu = refl
register_same ops.Addw = refl
register_same ops.Sllw = refl
register_same ops.Srlw = refl
register_same ops.Subw = refl
register_same ops.Sraw = refl
register_same ops.Mulw = refl
register_same ops.Divw = refl
register_same ops.Divuw = refl
register_same ops.Remw = refl
register_same ops.Remuw = refl

pub costs_same : (i : Option Instr) → cycles_in usual_costs i ≡ cycles_of i
costs_same None = refl
costs_same (Some (Upper op rd value)) = refl
costs_same (Some (Jal rd offset)) = refl
costs_same (Some (Jalr rd rs1 offset)) = refl
costs_same (Some (Branch op rs1 rs2 offset)) = refl
costs_same (Some (Load op rd rs1 offset)) = refl
costs_same (Some (Store op rs1 rs2 offset)) = refl
costs_same (Some (Imm op rd rs1 value)) = refl
costs_same (Some (Shift op rd rs1 amount)) = refl
costs_same (Some (Reg op rd rs1 rs2)) = register_same op
costs_same (Some (Atomic op wide aq rl rd rs1 rs2)) = refl
costs_same (Some (Fence rd rs1 bits)) = refl
costs_same (Some Ecall) = refl
costs_same (Some Ebreak) = refl

-- it is the machine of `coz profile`
pub usual_is : IsUsual usual
usual_is = record { cores = omega arith; costs = costs_same; charge = refl; seed = refl }

costs_few : (class : Class) → IsCost (cost_of usual_costs class)
costs_few classes.Integer = (omega arith, omega arith)
costs_few classes.Jump = (omega arith, omega arith)
costs_few classes.Load = (omega arith, omega arith)
costs_few classes.Multiply = (omega arith, omega arith)
costs_few classes.Atomic = (omega arith, omega arith)
costs_few classes.Divide = (omega arith, omega arith)
costs_few classes.Ecall = (omega arith, omega arith)

pub usual_within : IsTiming usual
usual_within = record { some_core = omega arith; few_cores = omega arith; some_slice = omega arith; short_slice = omega arith; costs = costs_few }
