use Rattle.std.proofs.Common.{rules}
use Rattle.rv_execute.specs.Execution.{execute}
use Rattle.rv_execute.proofs.effect.Goals as goal

pub returns-in-Upper : goal.returns-in-Upper
unfolding execute
returns-in-Upper c = rw c.in-Upper.is (c.upper.ensures _ _)

pub returns-in-Shift : goal.returns-in-Shift
unfolding execute
returns-in-Shift c = rw c.in-Shift.is (c.shift.ensures _ _)

pub returns-in-Reg : goal.returns-in-Reg
unfolding execute
returns-in-Reg c = rw c.in-Reg.is (c.register.ensures _ _)

pub returns-in-Fence : goal.returns-in-Fence
unfolding execute
returns-in-Fence c = rw c.in-Fence.is (c.proceed.ensures _ _)

pub returns-in-Branch : goal.returns-in-Branch
unfolding execute
returns-in-Branch c =
    let e = c.branch-hart.ensures c.args.memory.now c.args.reservations.now in
    rw c.in-Branch.is (search (rules, e))

pub returns-in-Imm : goal.returns-in-Imm
unfolding execute
returns-in-Imm c =
    let e = c.immediate.ensures c.args.memory.now c.args.reservations.now in
    rw c.in-Imm.is (search (rules, e))
