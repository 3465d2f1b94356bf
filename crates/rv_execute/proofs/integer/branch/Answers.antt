use Rattle.std.proofs.Common.{◌≡◌, rules, true, false}
use Rattle.rv_execute.specs.Execution.{setting, execution, jump, register, address_at}
use Rattle.rv_alu.specs.Operations.{is_taken}
use Rattle.rv_execute.proofs.integer.branch.Goals as goal

pub returns-then-taken : goal.returns-then-taken
returns-then-taken c m r =
    let goes : is_taken c.args.op (register c.args.hart.now c.args.rs1) (register c.args.hart.now c.args.rs2) ≡ true = search rules in
    let went : execution c.jal.new.hart m r c.jal.result ≡ jump 0 (address_at c.args.hart.now.pc c.args.offset) (setting c.args.hart.now m r) = let e = c.jal.ensures m r in search (rules, e) in
    rw goes went

pub returns-else-taken : goal.returns-else-taken
returns-else-taken c m r =
    let stays : is_taken c.args.op (register c.args.hart.now c.args.rs1) (register c.args.hart.now c.args.rs2) ≡ false = search rules in
    rw stays (c.proceed.ensures m r)
