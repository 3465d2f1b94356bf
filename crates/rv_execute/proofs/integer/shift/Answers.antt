use Rattle.std.proofs.Common.{◌≡◌, ap, ◌∙◌}
use Rattle.rv_execute.specs.Execution.{setting, with_rd, register}
use Rattle.rv_alu.specs.Operations.{shift_result}
use Rattle.rv_execute.proofs.integer.shift.Goals as goal

pub returns : goal.returns
returns c m r =
    let computed : c.shift-result.result ≡ shift_result c.args.op (register c.args.hart.now c.args.rs1) c.args.amount = c.shift-result.ensures ∙ ap (λ n. shift_result c.args.op n c.args.amount) c.value.ensures in
    c.put.ensures m r ∙ ap (λ n. with_rd c.args.rd n (setting c.args.hart.now m r)) computed
