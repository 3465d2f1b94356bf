use Rattle.std.proofs.Common.{◌≡◌, ap, ◌∙◌, rules}
use Rattle.rv_execute.specs.Execution.{setting, with_rd, register}
use Rattle.rv_alu.specs.Operations.{immediate_result}
use Rattle.rv_execute.proofs.integer.immediate.Goals as goal

pub returns : goal.returns
returns c m r =
    let computed : c.immediate-result.result ≡ immediate_result c.args.op (register c.args.hart.now c.args.rs1) c.args.field = search rules in
    c.put.ensures m r ∙ ap (λ n. with_rd c.args.rd n (setting c.args.hart.now m r)) computed
