use Rattle.std.proofs.Common.{◌≡◌, ap, ◌∙◌}
use Rattle.rv_execute.specs.Execution.{setting, with_rd, register}
use Rattle.rv_alu.specs.Operations.{register_result}
use Rattle.rv_execute.proofs.integer.register.Goals as goal

pub returns : goal.returns
returns c m r =
    let computed : c.register-result.result ≡ register_result c.args.op (register c.args.hart.now c.args.rs1) (register c.args.hart.now c.args.rs2) = rw (c.value.ensures, c.value-2.ensures) at c.register-result.ensures in
    c.put.ensures m r ∙ ap (λ n. with_rd c.args.rd n (setting c.args.hart.now m r)) computed
