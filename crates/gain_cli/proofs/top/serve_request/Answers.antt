use Rattle.std.proofs.Common.{Some, arith}
use Rattle.coz_serve.proofs.Served.{serves}
use Rattle.program_load.specs.Answer.{fault_line, fault_status, shared_fault}
use Rattle.program_load.specs.Faults.{step_is_fault}
use Rattle.gain_cli.specs.Answer.{status_in, text_in}
use Rattle.gain_cli.specs.Program.{gain_program}
use Rattle.gain_cli.proofs.Judging.{answer_judged}
use Rattle.gain_cli.proofs.top.serve_request.Goals as goal

pub returns-clause-serves : goal.returns-clause-serves
returns-clause-serves g c =
    let told = g.F.Files.held c.args.files.now in
    let before = g.F.Files.faults c.args.files.now in
    let now = g.F.Files.faults c.judge_gain-answer.new.files in
    let judged = c.judge_gain-answer.ensures in
    serves (gain_program (Some c.args.request.now)) status_in text_in fault_status fault_line shared_fault told before now _ _ _ _ _ _ _ _ _
    (omega arith) step_is_fault (omega arith) c.judge_gain-answer.result
    (answer_judged told before now c.args.request.now c.judge_gain-answer.result judged.fault_of_request judged.verdict judged.read_fault_has_cause judged.no_fault)
    c.serve_with-status.ensures.written
