use Rattle.std.proofs.Common.{Some, arith}
use Rattle.coz_serve.proofs.Served.{serves}
use Rattle.program_load.specs.Answer.{fault_line, fault_status, shared_fault}
use Rattle.program_load.specs.Faults.{step_is_fault}
use Rattle.hot_cli.specs.Answer.{text_in}
use Rattle.hot_cli.specs.Program.{hot_program, hot_status}
use Rattle.hot_cli.proofs.Budgets.{run_budget}
use Rattle.hot_cli.proofs.Judging.{answer_judged}
use Rattle.hot_cli.proofs.top.serve_request.Goals as goal

pub judge_hot-answer-requires-clause-some_budget : goal.judge_hot-answer-requires-clause-some_budget
judge_hot-answer-requires-clause-some_budget g c = (run_budget c.args.request.now.run c.requires.fit c.requires.run).0

pub judge_hot-answer-requires-clause-few : goal.judge_hot-answer-requires-clause-few
judge_hot-answer-requires-clause-few g c = (run_budget c.args.request.now.run c.requires.fit c.requires.run).1

pub returns-clause-serves : goal.returns-clause-serves
returns-clause-serves g c =
    let told = g.F.Files.held c.args.files.now in
    let before = g.F.Files.faults c.args.files.now in
    let now = g.F.Files.faults c.judge_hot-answer.new.files in
    let judged = c.judge_hot-answer.ensures in
    serves (hot_program (Some c.args.request.now)) hot_status text_in fault_status fault_line shared_fault told before now _ _ _ _ _ _ _ _ _
    (omega arith) step_is_fault (omega arith) c.judge_hot-answer.result
    (answer_judged told before now c.args.request.now c.judge_hot-answer.result judged.fault_of_request judged.verdict judged.read_fault_has_cause judged.no_fault)
    c.serve_with-status.ensures.written
