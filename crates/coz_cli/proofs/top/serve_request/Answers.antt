use Rattle.std.proofs.Common.{Some, arith}
use Rattle.coz_serve.proofs.Served.{serves}
use Rattle.program_load.specs.Answer.{fault_line, fault_status, shared_fault}
use Rattle.program_load.specs.Faults.{step_is_fault}
use Rattle.coz_cli.specs.Program.{coz_program}
use Rattle.coz_cli.proofs.Served.{status_of, text_of, answer_judged, trial_status}
use Rattle.coz_cli.proofs.top.serve_request.Goals as goal

pub returns-clause-serves : goal.returns-clause-serves
returns-clause-serves g c =
    let told = g.F.Files.held c.args.files.now in
    let before = g.F.Files.faults c.args.files.now in
    let now = g.F.Files.faults c.judge-answer.new.files in
    let judged = c.judge-answer.ensures in
    serves (coz_program (Some c.args.request.now)) status_of text_of fault_status fault_line shared_fault told before now _ _ _ _ _ _ _ _ _
    (omega arith) step_is_fault (omega arith) c.judge-answer.result
    (answer_judged told before now c.args.request.now c.judge-answer.result judged.fault_of_request judged.verdict judged.read_fault_has_cause judged.no_fault)
    c.serve_with-status.ensures.written

pub returns-clause-trial : goal.returns-clause-trial
returns-clause-trial g c = λ trial.
    let judged = c.judge-answer.ensures in
    let of = judged.trial trial in
    (of.0, trial_status _ _ _ _ _ _ _ _ _ _ c.judge-answer.result c.args.request.now judged.fault_of_request of.1 c.serve_with-status.ensures.written)
