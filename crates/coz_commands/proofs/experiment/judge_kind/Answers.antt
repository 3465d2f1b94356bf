use Rattle.coz_commands.specs.Kinds.{printed_of}
use Rattle.coz_commands.specs.Verdict.{asked_verdict}
use Rattle.coz_commands.proofs.Judged.{judged_kind, suits_file}
use Rattle.coz_commands.proofs.experiment.judge_kind.Goals as goal

pub returns-clause-fault_of_request : goal.returns-clause-fault_of_request
returns-clause-fault_of_request g c =
    let asked = c.args.request.now in
    suits_file (asked_verdict asked (printed_of c.args.kind)) asked _ _ c.run_of_file.result (judged_kind asked c.args.kind) c.run_of_file.ensures.no_read c.run_of_file.ensures.verdict
