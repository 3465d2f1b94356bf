use Rattle.coz_commands.specs.Latencies.{latency_verdict}
use Rattle.coz_commands.proofs.Judged.{judged_latency, suits_file}
use Rattle.coz_commands.proofs.latency.judge_latency.Goals as goal

pub returns-clause-fault_of_request : goal.returns-clause-fault_of_request
returns-clause-fault_of_request g c =
    let asked = c.args.request.now in
    suits_file (latency_verdict asked) asked _ _ c.latency_of_file.result (judged_latency asked) c.latency_of_file.ensures.no_read c.latency_of_file.ensures.verdict
