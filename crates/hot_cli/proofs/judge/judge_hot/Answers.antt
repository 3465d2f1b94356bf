use Rattle.hot_cli.proofs.Judged.{suits_file}
use Rattle.hot_cli.proofs.judge.judge_hot.Goals as goal

pub returns-clause-fault_of_request : goal.returns-clause-fault_of_request
returns-clause-fault_of_request g c = suits_file c.args.asked.now _ _ c.hot_of_file.result c.hot_of_file.ensures.no_read c.hot_of_file.ensures.verdict
