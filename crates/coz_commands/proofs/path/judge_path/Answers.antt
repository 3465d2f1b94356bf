use Rattle.coz_commands.proofs.Judged.{suits_path}
use Rattle.coz_commands.proofs.path.judge_path.Goals as goal

pub returns-clause-fault_of_request : goal.returns-clause-fault_of_request
returns-clause-fault_of_request g c = suits_path c.args.request.now _ _ c.path_of_file.result c.path_of_file.ensures.no_read c.path_of_file.ensures.verdict
