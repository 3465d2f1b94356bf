use Rattle.coz_commands.proofs.Judged.{suits_machine}
use Rattle.coz_commands.proofs.profile.judge_profile_on.Goals as goal

pub returns-clause-fault_of_request : goal.returns-clause-fault_of_request
returns-clause-fault_of_request g c =
    suits_machine c.args.timing c.args.request.now _ _ c.profile_of_file.result c.profile_of_file.ensures.no_read c.profile_of_file.ensures.verdict
