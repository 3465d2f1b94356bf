use Rattle.std.proofs.Common.{◌∙◌, ap, not}
use Rattle.profile_pool.proofs.Long.{long_is}
use Rattle.profile_pool.proofs.worth.is_long.Goals as goal

pub returns : goal.returns
returns c =
    ap not c.is_success.ensures
    ∙ long_is c.args.subject.now c.args.instructions
    c.small_choice-choice.result c.in_ok-machine.machine c.run-ending.new.self.state c.run-ending.result
    c.small_choice-choice.ensures.choice c.in_ok-machine.ensures c.run-ending.ensures.record
