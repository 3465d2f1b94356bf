use Rattle.std.proofs.Common.{◌∙◌, [], ap, length}
use Rattle.run_inputs.specs.Experiment.{runs_in}
use Rattle.coz_commands.proofs.Trials.{as_many, profile_is}
use Rattle.coz_commands.proofs.trial.trial_profile.Goals as goal

pub returns-clause-profile : goal.returns-clause-profile
returns-clause-profile g c =
    let index = c.args.program.now.index in
    profile_is (runs_in c.args.program.now.image index []) index.lines c.args.point.0 c.in_ok-points.points c.in_ok-summaries.summaries c.in_ok-points.ensures c.in_ok-summaries.ensures.summaries

pub returns-clause-whole : goal.returns-clause-whole
returns-clause-whole g c =
    let index = c.args.program.now.index in
    ap length c.in_ok-summaries.ensures.summaries ∙ as_many (runs_in c.args.program.now.image index []) index.lines c.args.point.0
