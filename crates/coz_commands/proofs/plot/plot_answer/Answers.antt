use Rattle.std.proofs.lemmas.Result.{err_from_is_err_and}
use Rattle.coz_commands.proofs.Plotted.{no_profile, plotted}
use Rattle.coz_commands.proofs.plot.plot_answer.Goals as goal

pub returns-in_err-profile-clause-verdict : goal.returns-in_err-profile-clause-verdict
returns-in_err-profile-clause-verdict c =
    let gives = err_from_is_err_and c.from_residual.result c.from_residual.ensures.1 in
    rw (gives.1, gives.2) (λ other. no_profile c.args.bytes.now c.in_err-profile.field-0.0 c.in_err-profile.ensures.exact other)

pub returns-clause-verdict : goal.returns-clause-verdict
returns-clause-verdict c = λ _.
    let read = c.in_ok-profile.ensures in
    plotted c.args.bytes.now c.in_ok-profile.profile c.in_ok-curves.curves read.exact read.found c.in_ok-curves.ensures.ranked
