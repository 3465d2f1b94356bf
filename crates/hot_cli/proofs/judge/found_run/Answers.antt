use Rattle.std.proofs.Common.{◌∙◌}
use Rattle.std.proofs.lemmas.Result.{err_from_is_err_and}
use Rattle.hot_cli.proofs.Printing.{list_is, of_points, run_is}
use Rattle.hot_cli.proofs.judge.found_run.Goals as goal

pub returns-clause-verdict : goal.returns-clause-verdict
returns-clause-verdict c = λ other.
    let asked = c.args.asked.now in
    let program = c.args.program.now in
    let input = c.args.input.now in
    let points = c.in_ok-points.points in
    let run = c.in_ok-found.found in
    run_is asked program.image program.index input points _ run c.usual.ensures.usual c.in_ok-points.ensures.points c.in_ok-found.ensures.ending (c.in_ok-found.ensures.text asked.names)
    ∙ c.in_ok-points.ensures.verdict (λ never. never) (of_points asked program.image program.index input)
    ∙ list_is asked program.image program.index input _ c.bytes_of.ensures

pub returns-in_err-points-clause-verdict : goal.returns-in_err-points-clause-verdict
returns-in_err-points-clause-verdict c =
    let asked = c.args.asked.now in
    let program = c.args.program.now in
    let input = c.args.input.now in
    let gives = err_from_is_err_and c.from_residual.result c.from_residual.ensures.1 in
    rw (gives.1, gives.2)
    (λ other.
    c.in_err-points.ensures.verdict other (of_points asked program.image program.index input)
    ∙ list_is asked program.image program.index input _ c.bytes_of.ensures)
