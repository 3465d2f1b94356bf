use Rattle.std.proofs.Common.{List, ap, ◌∙◌}
use Rattle.std.proofs.lemmas.Result.{err_from_is_err_and}
use Rattle.coz_types.specs.declared.LineId.{LineId}
use Rattle.experiment_plan.specs.Selected.{ids, places_among}
use Rattle.latency_points.specs.Moments.{numbers_of}
use Rattle.program_load.specs.Verdict.{points_verdict}
use Rattle.coz_commands.proofs.LatencySteps.{marks_are, no_marks}
use Rattle.coz_commands.proofs.latency.marked_points.Goals as goal

pub returns-in_err-points-clause-verdict : goal.returns-in_err-points-clause-verdict
returns-in_err-points-clause-verdict c =
    let gives = err_from_is_err_and c.from_residual-in_err-points.result c.from_residual-in_err-points.ensures.1 in
    let arrive = ids c.args.arrive.now in
    let depart = ids c.args.depart.now in
    rw (gives.1, gives.2)
    (λ other next.
    no_marks arrive depart (ids c.in_ok-lines.lines.items) _ next c.in_ok-lines.ensures.lines
    (λ n. c.in_err-points.ensures.verdict other n ∙ ap (λ (ls : List LineId). points_verdict (ids ls) n) c.deref.ensures.value))

pub returns-clause-verdict : goal.returns-clause-verdict
returns-clause-verdict c = λ _ next.
    let arrive = ids c.args.arrive.now in
    let depart = ids c.args.depart.now in
    marks_are arrive depart (ids c.in_ok-lines.lines.items) c.in_ok-points.points.lines (numbers_of c.in_ok-arrive.arrive.items) (numbers_of c.in_ok-depart.depart.items) next c.in_ok-lines.ensures.lines
    (c.in_ok-points.ensures.points.lines ∙ ap ids c.deref.ensures.value)
    (c.in_ok-arrive.ensures ∙ ap (λ (ls : List LineId). places_among (ids ls) arrive) c.deref-2.ensures.value)
    (c.in_ok-depart.ensures ∙ ap (λ (ls : List LineId). places_among (ids ls) depart) c.deref-3.ensures.value)
    (λ n. c.in_ok-points.ensures.verdict (λ never. never) n ∙ ap (λ (ls : List LineId). points_verdict (ids ls) n) c.deref.ensures.value)
