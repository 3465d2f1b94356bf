use Rattle.progress_points.specs.Points.{point_of}
use Rattle.critical_path.proofs.Walking.{plain_traced}
use Rattle.critical_path.proofs.walked.walk_on.Goals as goal

pub returns : goal.returns
returns c =
    plain_traced c.args.timing c.args.image.now c.args.index.now (point_of c.in_ok-points.points) c.args.input.now c.args.budget c.args.output_limit c.args.layout c.in_ok-points.ensures
    c.trace_run.result c.trace_run.ensures
