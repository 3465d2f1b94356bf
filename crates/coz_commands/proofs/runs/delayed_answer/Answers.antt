use Rattle.std.proofs.Common.{◌∙◌, ap}
use Rattle.machines.specs.Standing.{delayed_record}
use Rattle.run_engine.specs.Seen.{experiment_of}
use Rattle.coz_commands.specs.Verdict.{run_verdict}
use Rattle.progress_points.specs.Points.{point_of}
use Rattle.timing_model.specs.Timing.{usual}
use Rattle.timing_model.proofs.Usual.{usual_is}
use Rattle.run_engine.proofs.Usual.{usual_delayed}
use Rattle.coz_commands.proofs.runs.delayed_answer.Goals as goal

pub returns-clause-verdict : goal.returns-clause-verdict
returns-clause-verdict c = λ other.
    let s = c.args.subject.now in
    c.machine_answer-answer.ensures.verdict other
    ∙ ap (λ machine. run_verdict (delayed_record (experiment_of machine))) c.in_ok-machine.ensures
    ∙ ap run_verdict (usual_delayed usual usual_is s.image.now s.index.now (point_of s.points.now) s.input.now c.args.choice c.requires.speedup)
