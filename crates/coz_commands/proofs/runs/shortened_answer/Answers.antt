use Rattle.std.proofs.Common.{◌∙◌, ap}
use Rattle.machines.specs.Records.{shortened_record}
use Rattle.run_engine.specs.Seen.{experiment_of}
use Rattle.coz_commands.specs.Verdict.{really_verdict}
use Rattle.progress_points.specs.Points.{point_of}
use Rattle.timing_model.specs.Timing.{usual}
use Rattle.timing_model.proofs.Usual.{usual_is}
use Rattle.run_engine.proofs.Usual.{usual_shortened}
use Rattle.coz_commands.proofs.runs.shortened_answer.Goals as goal

pub returns-clause-verdict : goal.returns-clause-verdict
returns-clause-verdict c = λ other.
    let s = c.args.subject.now in
    c.short_answer-answer.ensures.verdict other
    ∙ ap (λ short. really_verdict (shortened_record (experiment_of short))) c.in_ok-short.ensures
    ∙ ap really_verdict (usual_shortened usual usual_is s.image.now s.index.now (point_of s.points.now) s.input.now c.args.choice c.requires.speedup)
