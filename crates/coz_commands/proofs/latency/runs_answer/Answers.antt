use Rattle.std.proofs.Common.{◌∙◌, ap}
use Rattle.machines.specs.Lead.{Before}
use Rattle.timed_guest.specs.Guest.{Timed}
use Rattle.run_engine.specs.Seen.{Seen, experiment_of}
use Rattle.virtual_run.specs.Lead.{arguments}
use Rattle.latency_points.specs.Moments.{numbers_of}
use Rattle.coz_commands.proofs.LatencySteps.{runs_are}
use Rattle.coz_commands.proofs.latency.runs_answer.Goals as goal

pub machine_answer-answer-requires-clause-lead : goal.machine_answer-answer-requires-clause-lead
machine_answer-answer-requires-clause-lead c = ap (λ (s : Seen (Before Timed)). arguments s) c.in_ok-lead.ensures

pub returns-clause-verdict : goal.returns-clause-verdict
returns-clause-verdict c = λ other.
    let asked = c.args.asked.now in
    let marked = asked.marked in
    c.machine_answer-answer.ensures.verdict other
    ∙ runs_are c.args.program.now.image c.args.program.now.index c.args.input.now marked.points asked.selected.0 c.args.budget c.usual-choice.result c.in_ok-lead.lead c.requires.points c.usual-choice.ensures.choice
    (ap (λ (s : Seen (Before Timed)). experiment_of s) c.in_ok-lead.ensures) (numbers_of marked.arrive.items) (numbers_of marked.depart.items) asked.speedups.items c.requires.small
