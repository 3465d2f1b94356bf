use Rattle.std.proofs.Common.{None, Option, ap, ◌∙◌, is_some}
use Rattle.coz_types.specs.declared.ending.Ending.{Ending}
use Rattle.progress_points.specs.Points.{point_of}
use Rattle.machines.specs.Delayed.{Delayed}
use Rattle.machines.specs.Records.{Record, net, record_of}
use Rattle.machines.specs.Standing.{delayed_record}
use Rattle.timed_guest.specs.Guest.{Timed}
use Rattle.run_engine.specs.Run.{timed_experiment}
use Rattle.run_engine.specs.Seen.{Seen, experiment_of}
use Rattle.virtual_run.specs.Lead.{arguments}
use Rattle.coz_commands.specs.Measured.{measured_in}
use Rattle.coz_commands.proofs.measuring.latency_at.Goals as goal

pub latency_of_run-requires : goal.latency_of_run-requires
latency_of_run-requires c = ap (λ (o : Option Ending). is_some o) c.run.ensures.ended

pub returns-clause-arguments : goal.returns-clause-arguments
returns-clause-arguments c =
    let choice = record c.args.lead.now.choice { selected = None; speedup = 0 } in
    ap (λ (s : Seen (Delayed Timed)). arguments s) c.run.ensures.rest
    ∙ ap (λ (s : Seen (Delayed Timed)). arguments s) c.fork.ensures.forked
    ∙ ap (λ (s : Seen (Unit {0})). record s { choice = choice }) c.requires.arguments

pub returns-clause-measured : goal.returns-clause-measured
returns-clause-measured c =
    let run = c.run in
    let choice = record c.args.lead.now.choice { speedup = c.args.speedup } in
    let x =
    ap (λ (s : Seen (Delayed Timed)). experiment_of s) c.fork.ensures.forked
    ∙ ap (λ (s : Seen (Unit {0})). timed_experiment s.timing s.image s.index (point_of s.points) s.input choice) c.requires.arguments in
    c.latency_of_run.ensures run.result run.ensures.ended
    ∙ ap (λ (r : Record). measured_in c.args.arrive.now c.args.depart.now (net r))
    (ap (λ (s : Seen (Delayed Timed)). record_of (experiment_of s) run.new.self.state run.result) run.ensures.rest ∙ run.ensures.record ∙ ap delayed_record x)
