use Rattle.std.proofs.Common.{refl, arith}
use Rattle.timed_guest.specs.Orderly.{IsOrderly}
use Rattle.timed_guest.specs.Runs.{Run}
use Rattle.timed_guest.proofs.Law.{lawful}
use Rattle.run_engine.specs.Run.{timed_experiment, selected_line}
use Rattle.plain_run.specs.PlainRun.{plain_choice}
use Rattle.plain_run.proofs.Undelayed.{undelayed_is}
use Rattle.plain_run.proofs.plain_runs_are_undelayed.Goals as goal

pub returns : goal.returns
returns c = λ t image index point input choice valid.
    let plain = plain_choice choice in
    let run : Run = record { image = image; input = input; layout = plain.layout; selected = selected_line plain; point_at = point; speedup = plain.speedup; budget = plain.budget; visit_limit = plain.visit_limit; output_limit = plain.output_limit } in
    undelayed_is (timed_experiment t image index point input plain) IsOrderly (lawful t index run (omega arith)) valid.some_budget refl
