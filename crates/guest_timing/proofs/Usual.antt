-- On the usual machine a run leaves what it leaves by the guest alone.
use Rattle.std.proofs.Common.{ℕ, List, Option, ap, ◌∙◌}
use Rattle.machines.specs.Records.{shortened_record}
use Rattle.machines.specs.Standing.{delayed_record}
use Rattle.timed_guest.specs.Runs.{with_costs, noting_of, slicing_of}
use Rattle.guest_timing.specs.Timed.{running_harts}
use Rattle.run_engine.specs.Run.{experiment, selected_line}
use Rattle.guest_calls.specs.Orderly.{IsOrderly}
use Rattle.timing_laws.proofs.Usual.{usual_record, usual_net}
use Rattle.guest_timing.proofs.Lawful.{costed_lawful, costed_fresh, costed_counted, same_costs}
use Rattle.coz_types.specs.Image.{ImageParts}
use Rattle.timing_model.specs.declared.timing.Timing.{Timing}
use Rattle.timing_model.specs.Timing.{IsUsual}
use Rattle.run_engine.specs.declared.choice.Choice.{Choice}
use Rattle.run_engine.specs.Run.{IsChoice}
use Rattle.guest_timing.specs.Timed.{timed, HasTheRecords}

pub usual_run_is : (t : Timing) → IsUsual t → (image : ImageParts) (position point : ℕ → Option ℕ) (input : List ℕ) (choice : Choice) → IsChoice choice → HasTheRecords (experiment image position point input choice) (timed t image position point input choice)
usual_run_is t usual image position point input choice valid =
    let costed = with_costs t.costs (experiment image position point input choice) in
    let noting = noting_of t position (selected_line choice) in
    let same = same_costs image position point input choice valid.speedup t.costs usual.costs in
    let law = costed_lawful image position point input choice valid.speedup t.costs in
    let fresh = costed_fresh image position point input choice valid.speedup t.costs in
    let counted = costed_counted image position point input choice valid.speedup t.costs in
    record {
      delayed = usual_record noting (slicing_of t) costed IsOrderly law usual.seed usual.charge fresh running_harts 256 counted usual.cores ∙ ap delayed_record same;
      shortened = usual_net noting (slicing_of t) costed IsOrderly law usual.seed usual.charge fresh running_harts 256 counted usual.cores ∙ ap shortened_record same;
    }
