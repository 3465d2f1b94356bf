-- On the usual machine a run is that of the guest alone.
use Rattle.std.proofs.Common.{◌≡◌, ℕ, ◌≤◌, List, Option, refl, sym, ap, subst, ◌∙◌, arith}
use Rattle.std.proofs.Math.Path.{fun_ext}
use Rattle.coz_types.specs.Image.{ImageParts}
use Rattle.cost_table.specs.Costs.{cycles_of}
use Rattle.line_index.specs.Index.{Index, position_at}
use Rattle.machines.specs.Guest.{Experiment}
use Rattle.machines.specs.Records.{shortened_record}
use Rattle.machines.specs.Standing.{delayed_record}
use Rattle.guest_calls.specs.Guest as guests
use Rattle.guest_calls.specs.Orderly as own_order
use Rattle.guest_calls.specs.Retire as own
use Rattle.timing_laws.specs.Following.{Follows}
use Rattle.timing_laws.specs.Laws.{AreAlike}
use Rattle.timing_model.specs.declared.costs.Costs.{Costs}
use Rattle.timing_model.specs.declared.timing.Timing.{Timing}
use Rattle.timing_model.specs.Timing.{cycles_in, IsUsual}
use Rattle.timing_steps.specs.State.{first_state}
use Rattle.timed_guest.specs.Guest.{Timed}
use Rattle.timed_guest.specs.Runs.{Run, with_costs}
use Rattle.timed_guest.proofs.Alone.{keeps_none}
use Rattle.timed_guest.proofs.Follow.{plain_alike, plain_follows}
use Rattle.run_engine.specs.declared.choice.Choice.{Choice}
use Rattle.run_engine.specs.Run.{experiment, timed_experiment, selected_line}

-- with the usual costs a guest is as it is
same_costs : (costs : Costs) → ((i : _) → cycles_in costs i ≡ cycles_of i) → (x : Experiment guests.Guest) → x.guest.cycles ≡ (λ g h. cycles_of (own.next_of g h)) → with_costs costs x ≡ x
same_costs costs same x are =
    ap (λ (cycles : guests.Guest → ℕ → ℕ). record x { guest = record (x.guest) { cycles = cycles } })
    (fun_ext (λ g. fun_ext (λ h. same (own.next_of g h))) ∙ sym are)

-- the guest, with nothing beside it
abbrev pub beside_none : Timing → Index → guests.Guest → Timed
beside_none t index g = record { guest = g; beside = first_state t; index = index }

-- the run on the usual machine follows that of the guest alone, step by step
pub usual_follows : (t : Timing) → IsUsual t → (image : ImageParts) (index : Index) (point : ℕ → Option ℕ) (input : List ℕ) (choice : Choice)
    → Follows (experiment image (position_at index) point input choice) (timed_experiment t image index point input choice) (beside_none t index) own_order.IsOrderly (λ g. Unit {0})
usual_follows t usual image index point input choice =
    let run : Run = record { image = image; input = input; layout = choice.layout; selected = selected_line choice; point_at = point; speedup = choice.speedup; budget = choice.budget; visit_limit = choice.visit_limit; output_limit = choice.output_limit } in
    subst (λ (x : Experiment guests.Guest). Follows x (timed_experiment t image index point input choice) (beside_none t index) own_order.IsOrderly (λ g. Unit {0}))
    (same_costs t.costs usual.costs (experiment image (position_at index) point input choice) refl)
    (plain_follows t index run (keeps_none t usual))

-- each state of the run on the usual machine is one of the guest alone, with nothing beside it
pub usual_alike : (t : Timing) → IsUsual t → (image : ImageParts) (index : Index) (point : ℕ → Option ℕ) (input : List ℕ) (choice : Choice) → choice.speedup ≤ 95
    → AreAlike (experiment image (position_at index) point input choice) (timed_experiment t image index point input choice) (beside_none t index)
usual_alike t usual image index point input choice small =
    let run : Run = record { image = image; input = input; layout = choice.layout; selected = selected_line choice; point_at = point; speedup = choice.speedup; budget = choice.budget; visit_limit = choice.visit_limit; output_limit = choice.output_limit } in
    subst (λ (x : Experiment guests.Guest). AreAlike x (timed_experiment t image index point input choice) (beside_none t index))
    (same_costs t.costs usual.costs (experiment image (position_at index) point input choice) refl)
    (plain_alike t index run (keeps_none t usual) (omega arith))

-- and what it leaves is what the guest alone leaves
pub usual_delayed : (t : Timing) → IsUsual t → (image : ImageParts) (index : Index) (point : ℕ → Option ℕ) (input : List ℕ) (choice : Choice) → choice.speedup ≤ 95
    → delayed_record (timed_experiment t image index point input choice) ≡ delayed_record (experiment image (position_at index) point input choice)
usual_delayed t usual image index point input choice small = (usual_alike t usual image index point input choice small).record_is

pub usual_shortened : (t : Timing) → IsUsual t → (image : ImageParts) (index : Index) (point : ℕ → Option ℕ) (input : List ℕ) (choice : Choice) → choice.speedup ≤ 95
    → shortened_record (timed_experiment t image index point input choice) ≡ shortened_record (experiment image (position_at index) point input choice)
usual_shortened t usual image index point input choice small = (usual_alike t usual image index point input choice small).net_is
