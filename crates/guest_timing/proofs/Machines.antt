-- A run of the engine on a machine is that of the guest with its costs, with notes, on cores.
use Rattle.std.proofs.Common.{◌≡◌, ℕ, ◌≤◌, ◌==◌, Bool, true, false, not, ◌||◌, nat_lt, List, Option, refl, sym, ◌∙◌, arith, ⊎_elim}
use Rattle.std.proofs.lemmas.Bool.{cases_Bool, eqb-true}
use Rattle.coz_types.specs.Image.{ImageParts}
use Rattle.line_index.specs.Index.{Index, position_at}
use Rattle.guest_calls.specs.Orderly.{IsOrderly}
use Rattle.timing_laws.proofs.Usual.{usual_record, usual_net}
use Rattle.timing_model.specs.declared.timing.Timing.{Timing}
use Rattle.timing_model.specs.Timing.{charges}
use Rattle.timing_steps.specs.State.{keeps}
use Rattle.timed_guest.specs.Runs.{Run, with_costs, noting_of, slicing_of}
use Rattle.timed_guest.proofs.Follow.{timed_alike, plain_alike}
use Rattle.run_engine.specs.declared.choice.Choice.{Choice}
use Rattle.run_engine.specs.Run.{IsChoice, experiment, timed_experiment, selected_line}
use Rattle.guest_timing.specs.Timed.{timed, running_harts, HasTheRecords}
use Rattle.guest_timing.proofs.Lawful.{costed_lawful, costed_fresh, costed_counted}

-- a machine that keeps nothing has a core for each hart, charges nobody and has no seed
parts : (few : Bool) (charged : Bool) (none : Bool) → (few || charged || not none) ≡ false → (few ≡ false) × (charged ≡ false) × (none ≡ true)
parts true charged none is = absurd (let no : true ≡ false = is in cc)
parts false true none is = absurd (let no : true ≡ false = is in cc)
parts false false true is = (refl, refl, refl)
parts false false false is = absurd (let no : true ≡ false = is in cc)

enough : (cores : ℕ) → nat_lt cores 256 ≡ false → 256 ≤ cores
enough cores e = grind arith

module _ (t : Timing) (image : ImageParts) (index : Index) (point : ℕ → Option ℕ) (input : List ℕ) (choice : Choice) (valid : IsChoice choice) where
  abbrev run : Run
  run = record { image = image; input = input; layout = choice.layout; selected = selected_line choice; point_at = point; speedup = choice.speedup; budget = choice.budget; visit_limit = choice.visit_limit; output_limit = choice.output_limit }

  kept : keeps t ≡ true → HasTheRecords (timed t image (position_at index) point input choice) (timed_experiment t image index point input choice)
  kept is =
      let alike = timed_alike t index run is (let few : choice.speedup ≤ 95 = valid.speedup in omega (arith, few)) in
      record { delayed = alike.record_is; shortened = alike.net_is }

  plain : keeps t ≡ false → HasTheRecords (timed t image (position_at index) point input choice) (timed_experiment t image index point input choice)
  plain none =
      let alike = plain_alike t index run none (let few : choice.speedup ≤ 95 = valid.speedup in omega (arith, few)) in
      let each = parts (nat_lt t.cores 256) (charges t.charge) (t.seed == 0) none in
      let seed : t.seed ≡ 0 = eqb-true t.seed 0 each.2 in
      let cores : 256 ≤ t.cores = enough t.cores each.0 in
      let noting = noting_of t (position_at index) (selected_line choice) in
      let costed = with_costs t.costs (experiment image (position_at index) point input choice) in
      let law = costed_lawful image (position_at index) point input choice valid.speedup t.costs in
      let fresh = costed_fresh image (position_at index) point input choice valid.speedup t.costs in
      let counted = costed_counted image (position_at index) point input choice valid.speedup t.costs in
      record {
        delayed = alike.record_is ∙ sym (usual_record noting (slicing_of t) costed IsOrderly law seed each.1 fresh running_harts 256 counted cores);
        shortened = alike.net_is ∙ sym (usual_net noting (slicing_of t) costed IsOrderly law seed each.1 fresh running_harts 256 counted cores);
      }

-- it leaves the same
pub machine_run_is : (t : Timing) (image : ImageParts) (index : Index) (point : ℕ → Option ℕ) (input : List ℕ) (choice : Choice) → IsChoice choice → HasTheRecords (timed t image (position_at index) point input choice) (timed_experiment t image index point input choice)
machine_run_is t image index point input choice valid =
    ⊎_elim (λ (is : keeps t ≡ true). kept t image index point input choice valid is) (λ (none : keeps t ≡ false). plain t image index point input choice valid none) (cases_Bool (keeps t))
