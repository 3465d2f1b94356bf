-- A line that is made no faster changes nothing: blocks at speedup 0 differ in their labels and starts.
use Rattle.std.proofs.Common.{◌≡◌, ℕ, List, [], length, Option, Some, refl, sym, ap, ◌∙◌}
use Rattle.coz_types.specs.Image.{ImageParts}
use Rattle.machines.specs.Guest.{Experiment}
use Rattle.machines.specs.Records.{Record}
use Rattle.machines.specs.Standing.{delayed_record}
use Rattle.machines.specs.Selecting.{uncounted_record}
use Rattle.machines.proofs.Unselected.{unselected_record}
use Rattle.guest_calls.specs.Guest.{Guest}
use Rattle.line_index.specs.Lines.{Line}
use Rattle.experiment_plan.specs.declared.experiment.Experiment.{Experiment as Pair}
use Rattle.run_engine.specs.Run.{experiment}
use Rattle.profile_join.specs.Parts.{unlabelled}
use Rattle.run_engine.specs.Choices.{choice_of}
use Rattle.profile_pool.specs.Summaries.{summary_of}
use Rattle.profile_pool.specs.Profiles.{summary_on}

-- the count of starts is in one place of a summary
count_apart : (label : List ℕ) (speedup points : ℕ) (r : Record) → unlabelled (summary_of label speedup points r) ≡ unlabelled (summary_of [] speedup points (uncounted_record r))
unfolding summary_of
count_apart label speedup points r = refl

-- the pair of a line and a speedup
abbrev pub pair_at : ℕ → ℕ → Pair
pair_at line speedup = record { line = record { 0 = line }; speedup = speedup }

-- `position` gives the line of an address, `point` its point
module _ (image : ImageParts) (position point : ℕ → Option ℕ) (points : List ℕ) (input : List ℕ) (budget : ℕ) where
  -- the run of a pair
  abbrev pub run_of : Pair → Experiment Guest
  run_of pair = experiment image position point input (choice_of (Some pair.line.0) pair.speedup budget)

  same_run : (l m : ℕ) → uncounted_record (delayed_record (run_of (pair_at l 0))) ≡ uncounted_record (delayed_record (run_of (pair_at m 0)))
  same_run l m = unselected_record (run_of (pair_at m 0)) (run_of (pair_at l 0)).guest.is_selected (run_of (pair_at m 0)).guest.is_selected

  -- blocks at speedup 0 are one but for their labels and their starts
  pub same_baseline : (lines : List Line) (l m : ℕ)
      → unlabelled (summary_on lines points (pair_at l 0) (delayed_record (run_of (pair_at l 0))))
      ≡ unlabelled (summary_on lines points (pair_at m 0) (delayed_record (run_of (pair_at m 0))))
  same_baseline lines l m =
      count_apart _ 0 (length points) (delayed_record (run_of (pair_at l 0)))
      ∙ ap (λ (r : Record). unlabelled (summary_of [] 0 (length points) r)) (same_run l m)
      ∙ sym (count_apart _ 0 (length points) (delayed_record (run_of (pair_at m 0))))
