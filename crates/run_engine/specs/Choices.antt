-- What is chosen for a run.
use Rattle.std.specs.Prelude.{ℕ, Option, option_map}
use Rattle.coz_types.specs.declared.TheConstants.{MAX_VISITS}
use Rattle.guest_memory.specs.Regions.{usual}
use Rattle.run_engine.specs.declared.choice.Choice.{Choice}
use Rattle.run_engine.specs.declared.choice.TheConstants.{MAX_RUN_OUTPUT}

-- the position of the selected line, if there is one, its speedup and a budget,
-- with the limits of the commands
abbrev pub choice_of : Option ℕ → ℕ → ℕ → Choice
choice_of selected speedup budget = record {
  selected = option_map (λ l. record { 0 = l }) selected;
  speedup = speedup;
  budget = budget;
  output_limit = MAX_RUN_OUTPUT;
  visit_limit = MAX_VISITS;
  layout = usual;
}
