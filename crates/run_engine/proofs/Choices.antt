-- A choice with another speedup or another line is still one that may be made.
use Rattle.std.proofs.Common.{ℕ, ◌≤◌, Some}
use Rattle.coz_types.specs.declared.LineId.{LineId}
use Rattle.run_engine.specs.declared.choice.Choice.{Choice}
use Rattle.run_engine.specs.Run.{IsChoice}

pub valid_at : (choice : Choice) (q : ℕ) → q ≤ 95 → IsChoice choice → IsChoice (record choice { speedup = q })
valid_at choice q small valid = record {
  speedup = small;
  some_budget = valid.some_budget;
  few = valid.few;
  some_output = valid.some_output;
  output = valid.output;
  some_visits = valid.some_visits;
  visits = valid.visits;
  layout = valid.layout;
}

pub valid_with : (choice : Choice) (line : LineId) → IsChoice choice → IsChoice (record choice { selected = Some line })
valid_with choice line valid = record {
  speedup = valid.speedup;
  some_budget = valid.some_budget;
  few = valid.few;
  some_output = valid.some_output;
  output = valid.output;
  some_visits = valid.some_visits;
  visits = valid.visits;
  layout = valid.layout;
}
