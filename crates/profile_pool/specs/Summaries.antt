-- What a profile keeps of a run.
use Rattle.std.specs.Prelude.{ℕ, List, [], map, length, get_or, Some}
use Rattle.coz_types.specs.Image.{ImageParts}
use Rattle.coz_types.specs.declared.record.Outcome.{Outcome}
use Rattle.coz_types.specs.declared.record.Summary.{Summary}
use Rattle.machines.specs.Records.{Record, net}
use Rattle.machines.specs.Standing.{delayed_record}
use Rattle.experiment_plan.specs.declared.experiment.Experiment.{Experiment}
use Rattle.line_index.specs.Lines.{label}
use Rattle.line_index.specs.Index.{Index, position_at}
use Rattle.progress_points.specs.Points.{Points, point_of}
use Rattle.run_engine.specs.Run.{experiment}
use Rattle.sha2.specs.Sha256.{sha256}
use Rattle.run_summary.specs.Kept.{visits_bytes, counts_of}
use Rattle.run_engine.specs.Choices.{choice_of}

-- how the run of a record came out
abbrev pub outcome_in : Record → Outcome
outcome_in r = record {
  ending = r.ending;
  time = r.time;
  delay = r.delay;
  retired = r.retired;
  starts = r.starts;
}

-- of a run with `points` points, whose selected line has that label
unfoldable pub summary_of : List ℕ → ℕ → ℕ → Record → Summary
summary_of label speedup points r = record {
  selected = label;
  speedup = speedup;
  outcome = outcome_in r;
  length = length r.output;
  output = record { bytes = sha256 r.output };
  counts = counts_of points (net r).visits;
  visits = record { bytes = sha256 (visits_bytes (net r).visits) };
}

-- of the run with the line at this position selected at this speedup
unfoldable pub summary_in : ImageParts → Index → Points → List ℕ → ℕ → ℕ → ℕ → Summary
summary_in image index points input budget line speedup =
    let choice = choice_of (Some line) speedup budget in
    summary_of (get_or (map label index.lines) line []) speedup (length points.lines)
    (delayed_record (experiment image (position_at index) (point_of points) input choice))

-- the summary of the run of each pair, in the plan's order
abbrev pub summaries_of : ImageParts → Index → Points → List ℕ → ℕ → List Experiment → List Summary
summaries_of image index points input budget plan =
    map (λ (pair : Experiment).
    summary_in image index points input budget pair.line.0 pair.speedup) plan
