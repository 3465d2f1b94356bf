-- What a request for latencies asks for: the lines whose visits are arrivals and departures,
-- the runs at each speedup, and what is printed of them.
use Rattle.std.specs.Prelude.{ℕ, List, [], ◌∷◌, ◌++◌, Option, if◌then◌else◌}
use Rattle.std.specs.List.{list_all}
use Rattle.machines.specs.Guest.{Experiment}
use Rattle.machines.specs.Records.{NetRecord, net}
use Rattle.machines.specs.Standing.{delayed_record}
use Rattle.guest_calls.specs.Guest.{Guest}
use Rattle.line_index.specs.Lines.{Line}
use Rattle.experiment_plan.specs.Selected.{rising_numbers, places_among}
use Rattle.run_engine.specs.Choices.{choice_of}
use Rattle.coz_words.specs.declared.request.Request.{Request}
use Rattle.command_texts.specs.Printed.{has_exited}
use Rattle.command_texts.specs.LatencyText.{latency_text}
use Rattle.program_load.specs.Verdict.{Verdict, named_verdict, points_verdict}
use Rattle.program_load.specs.Selection.{line_named, lines_named}
use Rattle.run_inputs.specs.Experiment.{Runs}

-- the lines that are points: those of both lists, as they rise and each once
abbrev pub lines_of_both : List ℕ → List ℕ → List ℕ
lines_of_both arrive depart = rising_numbers (arrive ++ depart)

-- the speedups: 0 and those that are asked for, as they rise and each once
abbrev pub speedups_of : Request → List ℕ
speedups_of asked = rising_numbers (0 ∷ asked.speedups)

-- the run at each speedup, with the lines at these positions as points
abbrev pub at_each : Runs → Option ℕ → ℕ → List ℕ → ℕ → Experiment Guest
at_each runs selected budget points speedup = runs (choice_of selected speedup budget) points

-- the net part of the record with which the delayed machine ends at each speedup
abbrev pub net_at_each : Runs → Option ℕ → ℕ → List ℕ → ℕ → NetRecord
net_at_each runs selected budget points speedup =
    net (delayed_record (at_each runs selected budget points speedup))

-- of the lines of two lists as points, if there are at most 64, and of what follows:
-- of the points, and of where those of each list stand among them
abbrev pub marked_verdict : List ℕ → List ℕ → (List ℕ → List ℕ → List ℕ → Verdict) → Verdict
marked_verdict arrive depart next =
    points_verdict (lines_of_both arrive depart) (λ points.
    next points (places_among points arrive) (places_among points depart))

-- of runs that left these net records, whose requests arrive and depart at these points
abbrev pub latency_printed : List ℕ → List ℕ → (ℕ → NetRecord) → List ℕ → Verdict
latency_printed arrive depart run speedups = record {
  status = if list_all (λ speedup. has_exited (run speedup).ending) speedups then 0 else 1;
  text = latency_text arrive depart run speedups;
  line = [];
}

-- of the latencies that a request asks for
unfoldable pub latency_verdict : Request → List Line → Runs → Verdict
latency_verdict asked lines runs =
    named_verdict (line_named lines asked.line) (λ selected.
    named_verdict (lines_named lines [] asked.arrive) (λ arrive.
    named_verdict (lines_named lines [] asked.depart) (λ depart.
    marked_verdict arrive depart (λ points arrivals departures.
    latency_printed arrivals departures (net_at_each runs selected asked.budget points)
    (speedups_of asked)))))
