-- The run whose critical path is asked for, and what is printed of it.
use Rattle.std.specs.Prelude.{ℕ, List, [], Option, None}
use Rattle.line_index.specs.Lines.{Line}
use Rattle.line_index.specs.Listed.{lines_in, position_in}
use Rattle.machines.specs.Guest.{Experiment}
use Rattle.machines.specs.Records.{NetRecord, shortened_record}
use Rattle.guest_calls.specs.Guest.{Guest, pc_of}
use Rattle.path_chains.specs.declared.event.Event.{Event}
use Rattle.path_chains.specs.Path.{chain_of}
use Rattle.critical_path.specs.Events.{events_of}
use Rattle.coz_types.specs.Labels.{Text}
use Rattle.path_texts.specs.PathText.{events_on, path_text}
use Rattle.command_texts.specs.Printed.{ended_verdict}
use Rattle.program_load.specs.Verdict.{Verdict, program_verdict}
use Rattle.run_inputs.specs.Experiment.{Runs, choice_of, experiment_by_table}

-- no line is selected, and there are no points
abbrev pub plain_run : Runs → ℕ → Experiment Guest
plain_run runs budget = runs (choice_of None 0 budget) []

-- the text of these events, of which the path is this chain, and of the record that they left,
-- if `line_of` gives each address its line among these
abbrev pub path_of_run : NetRecord → List Event → List ℕ → (ℕ → Option ℕ) → List Line → Text
path_of_run run events chain line_of lines =
    path_text run.ending run.time run.retired (events_on events chain) line_of lines

-- of the path of a run that goes back from its last event
unfoldable pub path_printed : Experiment Guest → (ℕ → Option ℕ) → List Line → Verdict
path_printed x line_of lines =
    let run = shortened_record x in
    let events = events_of x pc_of in
    ended_verdict run.ending (path_of_run run events (chain_of events) line_of lines)

-- on a program's file and an input
abbrev pub path_on : ℕ → List ℕ → List ℕ → Verdict
path_on budget file input =
    program_verdict file (λ image table.
    path_printed (plain_run (experiment_by_table image table input) budget)
    (position_in table image.areas) (lines_in table image.areas))
