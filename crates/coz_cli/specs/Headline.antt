-- The main theorem. For every program, input, selected line and speedup:
--     net (what is printed of the delayed run) = the record of the shortened run.
-- `net` subtracts from each time the global delay at that time. In the shortened run the selected
-- line really costs less, and there are no delays. For any number of workers the printed bytes
-- are those of one worker.
-- Read machines/specs first: Delayed.antt and Shortened.antt (the two machines), then Records.antt
-- (`net`, `IsDelayed`, `IsShortened`), then the records below, each of which is one command.
-- `serve` of this crate has them as its clauses `headline` and `workers`. What `coz plot` prints of
-- a profile is stated in profile_laws/specs/Headline.antt, by these.
-- Nothing is claimed of real hardware: costs, schedule and a hart for each thread are definitions.
use Rattle.std.specs.Prelude.{◌≡◌, List, ℕ, [], Option, None, Some, Ok, All, ◌≤◌, length}
use Rattle.std.specs.Io.KnownBytes.{Appends}
use Rattle.experiment_plan.specs.declared.experiment.TheConstants.{MAX_PAIRS}
use Rattle.coz_types.specs.declared.TheConstants.{MAX_POINTS}
use Rattle.coz_types.specs.Image.{ImageParts}
use Rattle.coz_files.specs.Held.{Held, file_at}
use Rattle.elf_load.specs.Loaded.{load_answer}
use Rattle.dwarf_lines.specs.Registers.{Table}
use Rattle.line_index.specs.Lines.{Line}
use Rattle.line_index.specs.Listed.{lines_in, position_in}
use Rattle.experiment_plan.specs.Selected.{places_among}
use Rattle.experiment_plan.specs.declared.experiment.Experiment.{Experiment as Pair}
use Rattle.profile_book.specs.Profile.{profile_text}
use Rattle.machines.specs.Guest.{Experiment}
use Rattle.machines.specs.Records.{Record, NetRecord, net, IsDelayed, IsShortened}
use Rattle.guest_calls.specs.Guest.{Guest, pc_of}
use Rattle.path_chains.specs.declared.event.Event.{Event}
use Rattle.path_chains.specs.Path.{IsChain, Sound, weight}
use Rattle.path_chains.specs.Segments.{segments_of, Tile}
use Rattle.path_texts.specs.PathText.{all_shares, events_on}
use Rattle.critical_path.specs.Events.{events_of}
use Rattle.coz_words.specs.declared.request.Request.{Request}
use Rattle.coz_words.specs.declared.command.Command.TheVariants.{Run, Really, Profile, Latency, Path}
use Rattle.coz_words.specs.Slow.{request_of}
use Rattle.program_load.specs.LineTable.{table_in}
use Rattle.program_load.specs.Selection.{line_named, lines_named}
use Rattle.run_inputs.specs.Experiment.{Runs, choice_of, experiment_by_table}
use Rattle.coz_commands.specs.CriticalPath.{path_of_run, plain_run}
use Rattle.coz_commands.specs.Profiled.{all_lines, experiment_of_pair, pairs_of, profile_with}
use Rattle.coz_commands.specs.Latencies.{at_each, lines_of_both, speedups_of}
use Rattle.command_texts.specs.LatencyText.{latency_text}
use Rattle.command_texts.specs.Text.{run_text, really_text}
use Rattle.coz_cli.specs.Verdict.{verdict}

-- the bytes of the input that is named, and none if none is
abbrev pub IsInput : Held → Option (List ℕ) → List ℕ → Type 0
IsInput held None input = input ≡ []
IsInput held (Some path) input = file_at held path ≡ Some input

-- The experiment that a request asks for: its path names a file that is a program with a line
-- table, its input is that of the named file, and each line that it names is one of the program's.
pub record IsAsked (held : Held) (asked : Request) (x : Experiment Guest) : Type 0 where
  pub file : List ℕ
  pub input : List ℕ
  pub image : ImageParts
  pub table : Table
  pub selected : Option ℕ
  pub points : List ℕ
  pub found : file_at held asked.target ≡ Some file
  pub given : IsInput held asked.input input
  pub program : load_answer file ≡ Ok image
  pub lines : table_in file ≡ Ok table
  pub line_is : line_named (lines_in table image.areas) asked.line ≡ Ok selected
  pub points_are : lines_named (lines_in table image.areas) [] asked.progress ≡ Ok points
  pub few : length points ≤ MAX_POINTS
  pub experiment : x
      ≡ experiment_by_table image table input (choice_of selected asked.speedup asked.budget) points

-- After what was held before there is now the text of the record that the delayed machine ends
-- with, and the net part of that record (its end, output, counts, and each time less the global
-- delay then) is what the shortened machine ends with, whose selected line really costs less
-- and which knows no delays.
pub record PrintsRun (held : Held) (asked : Request) (before now : Option (List ℕ)) : Type 0 where
  pub experiment : Experiment Guest
  pub run : Record
  pub is_asked : IsAsked held asked experiment
  pub printed : Appends before now (run_text run)
  pub delayed : IsDelayed experiment run
  pub shortened : IsShortened experiment (net run)

-- after what was held before there is now the text of the record that
-- the shortened machine ends with
pub record PrintsReally (held : Held) (asked : Request)
    (before now : Option (List ℕ)) : Type 0 where
  pub experiment : Experiment Guest
  pub run : NetRecord
  pub is_asked : IsAsked held asked experiment
  pub printed : Appends before now (really_text run)
  pub shortened : IsShortened experiment run

-- The plan that a request for a profile asks for: its path names a file that is a program with
-- a line table, its input is that of the named file, the lines that it names are the program's,
-- and the pairs are each of the lines to be selected with each speedup.
pub record IsPlanned (held : Held) (asked : Request) (runs : Runs) (lines : List Line)
    (points : List ℕ) (pairs : List Pair) : Type 0 where
  pub file : List ℕ
  pub input : List ℕ
  pub image : ImageParts
  pub table : Table
  pub selected : List ℕ
  pub found : file_at held asked.target ≡ Some file
  pub given : IsInput held asked.input input
  pub program : load_answer file ≡ Ok image
  pub table_is : table_in file ≡ Ok table
  pub runs_are : runs ≡ experiment_by_table image table input
  pub lines_are : lines ≡ lines_in table image.areas
  pub selected_are : lines_named lines (all_lines lines) asked.lines ≡ Ok selected
  pub points_are : lines_named lines [] asked.progress ≡ Ok points
  pub few_points : length points ≤ MAX_POINTS
  pub planned : pairs ≡ pairs_of selected asked.speedups
  pub few_pairs : length pairs ≤ MAX_PAIRS

-- After what was held before there is now the text of a profile: of the budget,
-- the points' labels, and of each pair of the plan, in its order, the summary of the record with
-- which the delayed machine ends on the pair's experiment. The net part of each such record is what
-- the shortened machine ends with, whose selected line really costs less and which knows no delays.
pub record PrintsProfile (held : Held) (asked : Request)
    (before now : Option (List ℕ)) : Type 0 where
  pub runs : Runs
  pub lines : List Line
  pub points : List ℕ
  pub pairs : List Pair
  pub is_planned : IsPlanned held asked runs lines points pairs
  pub run : Pair → Record
  pub delayed : All (λ pair.
      IsDelayed (experiment_of_pair runs asked.budget points pair) (run pair)) pairs
  pub shortened : All (λ pair.
      IsShortened (experiment_of_pair runs asked.budget points pair) (net (run pair))) pairs
  pub printed : Appends before now (profile_text (profile_with run lines asked.budget points pairs))

-- The run that a request for a critical path asks for: its path names a file that is a program
-- with this line table, its input is that of the named file, no line is selected, and there are
-- no points.
pub record IsPlain (held : Held) (asked : Request) (image : ImageParts) (table : Table)
    (x : Experiment Guest) : Type 0 where
  pub file : List ℕ
  pub input : List ℕ
  pub found : file_at held asked.target ≡ Some file
  pub given : IsInput held asked.input input
  pub program : load_answer file ≡ Ok image
  pub lines : table_in file ≡ Ok table
  pub experiment : x ≡ plain_run (experiment_by_table image table input) asked.budget

-- After what was held before there is now the text of a critical path: of the record that
-- the shortened machine ends with, and of a chain of the instructions that it retired. The chain
-- is sound, so that it ends with the last of them; its weight is the run's net time; and no chain
-- of these instructions is heavier. The segments that are printed lead from 0 to the net time
-- without gaps, and the shares, of lines, of code without a line and of sleep, add up to it.
pub record PrintsPath (held : Held) (asked : Request) (before now : Option (List ℕ)) : Type 0 where
  pub image : ImageParts
  pub table : Table
  pub experiment : Experiment Guest
  pub run : NetRecord
  pub events : List Event
  pub chain : List ℕ
  pub is_plain : IsPlain held asked image table experiment
  pub shortened : IsShortened experiment run
  pub events_are : events ≡ events_of experiment pc_of
  pub sound : Sound events chain
  pub whole : weight events chain ≡ run.time
  pub heaviest : (other : List ℕ) → IsChain events other
      → weight events other ≤ weight events chain
  pub tiled : Tile 0 run.time (segments_of (events_on events chain))
  pub shared : all_shares (position_in table image.areas) (length (lines_in table image.areas))
      (events_on events chain) ≡ run.time
  pub printed : Appends before now
      (path_of_run run events chain (position_in table image.areas) (lines_in table image.areas))

-- The runs that a request for latencies asks for, one at each speedup: its path names a file that is
-- a program with a line table, its input is that of the named file, the lines that it names are
-- the program's, and those of both lists are the points, of which each list has some.
pub record IsMeasured (held : Held) (asked : Request) (runs : ℕ → Experiment Guest)
    (arrive depart : List ℕ) : Type 0 where
  pub file : List ℕ
  pub input : List ℕ
  pub image : ImageParts
  pub table : Table
  pub selected : Option ℕ
  pub arrivals : List ℕ
  pub departures : List ℕ
  pub found : file_at held asked.target ≡ Some file
  pub given : IsInput held asked.input input
  pub program : load_answer file ≡ Ok image
  pub table_is : table_in file ≡ Ok table
  pub line_is : line_named (lines_in table image.areas) asked.line ≡ Ok selected
  pub arrivals_are : lines_named (lines_in table image.areas) [] asked.arrive ≡ Ok arrivals
  pub departures_are : lines_named (lines_in table image.areas) [] asked.depart ≡ Ok departures
  pub few : length (lines_of_both arrivals departures) ≤ MAX_POINTS
  pub runs_are : runs ≡ at_each (experiment_by_table image table input) selected asked.budget
      (lines_of_both arrivals departures)
  pub arrive_is : arrive ≡ places_among (lines_of_both arrivals departures) arrivals
  pub depart_is : depart ≡ places_among (lines_of_both arrivals departures) departures

-- After what was held before there is now a line for each speedup, as they rise and with 0 among
-- them. At each the delayed machine ends with a record, and the net part of that is what
-- the shortened machine ends with, whose selected line really costs less and which knows no delays.
-- The line is that of the latency of the shortened run's visits up to its own end.
pub record PrintsLatency (held : Held) (asked : Request)
    (before now : Option (List ℕ)) : Type 0 where
  pub runs : ℕ → Experiment Guest
  pub arrive : List ℕ
  pub depart : List ℕ
  pub is_measured : IsMeasured held asked runs arrive depart
  pub run : ℕ → Record
  pub delayed : All (λ speedup. IsDelayed (runs speedup) (run speedup)) (speedups_of asked)
  pub shortened : All (λ speedup. IsShortened (runs speedup) (net (run speedup)))
      (speedups_of asked)
  pub printed : Appends before now
      (latency_text arrive depart (λ speedup. net (run speedup)) (speedups_of asked))

-- if the arguments ask for a run, a profile, latencies or a path, such are printed
pub record PrintsShortened (words : List (List ℕ)) (held : Held)
    (before now : Option (List ℕ)) : Type 0 where
  pub runs : (asked : Request) → request_of words ≡ Some asked → asked.command ≡ Run
      → PrintsRun held asked before now
  pub profiles : (asked : Request) → request_of words ≡ Some asked → asked.command ≡ Profile
      → PrintsProfile held asked before now
  pub really : (asked : Request) → request_of words ≡ Some asked → asked.command ≡ Really
      → PrintsReally held asked before now
  pub latencies : (asked : Request) → request_of words ≡ Some asked → asked.command ≡ Latency
      → PrintsLatency held asked before now
  pub paths : (asked : Request) → request_of words ≡ Some asked → asked.command ≡ Path
      → PrintsPath held asked before now

-- arguments that ask for the same as others, apart from the number of workers
pub record AskAlike (words others : List (List ℕ)) : Type 0 where
  pub asked : Request
  pub workers : ℕ
  pub these : request_of words ≡ Some asked
  pub those : request_of others ≡ Some (record asked { workers = workers })

-- For any number of workers the bytes are the same: arguments that ask for the same,
-- apart from that number, have one verdict, with its status, its text and its line;
-- and what is printed is the text of each of them.
pub record PrintsForAnyWorkers (words : List (List ℕ)) (held : Held) (status : ℕ)
    (before now : Option (List ℕ)) : Type 0 where
  pub same : (others : List (List ℕ)) → AskAlike words others
      → verdict words held ≡ verdict others held
  pub printed : (others : List (List ℕ)) → AskAlike words others → status ≤ 1
      → Appends before now (verdict others held).text
