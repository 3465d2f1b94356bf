-- The main theorem on each machine of the timing model, for the profile that is printed: the net
-- part of what the delayed run of a pair leaves is what its shortened run leaves. In the shortened
-- run the selected line really costs less, and there are no delays.
-- Read guest_timing/specs/Timed.antt first: what a run on a machine is, and `timed_runs_keep_the_law`.
-- `serve_gain` of this crate has this as its clauses `headline` and `workers`.
use Rattle.std.specs.Prelude.{◌≡◌, List, ℕ, [], Option, Some, Ok, All, ◌≤◌, ◌++◌, length}
use Rattle.std.specs.Io.KnownBytes.{Appends}
use Rattle.coz_types.specs.declared.TheConstants.{MAX_POINTS}
use Rattle.coz_types.specs.Image.{ImageParts}
use Rattle.coz_files.specs.Held.{Held, file_at}
use Rattle.elf_load.specs.Loaded.{load_answer}
use Rattle.dwarf_lines.specs.Registers.{Table}
use Rattle.line_index.specs.Lines.{Line}
use Rattle.line_index.specs.Listed.{lines_in}
use Rattle.experiment_plan.specs.declared.experiment.TheConstants.{MAX_PAIRS}
use Rattle.experiment_plan.specs.declared.experiment.Experiment.{Experiment as Pair}
use Rattle.profile_book.specs.Profile.{profile_text}
use Rattle.machines.specs.Guest.{Experiment}
use Rattle.machines.specs.Records.{Record, net, IsDelayed, IsShortened}
use Rattle.guest_calls.specs.Guest.{Guest}
use Rattle.run_engine.specs.Choices.{choice_of}
use Rattle.run_engine.specs.declared.choice.Choice.{Choice}
use Rattle.timing_laws.specs.Noted.{Noted}
use Rattle.timing_laws.specs.Cores.{Cores}
use Rattle.timing_line.specs.Line.{timing_text}
use Rattle.program_load.specs.LineTable.{table_in}
use Rattle.program_load.specs.Selection.{lines_named}
use Rattle.coz_commands.specs.Profiled.{all_lines, pairs_of, profile_with, timed_by_table}
use Rattle.coz_cli.specs.Headline.{IsInput}
use Rattle.gain_words.specs.declared.asked.GainRequest.{GainRequest}
use Rattle.gain_words.specs.Words.{gain_request}
use Rattle.gain_cli.specs.Verdict.{verdict}

-- the runs of a program on a machine, by the line that is selected and the points
abbrev pub Runs : Type 0
Runs = Choice → List ℕ → Experiment (Cores (Noted Guest))

-- the run of a pair
abbrev pub run_of_pair : Runs → ℕ → List ℕ → Pair → Experiment (Cores (Noted Guest))
run_of_pair runs budget points pair =
    runs (choice_of (Some pair.line.0) pair.speedup budget) points

-- The plan that a request asks for: its path names a file that is a program with a line table, its
-- input is that of the named file, the lines that it names are the program's, the pairs are each
-- of the lines to be selected with each speedup, and the runs are those on its machine.
pub record IsPlanned (held : Held) (asked : GainRequest) (runs : Runs) (lines : List Line)
    (points : List ℕ) (pairs : List Pair) : Type 0 where
  pub file : List ℕ
  pub input : List ℕ
  pub image : ImageParts
  pub table : Table
  pub selected : List ℕ
  pub found : file_at held asked.profile.target ≡ Some file
  pub given : IsInput held asked.profile.input input
  pub program : load_answer file ≡ Ok image
  pub table_is : table_in file ≡ Ok table
  pub runs_are : runs ≡ timed_by_table asked.timing image table input
  pub lines_are : lines ≡ lines_in table image.areas
  pub selected_are : lines_named lines (all_lines lines) asked.profile.lines ≡ Ok selected
  pub points_are : lines_named lines [] asked.profile.progress ≡ Ok points
  pub few_points : length points ≤ MAX_POINTS
  pub planned : pairs ≡ pairs_of selected asked.profile.speedups
  pub few_pairs : length pairs ≤ MAX_PAIRS

-- After what was held before there is now the line of the machine, if it isn't the usual one, and
-- the text of a profile: of the budget, the points' labels, and of each pair of the plan, in its
-- order, the summary of the record with which the delayed machine ends on the pair's run. The net
-- part of each such record is what the shortened machine ends with.
pub record PrintsProfile (held : Held) (asked : GainRequest)
    (before now : Option (List ℕ)) : Type 0 where
  pub runs : Runs
  pub lines : List Line
  pub points : List ℕ
  pub pairs : List Pair
  pub is_planned : IsPlanned held asked runs lines points pairs
  pub run : Pair → Record
  pub delayed : All (λ pair.
      IsDelayed (run_of_pair runs asked.profile.budget points pair) (run pair)) pairs
  pub shortened : All (λ pair.
      IsShortened (run_of_pair runs asked.profile.budget points pair) (net (run pair))) pairs
  pub printed : Appends before now (timing_text asked.timing
      ++ profile_text (profile_with run lines asked.profile.budget points pairs))

-- what the words ask for is printed
abbrev pub PrintsGain : List (List ℕ) → Held → Option (List ℕ) → Option (List ℕ) → Type 0
PrintsGain words held before now =
    (asked : GainRequest) → gain_request words ≡ Some asked → PrintsProfile held asked before now

-- arguments that ask for the same as others, apart from the number of workers
pub record AskAlike (words others : List (List ℕ)) : Type 0 where
  pub asked : GainRequest
  pub workers : ℕ
  pub these : gain_request words ≡ Some asked
  pub those : gain_request others
      ≡ Some (record asked { profile = record (asked.profile) { workers = workers } })

-- For any number of workers the bytes are the same: arguments that ask for the same,
-- apart from that number, have one verdict, with its status, its text and its line;
-- and what is printed is the text of each of them.
pub record PrintsForAnyWorkers (words : List (List ℕ)) (held : Held) (status : ℕ)
    (before now : Option (List ℕ)) : Type 0 where
  pub same : (others : List (List ℕ)) → AskAlike words others
      → verdict words held ≡ verdict others held
  pub printed : (others : List (List ℕ)) → AskAlike words others → status ≤ 1
      → Appends before now (verdict others held).text
