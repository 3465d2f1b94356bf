-- The run that counts what each line costs, and what is printed of it.
use Rattle.std.specs.Prelude.{◌≡◌, ℕ, ◌+◌, sum, Bool, true, List, map, take, length, ◌++◌, Option, Some, None, is_none, if◌then◌else◌}
use Rattle.std.specs.List.{filter, range_with_len}
use Rattle.coz_types.specs.declared.ending.Ending.{Ending}
use Rattle.coz_types.specs.Image.{ImageParts}
use Rattle.coz_types.specs.Labels.{Text}
use Rattle.machines.specs.Guest.{Experiment, enough}
use Rattle.machines.specs.Delayed.{Delayed, events}
use Rattle.machines.specs.KeptVisits.{net_of}
use Rattle.machines.specs.Records.{net, net_visit}
use Rattle.machines.specs.Standing.{standing, delayed_record}
use Rattle.line_index.specs.Index.{Index, position_at}
use Rattle.line_index.specs.Lines.{Line}
use Rattle.progress_points.specs.Points.{Points, point_of}
use Rattle.guest_calls.specs.Guest.{Guest, pc_of}
use Rattle.timed_guest.specs.Guest.{Timed}
use Rattle.run_engine.specs.declared.choice.Choice.{Choice}
use Rattle.run_engine.specs.Choices.{choice_of}
use Rattle.run_engine.specs.Run.{experiment}
use Rattle.run_engine.specs.Seen.{Seen, experiment_of}
use Rattle.run_counts.specs.Beginnings.{Beginning, begun, cost_among}
use Rattle.run_counts.specs.Counts.{is_on, place_in}
use Rattle.counted_run.specs.CountedRun.{selecting_line, on_line, on_none}
use Rattle.command_texts.specs.Text.{net_visits_text}
use Rattle.hot_lines.specs.declared.lines.HotLine.{HotLine}
use Rattle.hot_lines.specs.Lines.{has_started, rank, lines_text, names_text}
use Rattle.hot_lines.specs.declared.left.HotRun.{HotRun}

-- ---- the run

-- the experiments of a program, by what is chosen
abbrev pub Runs : Type 0 → Type 0
Runs G = Choice → Experiment G

-- of the guest alone
abbrev pub runs_of : ImageParts → Index → Points → List ℕ → Runs Guest
runs_of image index points input choice =
    experiment image (position_at index) (point_of points) input choice

-- the line of the address of a hart's next instruction, if `position` gives that of each address
abbrev pub line_by : (ℕ → Option ℕ) → Guest → ℕ → Option ℕ
line_by position g h = position (pc_of g h)

-- with no line selected
abbrev pub plain_run : {G : Type 0} → Runs G → ℕ → Experiment G
plain_run runs budget = runs (choice_of None 0 budget)

-- what a whole run begins
abbrev pub begun_in : {G : Type 0} → Experiment G → List (Beginning G)
begun_in x = begun x (events (standing x (enough x)))

-- ---- what its lines cost: `place` gives the position of the line that an instruction counts for

-- the work of a test's instructions that the run begins
abbrev pub cost_of : {G : Type 0} → Runs G → ℕ → (G → ℕ → Bool) → ℕ
cost_of runs budget test =
    let x = plain_run runs budget in cost_among x test (begun_in x)

-- of the line at a position
abbrev pub cost_on : {G : Type 0} → Runs G → (G → ℕ → Option ℕ) → ℕ → ℕ → ℕ
cost_on runs place budget k = cost_of runs budget (λ g h. is_on k (place g h))

-- of code that counts for none of this many lines
abbrev pub none_of : {G : Type 0} → Runs G → (G → ℕ → Option ℕ) → ℕ → ℕ → ℕ
none_of runs place budget count =
    cost_of runs budget (λ g h. is_none (place_in count (place g h)))

-- all work
abbrev pub all_of : {G : Type 0} → Runs G → ℕ → ℕ
all_of runs budget = cost_of runs budget (λ g h. true)

-- a line starts as often as in the run that selects it at speedup 0
abbrev pub line_in : {G : Type 0} → Runs G → (G → ℕ → Option ℕ) → ℕ → ℕ → HotLine
line_in runs place budget k = record {
  line = k;
  starts = (delayed_record (runs (choice_of (Some k) 0 budget))).starts;
  cost = cost_on runs place budget k;
}

-- the lines that start, of this many, by falling cost and then in their order
abbrev pub lines_in : {G : Type 0} → Runs G → (G → ℕ → Option ℕ) → ℕ → ℕ → List HotLine
lines_in runs place budget count =
    rank (filter has_started (map (line_in runs place budget) (range_with_len 0 count)))

-- ---- the text

-- the labels of some lines, or the visits of a run and a line for each
unfoldable pub hot_text : {G : Type 0} → Bool → ℕ → ℕ → Runs G → (G → ℕ → Option ℕ) → List Line
    → Text
hot_text names top budget runs place lines =
    let hot = take top (lines_in runs place budget (length lines)) in
    if names then names_text lines hot
    else net_visits_text (net (delayed_record (plain_run runs budget))).visits
    ++ lines_text lines hot (none_of runs place budget (length lines)) (all_of runs budget)

abbrev pub hot_written : Bool → List Line → HotRun → Text
hot_written names lines run =
    if names then names_text lines run.lines
    else net_visits_text (map net_of run.visits) ++ lines_text lines run.lines run.none run.all

-- ---- the same, as the run that counts is seen

abbrev pub begun_seen : Seen (Delayed Timed) → List (Beginning Timed)
begun_seen seen = begun (experiment_of seen) (events seen.state)

abbrev pub cost_seen : Seen (Delayed Timed) → ℕ → ℕ
cost_seen seen k = cost_among (experiment_of seen) (on_line k) (begun_seen seen)

abbrev pub line_seen : Seen (Delayed Timed) → ℕ → HotLine
line_seen seen k = record {
  line = k;
  starts = (delayed_record (experiment_of (selecting_line (record { 0 = k }) 0 seen))).starts;
  cost = cost_seen seen k;
}

abbrev pub none_seen : Seen (Delayed Timed) → ℕ
none_seen seen = cost_among (experiment_of seen) (on_none (length seen.index.lines)) (begun_seen seen)

abbrev pub all_seen : Seen (Delayed Timed) → ℕ
all_seen seen = cost_among (experiment_of seen) (λ g h. true) (begun_seen seen)

-- a run that has ended so leaves this, of this many lines
pub record IsLeftBy (seen : Seen (Delayed Timed)) (ending : Ending) (count top : ℕ)
    (run : HotRun) : Type 0 where
  pub ending_is : run.ending ≡ ending
  pub visits_are : map net_of run.visits ≡ map net_visit seen.state.visits
  pub lines_are : run.lines
      ≡ take top (rank (filter has_started (map (line_seen seen) (range_with_len 0 count))))
  pub none_is : run.none ≡ none_seen seen
  pub all_is : run.all ≡ all_seen seen
  pub whole : sum (map (cost_seen seen) (range_with_len 0 (length seen.index.lines)))
      + none_seen seen ≡ all_seen seen
