-- What the run that counts leaves is what its experiment gives.
use Rattle.std.proofs.Common.{◌≡◌, ℕ, ◌+◌, sum, subst, ◌++◌, if◌then◌else◌, Bool, List, map, length, None, Result, Ok, Err, IfOk, sym, ap, ap₂, ◌∙◌, take}
use Rattle.std.specs.declared.alloc.AllocError.{AllocError}
use Rattle.std.specs.List.{filter, range_with_len}
use Rattle.coz_types.specs.declared.ending.Ending.{Ending}
use Rattle.coz_types.specs.Image.{ImageParts}
use Rattle.machines.specs.Guest.{enough}
use Rattle.machines.specs.Delayed.{Delayed}
use Rattle.machines.specs.Shortened.{NetVisit}
use Rattle.machines.specs.KeptVisits.{net_of}
use Rattle.machines.specs.Records.{Record, net, net_visit, record_of}
use Rattle.machines.specs.Standing.{standing, delayed_record}
use Rattle.line_index.specs.Index.{Index}
use Rattle.progress_points.specs.Points.{Points, point_of}
use Rattle.timing_model.specs.declared.timing.Timing.{Timing}
use Rattle.timed_guest.specs.Guest.{Timed}
use Rattle.timed_guest.specs.Retire.{line_counted}
use Rattle.run_engine.specs.declared.choice.Choice.{Choice}
use Rattle.run_engine.specs.Choices.{choice_of}
use Rattle.run_engine.specs.Run.{timed_experiment}
use Rattle.run_engine.specs.Seen.{Seen, experiment_of, machine_view}
use Rattle.counted_run.specs.CountedRun.{plain_choice}
use Rattle.coz_types.specs.Labels.{Text}
use Rattle.command_texts.specs.Text.{net_visits_text}
use Rattle.hot_lines.specs.declared.lines.HotLine.{HotLine}
use Rattle.hot_lines.specs.Lines.{has_started, rank, lines_text, names_text}
use Rattle.hot_lines.specs.declared.left.HotRun.{HotRun}
use Rattle.hot_lines.specs.HotRun.{Runs, plain_run, all_of, none_of, cost_on, cost_seen, lines_in, line_seen, none_seen, all_seen, hot_text, hot_written, IsLeftBy}

pub of_ok : {T : Type 0} (r : Result T AllocError) (P Q : T → Type 0) → IfOk r P → ((t : T) → P t → Q t) → IfOk r Q
of_ok (Ok t) P Q p all = all t p
of_ok (Err e) P Q p all = p

module _ (image : ImageParts) (index : Index) (points : Points) (timing : Timing) (input : List ℕ) (budget : ℕ) where
  abbrev runs : Runs Timed
  runs choice = timed_experiment timing image index (point_of points) input choice

  -- a run of this choice that has ended
  abbrev ended_at : Seen (Delayed Timed) → Seen (Delayed Timed)
  ended_at s = record s { state = standing (experiment_of s) (enough (experiment_of s)) }

  abbrev made_with : Choice → Seen (Delayed Timed)
  made_with choice = machine_view image index points timing input (plain_choice choice) (λ x. standing x 0)

  abbrev pub whole_run : Seen (Delayed Timed)
  whole_run = ended_at (made_with (choice_of None 0 budget))

  pub seen_is : (old new : Seen (Delayed Timed)) (choice : Choice) → choice ≡ choice_of None 0 budget → old ≡ made_with choice
      → new.state ≡ standing (experiment_of old) (enough (experiment_of old)) → new ≡ record old { state = new.state } → new ≡ whole_run
  seen_is old new choice chosen made last rest =
      rest
      ∙ ap (λ (d : Delayed Timed). record old { state = d }) last
      ∙ ap ended_at made
      ∙ ap (λ (c : Choice). ended_at (made_with c)) chosen

  pub experiment_is : (old : Seen (Delayed Timed)) (choice : Choice) → choice ≡ choice_of None 0 budget → old ≡ made_with choice → experiment_of old ≡ plain_run runs budget
  experiment_is old choice chosen made = ap experiment_of made ∙ ap (λ (c : Choice). experiment_of (made_with c)) chosen

  module _ (seen : Seen (Delayed Timed)) (is : seen ≡ whole_run) (ending : Ending) (recorded : record_of (plain_run runs budget) seen.state ending ≡ delayed_record (plain_run runs budget)) where
    pub ending_of : (count top : ℕ) (run : HotRun) → IsLeftBy seen ending count top run → run.ending ≡ (delayed_record (plain_run runs budget)).ending
    ending_of count top run left = left.ending_is ∙ ap (λ (r : Record). r.ending) recorded

    pub none_is : (count top : ℕ) (run : HotRun) → IsLeftBy seen ending count top run → run.none ≡ none_of runs line_counted budget (length index.lines)
    none_is count top run left = left.none_is ∙ ap none_seen is

    pub all_is : (count top : ℕ) (run : HotRun) → IsLeftBy seen ending count top run → run.all ≡ all_of runs budget
    all_is count top run left = left.all_is ∙ ap all_seen is

    lines_are : (count top : ℕ) (run : HotRun) → count ≡ length index.lines → IsLeftBy seen ending count top run → run.lines ≡ take top (lines_in runs line_counted budget (length index.lines))
    lines_are count top run many left =
        left.lines_are
        ∙ ap (λ (n : ℕ). take top (rank (filter has_started (map (line_seen seen) (range_with_len 0 n))))) many
        ∙ ap (λ (s : Seen (Delayed Timed)). take top (rank (filter has_started (map (line_seen s) (range_with_len 0 (length index.lines)))))) is

    visits_are : (count top : ℕ) (run : HotRun) → IsLeftBy seen ending count top run → map net_of run.visits ≡ (net (delayed_record (plain_run runs budget))).visits
    visits_are count top run left = left.visits_are ∙ ap (λ (r : Record). map net_visit r.visits) recorded

    -- the text of these parts
    abbrev text_of : Bool → List NetVisit → List HotLine → ℕ → ℕ → Text
    text_of names visits hot none all = if names then names_text index.lines hot else net_visits_text visits ++ lines_text index.lines hot none all

    pub text_is : (names : Bool) (count top : ℕ) (run : HotRun) → count ≡ length index.lines → IsLeftBy seen ending count top run
        → hot_written names index.lines run ≡ hot_text names top budget runs line_counted index.lines
    unfolding hot_text
    text_is names count top run many left =
        ap₂ (λ (visits : List NetVisit) (hot : List HotLine). text_of names visits hot run.none run.all) (visits_are count top run left) (lines_are count top run many left)
        ∙ ap₂ (λ (none all : ℕ). text_of names (net (delayed_record (plain_run runs budget))).visits (take top (lines_in runs line_counted budget (length index.lines))) none all)
        (none_is count top run left) (all_is count top run left)

    pub whole_is : (count top : ℕ) (run : HotRun) → IsLeftBy seen ending count top run
        → sum (map (cost_on runs line_counted budget) (range_with_len 0 (length index.lines))) + run.none ≡ run.all
    whole_is count top run left =
        let whole : sum (map (cost_on runs line_counted budget) (range_with_len 0 (length index.lines))) + none_of runs line_counted budget (length index.lines) ≡ all_of runs budget =
        subst (λ (s : Seen (Delayed Timed)). sum (map (cost_seen s) (range_with_len 0 (length s.index.lines))) + none_seen s ≡ all_seen s) is left.whole in
        ap (λ (n : ℕ). sum (map (cost_on runs line_counted budget) (range_with_len 0 (length index.lines))) + n) (none_is count top run left)
        ∙ whole
        ∙ sym (all_is count top run left)
