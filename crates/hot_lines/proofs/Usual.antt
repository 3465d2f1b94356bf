-- On the usual machine the lines cost what they cost in the run of the guest alone.
use Rattle.std.proofs.Common.{◌≡◌, ℕ, ◌≤◌, ◌++◌, Bool, true, if◌then◌else◌, List, map, length, take, Option, Some, None, is_none, refl, ap, ap₂, ◌∙◌, arith}
use Rattle.std.proofs.Math.Path.{fun_ext}
use Rattle.std.specs.List.{filter, range_with_len}
use Rattle.coz_types.specs.Image.{ImageParts}
use Rattle.coz_types.specs.Labels.{Text}
use Rattle.line_index.specs.Index.{Index, position_at}
use Rattle.line_index.specs.Lines.{Line}
use Rattle.progress_points.specs.Points.{Points, point_of}
use Rattle.machines.specs.Guest.{Experiment, IsLawful, enough}
use Rattle.machines.specs.Delayed.{Delayed, events}
use Rattle.machines.specs.Records.{Record, net}
use Rattle.machines.specs.Shortened.{NetVisit}
use Rattle.machines.specs.Standing.{standing, delayed_record}
use Rattle.guest_calls.specs.Guest.{Guest}
use Rattle.guest_calls.specs.Orderly.{IsOrderly}
use Rattle.timing_laws.specs.Following.{Follows}
use Rattle.timing_laws.specs.Noted.{note_of, last_line}
use Rattle.timing_laws.proofs.Follows.{standing_follows}
use Rattle.timing_model.specs.declared.timing.Timing.{Timing}
use Rattle.timing_model.specs.Timing.{IsUsual}
use Rattle.timed_guest.specs.Guest.{Timed}
use Rattle.timed_guest.specs.Retire.{line_counted}
use Rattle.timed_guest.proofs.Alone.{guest_alone}
use Rattle.run_engine.specs.declared.choice.Choice.{Choice}
use Rattle.run_engine.specs.Choices.{choice_of}
use Rattle.run_engine.specs.Run.{timed_experiment}
use Rattle.run_engine.proofs.Law.{lawful_run}
use Rattle.run_engine.proofs.Usual.{beside_none, usual_follows, usual_delayed}
use Rattle.run_counts.specs.Beginnings.{begun, cost_among}
use Rattle.run_counts.specs.Counts.{is_on, place_in}
use Rattle.run_counts.proofs.Following.{beginning_through, begun_follows, cost_follows}
use Rattle.command_texts.specs.Text.{net_visits_text}
use Rattle.hot_lines.specs.declared.lines.HotLine.{HotLine}
use Rattle.hot_lines.specs.Lines.{has_started, rank, lines_text, names_text}
use Rattle.hot_lines.specs.HotRun.{Runs, runs_of, line_by, plain_run, begun_in, cost_of, cost_on, none_of, all_of, line_in, lines_in, hot_text}

none_last : (line : Option ℕ) → last_line line None ≡ line
none_last None = refl
none_last (Some k) = refl

module _ (timing : Timing) (usual : IsUsual timing) (image : ImageParts) (index : Index) (points : Points) (input : List ℕ) (budget : ℕ) where
  abbrev pub timed : Runs Timed
  timed choice = timed_experiment timing image index (point_of points) input choice

  abbrev pub alone : Runs Guest
  alone = runs_of image index points input

  abbrev with_none : Guest → Timed
  with_none = beside_none timing index

  abbrev x : Experiment Guest
  x = plain_run alone budget

  abbrev y : Experiment Timed
  y = plain_run timed budget

  abbrev place : Guest → ℕ → Option ℕ
  place = line_by (position_at index)

  -- an instruction counts for the line of its address
  place_same : (g : Guest) (h : ℕ) → line_counted (with_none g) h ≡ place g h
  place_same g h =
      ap (λ (b : Bool). last_line (place g h) (if b then (note_of (with_none g).beside.notes h).last else None)) usual.charge
      ∙ none_last (place g h)

  law : IsLawful x IsOrderly
  law = lawful_run image (position_at index) (point_of points) input (choice_of None 0 budget) (omega arith)

  follows : Follows x y with_none IsOrderly (λ g. Unit {0})
  follows = usual_follows timing usual image index (point_of points) input (choice_of None 0 budget)

  begun_same : begun_in y ≡ map (beginning_through with_none) (begun_in x)
  begun_same =
      ap (λ (d : Delayed Timed). begun y (events d)) (standing_follows x y with_none IsOrderly (λ g. Unit {0}) follows law (enough x))
      ∙ begun_follows x y with_none IsOrderly (λ g. Unit {0}) follows law (events (standing x (enough x)))

  cost_same : (test : Timed → ℕ → Bool) (own : Guest → ℕ → Bool) → ((g : Guest) (h : ℕ) → test (with_none g) h ≡ own g h) → cost_of timed budget test ≡ cost_of alone budget own
  cost_same test own alike =
      ap (cost_among y test) begun_same
      ∙ cost_follows x y with_none (λ g h. (guest_alone (with_none g) usual).cycles h) test own alike (begun_in x)

  cost_on_same : (k : ℕ) → cost_on timed line_counted budget k ≡ cost_on alone place budget k
  cost_on_same k = cost_same (λ t h. is_on k (line_counted t h)) (λ g h. is_on k (place g h)) (λ g h. ap (is_on k) (place_same g h))

  none_same : (count : ℕ) → none_of timed line_counted budget count ≡ none_of alone place budget count
  none_same count =
      cost_same (λ t h. is_none (place_in count (line_counted t h))) (λ g h. is_none (place_in count (place g h)))
      (λ g h. ap (λ (o : Option ℕ). is_none (place_in count o)) (place_same g h))

  all_same : all_of timed budget ≡ all_of alone budget
  all_same = cost_same (λ t h. true) (λ g h. true) (λ g h. refl)

  record_same : (choice : Choice) → choice.speedup ≤ 95 → delayed_record (timed choice) ≡ delayed_record (alone choice)
  record_same choice small = usual_delayed timing usual image index (point_of points) input choice small

  -- what a line has
  abbrev line_with : ℕ → ℕ → ℕ → HotLine
  line_with k starts cost = record { line = k; starts = starts; cost = cost }

  line_same : (k : ℕ) → line_in timed line_counted budget k ≡ line_in alone place budget k
  line_same k =
      ap₂ (line_with k)
      (ap (λ (r : Record). r.starts) (record_same (choice_of (Some k) 0 budget) (omega arith)))
      (cost_on_same k)

  lines_same : (count : ℕ) → lines_in timed line_counted budget count ≡ lines_in alone place budget count
  lines_same count = ap (λ (line : ℕ → HotLine). rank (filter has_started (map line (range_with_len 0 count)))) (fun_ext line_same)

  -- the record is that of the guest alone
  pub plain_same : delayed_record (plain_run timed budget) ≡ delayed_record (plain_run alone budget)
  plain_same = record_same (choice_of None 0 budget) (omega arith)

  -- the text of these parts
  abbrev text_of : Bool → List Line → List NetVisit → List HotLine → ℕ → ℕ → Text
  text_of names lines visits hot none all = if names then names_text lines hot else net_visits_text visits ++ lines_text lines hot none all

  -- and so is the text of its lines
  pub text_same : (names : Bool) (top : ℕ) (lines : List Line) → hot_text names top budget timed line_counted lines ≡ hot_text names top budget alone (line_by (position_at index)) lines
  unfolding hot_text
  text_same names top lines =
      ap₂ (λ (visits : List NetVisit) (hot : List HotLine). text_of names lines visits (take top hot) (none_of timed line_counted budget (length lines)) (all_of timed budget))
      (ap (λ (r : Record). (net r).visits) plain_same) (lines_same (length lines))
      ∙ ap₂ (text_of names lines (net (delayed_record (plain_run alone budget))).visits (take top (lines_in alone place budget (length lines)))) (none_same (length lines)) all_same
