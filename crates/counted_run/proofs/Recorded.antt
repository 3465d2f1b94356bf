-- What a run that counts leaves, and what the run that selects a line starts.
use Rattle.std.proofs.Common.{◌≡◌, ℕ, ◌+◌, ◌≤◌, ◌∙◌, ◌<◌, ◌^◌, Bool, true, false, List, map, length, get_or, Option, Some, None, IsSome, refl, sym, ap, ap₂, subst, arith}
use Rattle.std.specs.List.{range_with_len, sum}
use Rattle.std.proofs.Math.Path.{fun_ext}
use Rattle.std.proofs.lemmas.List.{get_or_read}
use Rattle.coz_types.specs.declared.LineId.{LineId}
use Rattle.coz_types.specs.declared.ending.Ending.{Ending}
use Rattle.coz_types.specs.declared.record.Outcome.{Outcome}
use Rattle.coz_types.specs.Image.{ImageParts}
use Rattle.line_index.specs.Index.{Index}
use Rattle.line_index.specs.Keys.{is_at}
use Rattle.progress_points.specs.Points.{Points, point_of}
use Rattle.machines.specs.Guest.{Experiment, IsLawful, enough}
use Rattle.machines.specs.Delayed.{Delayed, events}
use Rattle.machines.specs.Shortened.{Shortened, shortened}
use Rattle.machines.specs.Standing.{standing, delayed_record}
use Rattle.machines.specs.Records.{net, record_of, IsDelayed, shortened_record, net_visit}
use Rattle.machines.specs.KeptVisits.{net_of}
use Rattle.machines.specs.Lead.{at_speedup}
use Rattle.machines.specs.Selecting.{selecting, uncounted_record}
use Rattle.machines.proofs.Unselected.{unselected_record}
use Rattle.machines.proofs.Standing.{agrees, last, recorded_delayed, delayed_is, net_is}
use Rattle.timing_model.specs.declared.timing.Timing.{Timing}
use Rattle.timed_guest.specs.Guest.{Timed}
use Rattle.timed_guest.specs.Retire.{is_selected_by, line_counted}
use Rattle.timed_guest.specs.Orderly.{IsOrderly}
use Rattle.timed_guest.proofs.Counting.{counted_is, none_selected}
use Rattle.run_engine.specs.declared.choice.Choice.{Choice}
use Rattle.run_engine.specs.declared.choice.Setting.{Setting}
use Rattle.run_engine.specs.declared.engine.Engine.{Engine}
use Rattle.run_engine.specs.Engine.{events_of}
use Rattle.run_engine.specs.Run.{experiment_in, timed_experiment}
use Rattle.run_engine.specs.Seen.{Seen, machine_view, view_in, experiment_of}
use Rattle.run_engine.specs.Begin.{many}
use Rattle.run_engine.proofs.Many.{many_few}
use Rattle.run_engine.proofs.Law.{lawful_in, within_enough}
use Rattle.virtual_run.specs.DelayedRun.{outcome_of, IsSmall}
use Rattle.run_counts.specs.Beginnings.{Beginning, begun, all_begun, starts_among, cost_among}
use Rattle.run_counts.specs.declared.tallies.Tally.{Tally}
use Rattle.run_counts.specs.Counts.{Counts, no_tally, is_on, AreCounts}
use Rattle.run_counts.proofs.Counted.{starts_counted, none_started}
use Rattle.run_counts.proofs.Ended.{ended_all}
use Rattle.run_counts.proofs.Undelayed.{undelayed}
use Rattle.run_counts.proofs.Within.{whole}
use Rattle.counted_run.specs.CountedRun.{plain_choice, selecting_line, on_line, on_none, IsCounting}

-- with no line selected, nothing is, and with a line the instructions that count for it
none_is_selected : is_selected_by None ≡ (λ _ _. false)
none_is_selected = fun_ext (λ t. fun_ext (λ h. none_selected t h))

-- a place is that of a line
on_is_at : (k : ℕ) (o : Option ℕ) → is_at k o ≡ is_on k o
on_is_at k None = refl
on_is_at k (Some j) = refl

line_is_selected : (line : ℕ) → is_selected_by (Some line) ≡ on_line line
line_is_selected line = fun_ext (λ t. fun_ext (λ h. counted_is t h line ∙ on_is_at line (line_counted t h)))

module _ (timing : Timing) (image : ImageParts) (index : Index) (point : ℕ → Option ℕ) (input : List ℕ) (choice : Choice) where
  abbrev with : Choice → Experiment Timed
  with choice = timed_experiment timing image index point input choice

  abbrev run : Experiment Timed
  run = with choice

  -- the same with another test of what is selected
  plain_is : with (plain_choice choice) ≡ at_speedup 0 (selecting (λ _ _. false) run)
  plain_is = ap (λ (test : Timed → ℕ → Bool). at_speedup 0 (selecting test run)) none_is_selected

  line_is : (line : LineId) (q : ℕ) → with (record choice { selected = Some line; speedup = q }) ≡ at_speedup q (selecting (on_line line.0) run)
  line_is line q = ap (λ (test : Timed → ℕ → Bool). at_speedup q (selecting test run)) (line_is_selected line.0)

  module _ (line : LineId) (none : choice.selected ≡ None) (zero : choice.speedup ≡ 0) where
    abbrev test : Timed → ℕ → Bool
    test = on_line line.0

    run_is : at_speedup 0 (selecting (λ _ _. false) run) ≡ run
    run_is =
        let same : choice ≡ plain_choice choice = ap₂ (λ (s : Option LineId) (q : ℕ). record choice { selected = s; speedup = q }) none zero in
        sym (ap with same ∙ plain_is)

    pub line_starts : (delayed_record (with (record choice { selected = Some line; speedup = 0 }))).starts ≡ starts_among run test (all_begun run)
    line_starts =
        ap (λ (x : Experiment Timed). (delayed_record x).starts) (line_is line 0)
        ∙ starts_counted run test (λ _ _. false)
        ∙ ap (λ (x : Experiment Timed). starts_among run test (all_begun x)) run_is

    -- what is selected changes the starts alone
    pub line_record : uncounted_record (delayed_record (with (record choice { selected = Some line; speedup = 0 }))) ≡ uncounted_record (delayed_record run)
    line_record =
        ap (λ (x : Experiment Timed). uncounted_record (delayed_record x)) (line_is line 0)
        ∙ unselected_record run test (λ _ _. false)
        ∙ ap (λ (x : Experiment Timed). uncounted_record (delayed_record x)) run_is

    -- a line that never starts changes nothing
    pub line_unstarted : starts_among run test (all_begun run) ≡ 0 → (q : ℕ) → delayed_record (with (record choice { selected = Some line; speedup = q })) ≡ delayed_record run
    line_unstarted unstarted q =
        ap delayed_record (line_is line q)
        ∙ none_started run test (ap (λ (x : Experiment Timed). starts_among run test (all_begun x)) run_is ∙ unstarted) q
        ∙ ap delayed_record run_is

module _ (image : ImageParts) (input : List ℕ) (setting : Setting) (engine : Engine) (c : Counts) (now : IsCounting image input setting engine c) where
  abbrev pub x : Experiment Timed
  x = experiment_in image input setting

  law : IsLawful x IsOrderly
  law = lawful_in image input setting now.valid.choice.speedup

  abbrev n : ℕ
  n = events_of engine

  abbrev d : Delayed Timed
  d = standing x n

  within_now : n ≤ enough x
  within_now = within_enough image input setting now.valid engine now.reached

  pub ending_is : d.ending ≡ engine.ending
  ending_is = (agrees x IsOrderly law n).ending ∙ ap (λ (o : Shortened Timed). o.ending) now.reached.reached.state

  pub events_are : events d ≡ n
  events_are =
      let a = agrees x IsOrderly law n in
      let retired : d.retired ≡ engine.retired = a.retired ∙ ap (λ (o : Shortened Timed). o.retired) now.reached.reached.state in
      let wakes : d.wakes ≡ engine.wakes = a.wakes ∙ ap (λ (o : Shortened Timed). o.wakes) now.reached.reached.state in
      ap₂ (λ (m k : ℕ). m + k) retired wakes

  pub retired_is : engine.retired ≡ d.retired
  retired_is = sym ((agrees x IsOrderly law n).retired ∙ ap (λ (o : Shortened Timed). o.retired) now.reached.reached.state)

  pub output_is : engine.guest.guest.output ≡ d.guest.guest.output
  output_is = ap (λ (t : Timed). t.guest.output) (sym ((agrees x IsOrderly law n).guest ∙ ap (λ (o : Shortened Timed). o.guest) now.reached.reached.state))

  pub visits_are : map net_of engine.visits.kept ≡ map net_visit d.visits
  visits_are = sym ((agrees x IsOrderly law n).visits ∙ ap (λ (o : Shortened Timed). o.visits) now.reached.reached.state)

  pub time_is : IsSome d.ending → engine.time ≡ d.now
  time_is over =
      let is : d.now ≡ (shortened x n).time + d.delay = (agrees x IsOrderly law n).time over in
      let none : d.delay ≡ 0 = undelayed x now.no_speedup n in
      let time : (shortened x n).time ≡ engine.time = ap (λ (o : Shortened Timed). o.time) now.reached.reached.state in
      omega arith

  some_ending : (o : Option Ending) → IsSome o → (e : Ending) × (o ≡ Some e)
  some_ending (Some e) is = (e, refl)
  some_ending None is = absurd (let no : false ≡ true = is in cc)

  pub all_is : IsSome d.ending → begun x n ≡ all_begun x
  all_is over = let e = some_ending d.ending over in ended_all x IsOrderly law n e.0 within_now e.1

  pub starts_are : (line : LineId) → IsSome d.ending
      → starts_among x (on_line line.0) (begun x n)
      ≡ (delayed_record (timed_experiment setting.timing image setting.index.now (point_of setting.points.now) input (record setting.choice { selected = Some line; speedup = 0 }))).starts
  starts_are line over =
      ap (λ (bs : List (Beginning Timed)). starts_among x (on_line line.0) bs) (all_is over)
      ∙ sym (line_starts setting.timing image setting.index.now (point_of setting.points.now) input setting.choice line now.unselected now.no_speedup)

  starts_now : d.starts ≡ engine.starts
  starts_now = (agrees x IsOrderly law n).starts ∙ ap (λ (o : Shortened Timed). o.starts) now.reached.reached.state

  same_outcome : (e : Ending) (time now delay none retired other starts count : ℕ) → time ≡ now → none ≡ delay → retired ≡ other → starts ≡ count
      → let one : Outcome = record { ending = e; time = time; delay = none; retired = retired; starts = starts } in
      let same : Outcome = record { ending = e; time = now; delay = delay; retired = other; starts = count } in
      one ≡ same
  same_outcome e time now delay none retired other starts count same_time same_delay same_retired same_starts = cc

  outcome_here : (e : Ending) → engine.ending ≡ Some e → Some (record { ending = e; time = engine.time; delay = 0; retired = engine.retired; starts = engine.starts }) ≡ outcome_of d
  outcome_here e ended =
      let over : d.ending ≡ Some e = ending_is ∙ ended in
      rw over
      (ap Some (same_outcome e engine.time d.now d.delay 0 engine.retired d.retired engine.starts d.starts
      (time_is (subst IsSome (sym over) refl)) (sym (undelayed x now.no_speedup n)) retired_is (sym starts_now)))

  none_here : engine.ending ≡ None → ◌≡◌ {A = Option Outcome} None (outcome_of d)
  none_here goes = rw (ending_is ∙ goes) refl

  pub small_now : (e : Ending) → engine.ending ≡ Some e → IsSmall (record { ending = e; time = engine.time; delay = 0; retired = engine.retired; starts = engine.starts })
  small_now e ended =
      let below : engine.retired ≤ setting.choice.budget = now.reached.retired in
      let budget : setting.choice.budget ≤ 10 ^ 12 = now.valid.choice.few in
      let most : many engine.schedule ≤ length engine.schedule = many_few engine.schedule in
      let room : length engine.schedule ≡ 256 = now.reached.room in
      let kept : engine.starts ≤ n + many engine.schedule = now.reached.few in
      let within = within_now in
      record {
        ending = now.trap e ended;
        time = now.soon;
        retired = omega arith;
        starts = omega arith;
      }

  -- what is seen of it
  abbrev pub seen : Seen (Delayed Timed)
  seen = view_in image input setting (λ x. standing x (events_of engine))

  counts_here : AreCounts x line_counted (length setting.index.now.lines) (begun x (events d)) c
  counts_here = subst (λ (m : ℕ). AreCounts x line_counted (length setting.index.now.lines) (begun x m) c) (sym events_are) now.counts_are

  record_here : (line : LineId) → IsSome d.ending
      → starts_among x (on_line line.0) (begun x (events d)) ≡ (delayed_record (experiment_of (selecting_line line 0 seen))).starts
  record_here line over =
      ap (λ (m : ℕ). starts_among x (on_line line.0) (begun x m)) events_are
      ∙ starts_are line over

  same_here : (line : LineId) → uncounted_record (delayed_record (experiment_of (selecting_line line 0 seen))) ≡ uncounted_record (delayed_record (experiment_of seen))
  same_here line = line_record setting.timing image setting.index.now (point_of setting.points.now) input setting.choice line now.unselected now.no_speedup

  unstarted_here : (line : LineId) → IsSome d.ending → starts_among x (on_line line.0) (begun x (events d)) ≡ 0
      → (q : ℕ) → delayed_record (experiment_of (selecting_line line q seen)) ≡ delayed_record (experiment_of seen)
  unstarted_here line over none =
      line_unstarted setting.timing image setting.index.now (point_of setting.points.now) input setting.choice line now.unselected now.no_speedup
      (ap (λ (bs : List (Beginning Timed)). starts_among x (on_line line.0) bs) (sym (ap (begun x) events_are ∙ all_is over)) ∙ none)

  module _ (v : Seen (Delayed Timed)) (is : view_in image input setting (λ x. standing x (events_of engine)) ≡ v) where
    abbrev all_of : List (Beginning Timed)
    all_of = begun (experiment_of v) (events v.state)

    pub counts_seen : AreCounts (experiment_of v) line_counted (length v.index.lines) (begun (experiment_of v) (events v.state)) c
    counts_seen = subst (λ (v : Seen (Delayed Timed)). AreCounts (experiment_of v) line_counted (length v.index.lines) (begun (experiment_of v) (events v.state)) c) is counts_here

    pub record_seen : (line : LineId) → IsSome v.state.ending
        → starts_among (experiment_of v) (on_line line.0) (begun (experiment_of v) (events v.state)) ≡ (delayed_record (experiment_of (selecting_line line 0 v))).starts
    record_seen line =
        subst (λ (v : Seen (Delayed Timed)). IsSome v.state.ending
        → starts_among (experiment_of v) (on_line line.0) (begun (experiment_of v) (events v.state)) ≡ (delayed_record (experiment_of (selecting_line line 0 v))).starts) is (record_here line)

    pub same_seen_record : (line : LineId) → uncounted_record (delayed_record (experiment_of (selecting_line line 0 v))) ≡ uncounted_record (delayed_record (experiment_of v))
    same_seen_record line =
        subst (λ (v : Seen (Delayed Timed)). uncounted_record (delayed_record (experiment_of (selecting_line line 0 v))) ≡ uncounted_record (delayed_record (experiment_of v))) is (same_here line)

    pub unstarted_seen : (line : LineId) → IsSome v.state.ending → starts_among (experiment_of v) (on_line line.0) (begun (experiment_of v) (events v.state)) ≡ 0
        → (q : ℕ) → delayed_record (experiment_of (selecting_line line q v)) ≡ delayed_record (experiment_of v)
    unstarted_seen line =
        subst (λ (v : Seen (Delayed Timed)). IsSome v.state.ending → starts_among (experiment_of v) (on_line line.0) (begun (experiment_of v) (events v.state)) ≡ 0
        → (q : ℕ) → delayed_record (experiment_of (selecting_line line q v)) ≡ delayed_record (experiment_of v)) is (unstarted_here line)

    pub line_below : (line : ℕ) → line < length v.index.lines → line < length c.lines
    line_below line below = let room = counts_seen.room in omega arith

    pub read_seen : (line : ℕ) (t : Tally) → line < length v.index.lines → t ≡ get_or c.lines line t → t ≡ get_or c.lines line no_tally
    read_seen line t below read = get_or_read c.lines line t (line_below line below) read no_tally

    pub starts_seen : (line : ℕ) (t : Tally) → line < length v.index.lines → t ≡ get_or c.lines line t → t.starts ≡ starts_among (experiment_of v) (on_line line) (begun (experiment_of v) (events v.state))
    starts_seen line t below read = ap (λ (t : Tally). t.starts) (get_or_read c.lines line t (line_below line below) read no_tally) ∙ counts_seen.starts line below

    pub cost_seen : (line : ℕ) (t : Tally) → line < length v.index.lines → t ≡ get_or c.lines line t → t.cost ≡ cost_among (experiment_of v) (on_line line) (begun (experiment_of v) (events v.state))
    cost_seen line t below read = ap (λ (t : Tally). t.cost) (get_or_read c.lines line t (line_below line below) read no_tally) ∙ counts_seen.cost line below

    pub whole_seen : sum (map (λ line. cost_among (experiment_of v) (on_line line) (begun (experiment_of v) (events v.state))) (range_with_len 0 (length v.index.lines)))
        + cost_among (experiment_of v) (on_none (length v.index.lines)) (begun (experiment_of v) (events v.state)) ≡ c.all
    whole_seen = whole (experiment_of v) line_counted (length v.index.lines) (begun (experiment_of v) (events v.state)) c counts_seen ∙ sym counts_seen.all

    pub time_seen : IsSome v.state.ending → engine.time ≡ v.state.now
    time_seen = subst (λ (v : Seen (Delayed Timed)). IsSome v.state.ending → engine.time ≡ v.state.now) is time_is

    pub retired_seen : engine.retired ≡ v.state.retired
    retired_seen = retired_is ∙ ap (λ (v : Seen (Delayed Timed)). v.state.retired) is

    pub output_seen : engine.guest.guest.output ≡ v.state.guest.guest.output
    output_seen = output_is ∙ ap (λ (v : Seen (Delayed Timed)). v.state.guest.guest.output) is

    pub outcome_seen : (e : Ending) → engine.ending ≡ Some e → Some (record { ending = e; time = engine.time; delay = 0; retired = engine.retired; starts = engine.starts }) ≡ outcome_of v.state
    outcome_seen e over = subst (λ (v : Seen (Delayed Timed)). Some (record { ending = e; time = engine.time; delay = 0; retired = engine.retired; starts = engine.starts }) ≡ outcome_of v.state) is (outcome_here e over)

    pub none_seen : engine.ending ≡ None → ◌≡◌ {A = Option Outcome} None (outcome_of v.state)
    none_seen goes = subst (λ (v : Seen (Delayed Timed)). ◌≡◌ {A = Option Outcome} None (outcome_of v.state)) is (none_here goes)

    pub goes_seen : engine.ending ≡ None → v.state.ending ≡ None
    goes_seen goes = subst (λ (v : Seen (Delayed Timed)). v.state.ending ≡ None) is (ending_is ∙ goes)

    pub visits_seen : map net_of engine.visits.kept ≡ map net_visit v.state.visits
    visits_seen = visits_are ∙ ap (λ (v : Seen (Delayed Timed)). map net_visit v.state.visits) is

  module _ (old : Experiment Timed) (same : old ≡ experiment_in image input setting) (e : Ending) (ended : engine.ending ≡ Some e) where
    over : d.ending ≡ Some e
    over = ending_is ∙ ended

    pub record_is : record_of old d e ≡ delayed_record old
    record_is = subst (λ (o : Experiment Timed). record_of o d e ≡ delayed_record o) (sym same) (recorded_delayed x IsOrderly law n e within_now over)

    pub last_is : d ≡ standing old (enough old)
    last_is = subst (λ (o : Experiment Timed). d ≡ standing o (enough o)) (sym same) (last x IsOrderly law n e within_now over)

    pub delayed_run : IsDelayed old (delayed_record old)
    delayed_run = subst (λ (o : Experiment Timed). IsDelayed o (delayed_record o)) (sym same) (delayed_is x IsOrderly law now.valid.choice.some_budget)

    pub law_is : net (delayed_record old) ≡ shortened_record old
    law_is = subst (λ (o : Experiment Timed). net (delayed_record o) ≡ shortened_record o) (sym same) (net_is x IsOrderly law now.valid.choice.some_budget)

-- what is seen of a run with the same parts is the same
pub same_seen : (image old_image : ImageParts) (index old_index : Index) (points old_points : Points) (timing old_timing : Timing) (input old_input : List ℕ) (choice old_choice : Choice) (state : Delayed Timed)
    → image ≡ old_image → index ≡ old_index → points ≡ old_points → timing ≡ old_timing → input ≡ old_input → choice ≡ old_choice
    → machine_view image index points timing input choice (λ _. state) ≡ machine_view old_image old_index old_points old_timing old_input old_choice (λ _. state)
same_seen image old_image index old_index points old_points timing old_timing input old_input choice old_choice state image_is index_is points_is timing_is input_is choice_is = cc
