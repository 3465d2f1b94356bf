-- A verdict of 0 or 1 prints a profile whose runs have as net part the shortened runs.
use Rattle.std.proofs.Common.{◌≡◌, ℕ, ◌≤◌, List, [], ◌++◌, Option, Some, refl, sym, ap, subst, ◌∙◌}
use Rattle.std.specs.Io.KnownBytes.{Appends}
use Rattle.std.specs.List.{All, slice_index_or}
use Rattle.coz_types.specs.Image.{ImageParts}
use Rattle.coz_files.specs.Held.{Held}
use Rattle.dwarf_lines.specs.Registers.{Table}
use Rattle.line_index.specs.Lines.{Line}
use Rattle.line_index.specs.Listed.{lines_in, position_in}
use Rattle.progress_points.specs.Points.{point_in}
use Rattle.experiment_plan.specs.declared.experiment.Experiment.{Experiment as Pair}
use Rattle.machines.specs.Guest.{Experiment}
use Rattle.machines.specs.Records.{net, IsDelayed, IsShortened}
use Rattle.machines.specs.Standing.{delayed_record}
use Rattle.guest_calls.specs.Guest.{Guest}
use Rattle.timing_laws.specs.Noted.{Noted}
use Rattle.timing_laws.specs.Cores.{Cores}
use Rattle.coz_words.specs.Request.{IsFit}
use Rattle.coz_words.specs.declared.command.Command.TheVariants.{Profile}
use Rattle.program_load.specs.Selection.{lines_named}
use Rattle.run_engine.specs.Choices.{choice_of}
use Rattle.run_inputs.specs.Experiment.{entries_of}
use Rattle.profile_pool.proofs.Choices.{valid_choice}
use Rattle.timing_line.specs.Line.{timing_text}
use Rattle.timing_model.specs.declared.timing.Timing.{Timing}
use Rattle.timing_steps.specs.declared.ticks.TheConstants.{MAX_TIMED_BUDGET}
use Rattle.guest_timing.specs.Timed.{KeepsTheLaw, TimedRunsKeepTheLaw}
use Rattle.coz_commands.specs.Profiled.{all_lines, pairs_of, profile_from, delayed_records, timed_by_table}
use Rattle.coz_commands.proofs.Profiling.{speedups_small}
use Rattle.coz_commands.specs.Verdict.{named_verdict, points_verdict, plan_verdict, profile_verdict, recorded_verdict}
use Rattle.coz_cli.proofs.Comes.{OnTable, bytes_come, few_pairs, few_points, named_is}
use Rattle.gain_words.specs.declared.asked.GainRequest.{GainRequest}
use Rattle.gain_cli.specs.Verdict.{Verdict, gain_verdict, profile_on}
use Rattle.gain_cli.specs.Headline.{Runs, IsPlanned, PrintsProfile, run_of_pair}
use Rattle.gain_cli.proofs.After.{after_status, after_written}
use Rattle.gain_cli.proofs.Budgets.{few_in_all, some_budget}

-- ---- the profile that a request asks for

-- a verdict is that of the profile of the plan that is asked for
record IsProfiled (held : Held) (asked : GainRequest) (v : Verdict) : Type 0 where
  runs : Runs
  lines : List Line
  points : List ℕ
  pairs : List Pair
  is_planned : IsPlanned held asked runs lines points pairs
  is : v ≡ profile_verdict (profile_from (delayed_records runs) lines asked.profile.budget points pairs)

abbrev on_machine : GainRequest → OnTable
on_machine asked input image table = recorded_verdict asked.profile (lines_in table image.areas) (delayed_records (timed_by_table asked.timing image table input))

profile_comes : (held : Held) (asked : GainRequest) → (profile_on asked held).status ≤ 1 → IsProfiled held asked (profile_on asked held)
unfolding recorded_verdict
profile_comes held asked low =
    let v : Verdict = profile_on asked held in
    let profile = asked.profile in
    let comes = bytes_come held profile (on_machine asked) low in
    let on = comes.on in
    let lines : List Line = lines_in on.table on.image.areas in
    let runs : Runs = timed_by_table asked.timing on.image on.table on.input in
    let print : List ℕ → List Pair → Verdict = λ points pairs. profile_verdict (profile_from (delayed_records runs) lines profile.budget points pairs) in
    let selected = named_is (lines_named lines (all_lines lines) profile.lines)
    (λ selected. named_verdict (lines_named lines [] profile.progress) (λ named. points_verdict named (λ points. plan_verdict (pairs_of selected profile.speedups) (print points)))) v low comes.is in
    let pairs : List Pair = pairs_of selected.value profile.speedups in
    let named = named_is (lines_named lines [] profile.progress) (λ named. points_verdict named (λ points. plan_verdict pairs (print points))) v low selected.same in
    let points : List ℕ = named.value in
    let few = few_points points (λ points. plan_verdict pairs (print points)) v low named.same in
    let planned = few_pairs pairs (print points) v low few.1 in
    record {
      runs = runs;
      lines = lines;
      points = points;
      pairs = pairs;
      is_planned = record {
        file = on.file;
        input = on.input;
        image = on.image;
        table = on.table;
        selected = selected.value;
        found = on.found;
        given = on.given;
        program = on.program;
        table_is = on.lines;
        runs_are = refl;
        lines_are = refl;
        selected_are = selected.is;
        points_are = named.is;
        few_points = few.0;
        planned = refl;
        few_pairs = planned.0;
      };
      is = planned.1;
    }

-- ---- the law on its runs

pair_keeps : TimedRunsKeepTheLaw → (t : Timing) (image : ImageParts) (table : Table) (input : List ℕ) (budget : ℕ) (points : List ℕ) (pair : Pair) → 1 ≤ budget → budget ≤ MAX_TIMED_BUDGET → pair.speedup ≤ 95
    → KeepsTheLaw (run_of_pair (timed_by_table t image table input) budget points pair)
unfolding timed_by_table
pair_keeps law t image table input budget points pair some few small =
    law t image (position_in table image.areas) (point_in (entries_of image table) points) input (choice_of (Some pair.line.0) pair.speedup budget)
    (valid_choice pair.line.0 pair.speedup budget some (few_in_all budget few) small)

module _ (law : TimedRunsKeepTheLaw) (held : Held) (asked : GainRequest) (fit : IsFit asked.profile) (some : 1 ≤ asked.profile.budget) (few : asked.profile.budget ≤ MAX_TIMED_BUDGET)
    (runs : Runs) (lines : List Line) (points : List ℕ) (pairs : List Pair) (plan : IsPlanned held asked runs lines points pairs) where
  abbrev run_of : Pair → Experiment (Cores (Noted Guest))
  run_of pair = run_of_pair runs asked.profile.budget points pair

  keeps : (pair : Pair) → pair.speedup ≤ 95 → KeepsTheLaw (run_of pair)
  keeps pair small =
      subst (λ (rs : Runs). KeepsTheLaw (run_of_pair rs asked.profile.budget points pair)) (sym plan.runs_are)
      (pair_keeps law asked.timing plan.image plan.table plan.input asked.profile.budget points pair some few small)

  all_small : All (λ (pair : Pair). pair.speedup ≤ 95) pairs
  all_small = subst (All (λ (pair : Pair). pair.speedup ≤ 95)) (sym plan.planned) (speedups_small plan.selected asked.profile.speedups fit.speedups)

  pairs_delayed : All (λ pair. IsDelayed (run_of pair) (delayed_record (run_of pair))) pairs
  pairs_delayed = λ k d below. (keeps (slice_index_or pairs k d) (all_small k d below)).delayed

  -- the net part of what each run leaves is what the shortened run leaves
  pairs_shortened : All (λ pair. IsShortened (run_of pair) (net (delayed_record (run_of pair)))) pairs
  pairs_shortened = λ k d below.
      let pair : Pair = slice_index_or pairs k d in
      let kept = keeps pair (all_small k d below) in
      subst (IsShortened (run_of pair)) (sym kept.law) kept.shortened

-- ---- the headline

pub prints_profile : TimedRunsKeepTheLaw → (held : Held) (asked : GainRequest) (before now : Option (List ℕ)) → IsFit asked.profile → asked.profile.command ≡ Profile → asked.profile.budget ≤ MAX_TIMED_BUDGET
    → (gain_verdict asked held).status ≤ 1 → Appends before now (gain_verdict asked held).text → PrintsProfile held asked before now
prints_profile law held asked before now fit profile few low gained =
    let line = timing_text asked.timing in
    let low_on : (profile_on asked held).status ≤ 1 = subst (λ (n : ℕ). n ≤ 1) (after_status line (profile_on asked held)) low in
    let made = profile_comes held asked low_on in
    let some = some_budget asked.profile fit profile in
    record {
      runs = made.runs;
      lines = made.lines;
      points = made.points;
      pairs = made.pairs;
      is_planned = made.is_planned;
      run = λ pair. delayed_record (run_of_pair made.runs asked.profile.budget made.points pair);
      delayed = pairs_delayed law held asked fit some few made.runs made.lines made.points made.pairs made.is_planned;
      shortened = pairs_shortened law held asked fit some few made.runs made.lines made.points made.pairs made.is_planned;
      printed = subst (Appends before now) (after_written line (profile_on asked held) low_on ∙ ap (λ (w : Verdict). line ++ w.text) made.is) gained;
    }
