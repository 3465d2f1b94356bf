-- A verdict of 0 or 1 prints a run whose net part is the shortened run.
use Rattle.std.proofs.Common.{◌≡◌, ℕ, ◌≤◌, List, [], Option, Some, refl, sym, ap, subst, ◌∙◌}
use Rattle.std.specs.Io.KnownBytes.{Appends}
use Rattle.std.specs.List.{All, slice_index_or}
use Rattle.coz_files.specs.Held.{Held}
use Rattle.line_index.specs.Lines.{Line}
use Rattle.line_index.specs.Listed.{lines_in}
use Rattle.experiment_plan.specs.declared.experiment.Experiment.{Experiment as Pair}
use Rattle.machines.specs.Guest.{Experiment}
use Rattle.machines.specs.Records.{net, IsDelayed, IsShortened, shortened_record}
use Rattle.machines.specs.Standing.{delayed_record}
use Rattle.guest_calls.specs.Guest.{Guest}
use Rattle.coz_words.specs.Request.{IsFit, greatest_budget, is_runner}
use Rattle.coz_words.specs.declared.request.Request.{Request}
use Rattle.coz_words.specs.declared.command.Command.{Command}
use Rattle.coz_words.specs.declared.command.Command.TheVariants.{Run, Profile, Really, Latency, Path}
use Rattle.coz_words.proofs.Exact.{exact_back}
use Rattle.coz_words.proofs.Fit.{fit_in}
use Rattle.coz_words.specs.Slow.{request_of}
use Rattle.program_load.specs.Selection.{line_named, lines_named}
use Rattle.run_inputs.specs.Experiment.{Runs, choice_of, experiment_by_table}
use Rattle.coz_commands.specs.Profiled.{all_lines, experiment_of_pair, pairs_of, profile_of}
use Rattle.coz_commands.proofs.Profiling.{speedups_small}
use Rattle.coz_commands.specs.Verdict.{Verdict, command_verdict, files_verdict, asked_verdict, named_verdict, points_verdict, plan_verdict, profile_verdict, profiled_verdict, run_verdict, really_verdict, recorded_verdict}
use Rattle.coz_cli.specs.Verdict.{verdict, request_verdict}
use Rattle.coz_cli.specs.Headline.{IsAsked, IsPlanned, PrintsRun, PrintsProfile, PrintsReally, PrintsLatency, PrintsPath, PrintsShortened}
use Rattle.coz_cli.proofs.Comes.{IsLike, files_come, few_pairs, few_points, like, like_asked, low_of, named_is}
use Rattle.coz_cli.proofs.Latencies.{latency_printed}
use Rattle.coz_cli.proofs.PathPrinted.{path_prints}

-- ---- the experiment that a request asks for

-- a verdict is that of an experiment that is asked for
record IsOne (held : Held) (asked : Request) (print : Experiment Guest → Verdict) (v : Verdict) : Type 0 where
  experiment : Experiment Guest
  is_asked : IsAsked held asked experiment
  is : v ≡ print experiment

experiment_comes : (held : Held) (asked : Request) (print : Experiment Guest → Verdict) → (files_verdict asked held (asked_verdict asked print)).status ≤ 1
    → IsOne held asked print (files_verdict asked held (asked_verdict asked print))
experiment_comes held asked print low =
    let v : Verdict = files_verdict asked held (asked_verdict asked print) in
    let comes = files_come held asked (asked_verdict asked print) low in
    let on = comes.on in
    let lines : List Line = lines_in on.table on.image.areas in
    let run : Option ℕ → List ℕ → Experiment Guest = λ selected. experiment_by_table on.image on.table on.input (choice_of selected asked.speedup asked.budget) in
    let line = named_is (line_named lines asked.line) (λ selected. named_verdict (lines_named lines [] asked.progress) (λ named. points_verdict named (λ points. print (run selected points)))) v low comes.is in
    let named = named_is (lines_named lines [] asked.progress) (λ named. points_verdict named (λ points. print (run line.value points))) v low line.same in
    let few = few_points named.value (λ points. print (run line.value points)) v low named.same in
    record {
      experiment = run line.value named.value;
      is_asked = record {
        file = on.file;
        input = on.input;
        image = on.image;
        table = on.table;
        selected = line.value;
        points = named.value;
        found = on.found;
        given = on.given;
        program = on.program;
        lines = on.lines;
        line_is = line.is;
        points_are = named.is;
        few = few.0;
        experiment = refl;
      };
      is = few.1;
    }

-- ---- the profile that a request asks for

-- a verdict is that of the profile of the plan that is asked for
pub record IsProfiled (held : Held) (asked : Request) (v : Verdict) : Type 0 where
  pub runs : Runs
  pub lines : List Line
  pub points : List ℕ
  pub pairs : List Pair
  pub is_planned : IsPlanned held asked runs lines points pairs
  pub is : v ≡ profile_verdict (profile_of runs lines asked.budget points pairs)

pub profile_comes : (held : Held) (asked : Request) → (files_verdict asked held (profiled_verdict asked)).status ≤ 1 → IsProfiled held asked (files_verdict asked held (profiled_verdict asked))
unfolding recorded_verdict
profile_comes held asked low =
    let v : Verdict = files_verdict asked held (profiled_verdict asked) in
    let comes = files_come held asked (profiled_verdict asked) low in
    let on = comes.on in
    let lines : List Line = lines_in on.table on.image.areas in
    let runs : Runs = experiment_by_table on.image on.table on.input in
    let print : List ℕ → List Pair → Verdict = λ points pairs. profile_verdict (profile_of runs lines asked.budget points pairs) in
    let selected = named_is (lines_named lines (all_lines lines) asked.lines)
    (λ selected. named_verdict (lines_named lines [] asked.progress) (λ named. points_verdict named (λ points. plan_verdict (pairs_of selected asked.speedups) (print points)))) v low comes.is in
    let pairs : List Pair = pairs_of selected.value asked.speedups in
    let named = named_is (lines_named lines [] asked.progress) (λ named. points_verdict named (λ points. plan_verdict pairs (print points))) v low selected.same in
    let points : List ℕ = named.value in
    let few = few_points points (λ points. plan_verdict pairs (print points)) v low named.same in
    let planned = few_pairs pairs (print points) v low few.1 in
    record {
      runs = runs;
      lines = lines;
      points = points;
      pairs = pairs;
      is_planned = record {
        file = on.file;
        input = on.input;
        image = on.image;
        table = on.table;
        selected = selected.value;
        found = on.found;
        given = on.given;
        program = on.program;
        table_is = on.lines;
        runs_are = refl;
        lines_are = refl;
        selected_are = selected.is;
        points_are = named.is;
        few_points = few.0;
        planned = refl;
        few_pairs = planned.0;
      };
      is = planned.1;
    }

module _ (held : Held) (asked : Request) (fit : IsFit asked) (some : 1 ≤ asked.budget) (runs : Runs) (lines : List Line) (points : List ℕ) (pairs : List Pair) (plan : IsPlanned held asked runs lines points pairs) where
  abbrev run_of : Pair → Experiment Guest
  run_of pair = experiment_of_pair runs asked.budget points pair

  pair_like : (pair : Pair) → pair.speedup ≤ 95 → IsLike (run_of pair)
  pair_like pair small =
      subst (λ (rs : Runs). IsLike (experiment_of_pair rs asked.budget points pair)) (sym plan.runs_are)
      (like plan.image plan.table plan.input (Some pair.line.0) pair.speedup asked.budget points small some)

  all_small : All (λ (pair : Pair). pair.speedup ≤ 95) pairs
  all_small = subst (All (λ (pair : Pair). pair.speedup ≤ 95)) (sym plan.planned) (speedups_small plan.selected asked.speedups fit.speedups)

  pub pairs_delayed : All (λ pair. IsDelayed (run_of pair) (delayed_record (run_of pair))) pairs
  pairs_delayed = λ k d below. (pair_like (slice_index_or pairs k d) (all_small k d below)).delayed

  -- the net part of what each run leaves is what the shortened run leaves
  pub pairs_shortened : All (λ pair. IsShortened (run_of pair) (net (delayed_record (run_of pair)))) pairs
  pairs_shortened = λ k d below.
      let pair : Pair = slice_index_or pairs k d in
      let like = pair_like pair (all_small k d below) in
      subst (IsShortened (run_of pair)) (sym like.same) like.shortened

profile_printed : (held : Held) (asked : Request) (before now : Option (List ℕ)) → IsFit asked → 1 ≤ asked.budget
    → (files_verdict asked held (profiled_verdict asked)).status ≤ 1 → Appends before now (files_verdict asked held (profiled_verdict asked)).text → PrintsProfile held asked before now
profile_printed held asked before now fit some low gained =
    let made = profile_comes held asked low in
    record {
      runs = made.runs;
      lines = made.lines;
      points = made.points;
      pairs = made.pairs;
      is_planned = made.is_planned;
      run = λ pair. delayed_record (experiment_of_pair made.runs asked.budget made.points pair);
      delayed = pairs_delayed held asked fit some made.runs made.lines made.points made.pairs made.is_planned;
      shortened = pairs_shortened held asked fit some made.runs made.lines made.points made.pairs made.is_planned;
      printed = subst (λ (w : Verdict). Appends before now w.text) made.is gained;
    }

-- ---- the headline

module _ (words : List (List ℕ)) (held : Held) (before now : Option (List ℕ)) (low : (verdict words held).status ≤ 1) (gained : Appends before now (verdict words held).text) where
  command_is : (asked : Request) (c : Command) → request_of words ≡ Some asked → asked.command ≡ c → verdict words held ≡ command_verdict c asked held
  command_is asked c named is =
      ap (λ (request : Option Request). request_verdict request held) named ∙ ap (λ (c : Command). command_verdict c asked held) is

  fit_of : (asked : Request) → request_of words ≡ Some asked → IsFit asked
  unfolding request_of
  fit_of asked named = fit_in words asked (exact_back words asked named)

  gained_as : (v : Verdict) → verdict words held ≡ v → Appends before now v.text
  gained_as v same = subst (λ (w : Verdict). Appends before now w.text) same gained

  prints_run : (asked : Request) → request_of words ≡ Some asked → asked.command ≡ Run → PrintsRun held asked before now
  prints_run asked named is =
      let same = command_is asked Run named is in
      let fit = fit_of asked named in
      let comes = experiment_comes held asked (λ x. run_verdict (delayed_record x)) (low_of _ _ same low) in
      let like = like_asked held asked comes.experiment fit (fit.some_budget (ap is_runner is)) comes.is_asked in
      record {
        experiment = comes.experiment;
        run = delayed_record comes.experiment;
        is_asked = comes.is_asked;
        printed = gained_as (run_verdict (delayed_record comes.experiment)) (same ∙ comes.is);
        delayed = like.delayed;
        shortened = subst (IsShortened comes.experiment) (sym like.same) like.shortened;
      }

  prints_profile : (asked : Request) → request_of words ≡ Some asked → asked.command ≡ Profile → PrintsProfile held asked before now
  prints_profile asked named is =
      let same = command_is asked Profile named is in
      let fit = fit_of asked named in
      profile_printed held asked before now fit (fit.some_budget (ap is_runner is)) (low_of _ _ same low) (gained_as _ same)

  prints_really : (asked : Request) → request_of words ≡ Some asked → asked.command ≡ Really → PrintsReally held asked before now
  prints_really asked named is =
      let same = command_is asked Really named is in
      let fit = fit_of asked named in
      let comes = experiment_comes held asked (λ x. really_verdict (shortened_record x)) (low_of _ _ same low) in
      let like = like_asked held asked comes.experiment fit (fit.some_budget (ap is_runner is)) comes.is_asked in
      record {
        experiment = comes.experiment;
        run = shortened_record comes.experiment;
        is_asked = comes.is_asked;
        printed = gained_as (really_verdict (shortened_record comes.experiment)) (same ∙ comes.is);
        shortened = like.shortened;
      }

  prints_latency : (asked : Request) → request_of words ≡ Some asked → asked.command ≡ Latency → PrintsLatency held asked before now
  prints_latency asked named is =
      let same = command_is asked Latency named is in
      let fit = fit_of asked named in
      latency_printed held asked before now fit (fit.some_budget (ap is_runner is)) (low_of _ _ same low) (gained_as _ same)

  prints_path : (asked : Request) → request_of words ≡ Some asked → asked.command ≡ Path → PrintsPath held asked before now
  prints_path asked named is =
      let same = command_is asked Path named is in
      let fit = fit_of asked named in
      let few : asked.budget ≤ 4000000 = subst (λ (c : Command). asked.budget ≤ greatest_budget c) is fit.budget in
      path_prints held asked before now (fit.some_budget (ap is_runner is)) few (low_of _ _ same low) (gained_as _ same)

  -- if the verdict's status is 0 or 1 and its text was made, the words' run is printed
  pub prints_shortened : PrintsShortened words held before now
  prints_shortened = record { runs = prints_run; profiles = prints_profile; really = prints_really; latencies = prints_latency; paths = prints_path }
