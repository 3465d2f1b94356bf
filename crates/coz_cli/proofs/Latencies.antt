-- A verdict of 0 or 1 prints the latencies of runs whose net parts are the shortened runs.
use Rattle.std.proofs.Common.{ℕ, ◌≤◌, List, [], Option, refl, sym, subst}
use Rattle.std.specs.Io.KnownBytes.{Appends}
use Rattle.std.specs.List.{All, slice_index_or}
use Rattle.coz_files.specs.Held.{Held}
use Rattle.line_index.specs.Lines.{Line}
use Rattle.line_index.specs.Listed.{lines_in}
use Rattle.experiment_plan.specs.Selected.{places_among}
use Rattle.machines.specs.Guest.{Experiment}
use Rattle.machines.specs.Records.{net, IsShortened}
use Rattle.machines.specs.Standing.{delayed_record}
use Rattle.guest_calls.specs.Guest.{Guest}
use Rattle.coz_words.specs.Request.{IsFit}
use Rattle.coz_words.specs.declared.request.Request.{Request}
use Rattle.program_load.specs.Selection.{line_named, lines_named}
use Rattle.run_inputs.specs.Experiment.{Runs, experiment_by_table}
use Rattle.coz_commands.specs.Latencies.{at_each, latency_printed as printed_of, latency_verdict, lines_of_both, marked_verdict, net_at_each, speedups_of}
use Rattle.coz_commands.specs.Verdict.{Verdict, files_verdict, named_verdict}
use Rattle.coz_commands.proofs.LatencySteps.{few_rising}
use Rattle.coz_cli.specs.Headline.{PrintsLatency}
use Rattle.coz_cli.proofs.Comes.{IsLike, Found, files_come, few_points, like, named_is}

module _ (held : Held) (asked : Request) (some : 1 ≤ asked.budget) (on : Found held asked) (selected : Option ℕ) (points : List ℕ) where
  abbrev run_on : ℕ → Experiment Guest
  run_on speedup = at_each (experiment_by_table on.image on.table on.input) selected asked.budget points speedup

  run_like : (speedup : ℕ) → speedup ≤ 95 → IsLike (run_on speedup)
  run_like speedup small = like on.image on.table on.input selected speedup asked.budget points small some

  net_shortened : (speedup : ℕ) → speedup ≤ 95 → IsShortened (run_on speedup) (net (delayed_record (run_on speedup)))
  net_shortened speedup small = let like = run_like speedup small in subst (IsShortened (run_on speedup)) (sym like.same) like.shortened

pub latency_printed : (held : Held) (asked : Request) (before now : Option (List ℕ)) → IsFit asked → 1 ≤ asked.budget
    → (files_verdict asked held (latency_verdict asked)).status ≤ 1 → Appends before now (files_verdict asked held (latency_verdict asked)).text → PrintsLatency held asked before now
unfolding latency_verdict
latency_printed held asked before now fit some low gained =
    let v : Verdict = files_verdict asked held (latency_verdict asked) in
    let comes = files_come held asked (latency_verdict asked) low in
    let on = comes.on in
    let lines : List Line = lines_in on.table on.image.areas in
    let runs : Runs = experiment_by_table on.image on.table on.input in
    let print : Option ℕ → List ℕ → List ℕ → List ℕ → Verdict = λ selected points arrive depart. printed_of arrive depart (net_at_each runs selected asked.budget points) (speedups_of asked) in
    let line = named_is (line_named lines asked.line) (λ selected. named_verdict (lines_named lines [] asked.arrive) (λ arrive. named_verdict (lines_named lines [] asked.depart) (λ depart. marked_verdict arrive depart (print selected)))) v low comes.is in
    let selected : Option ℕ = line.value in
    let arrive = named_is (lines_named lines [] asked.arrive) (λ arrive. named_verdict (lines_named lines [] asked.depart) (λ depart. marked_verdict arrive depart (print selected))) v low line.same in
    let depart = named_is (lines_named lines [] asked.depart) (λ depart. marked_verdict arrive.value depart (print selected)) v low arrive.same in
    let points : List ℕ = lines_of_both arrive.value depart.value in
    let few = few_points points (λ points. print selected points (places_among points arrive.value) (places_among points depart.value)) v low depart.same in
    let small : All (λ p. p ≤ 95) (speedups_of asked) = few_rising asked.speedups fit.speedups in
    record {
      runs = at_each runs selected asked.budget points;
      arrive = places_among points arrive.value;
      depart = places_among points depart.value;
      is_measured = record {
        file = on.file;
        input = on.input;
        image = on.image;
        table = on.table;
        selected = selected;
        arrivals = arrive.value;
        departures = depart.value;
        found = on.found;
        given = on.given;
        program = on.program;
        table_is = on.lines;
        line_is = line.is;
        arrivals_are = arrive.is;
        departures_are = depart.is;
        few = few.0;
        runs_are = refl;
        arrive_is = refl;
        depart_is = refl;
      };
      run = λ speedup. delayed_record (at_each runs selected asked.budget points speedup);
      delayed = λ k d below. (run_like held asked some on selected points (slice_index_or (speedups_of asked) k d) (small k d below)).delayed;
      shortened = λ k d below. net_shortened held asked some on selected points (slice_index_or (speedups_of asked) k d) (small k d below);
      printed = subst (λ (w : Verdict). Appends before now w.text) few.1 gained;
    }
