-- What is printed of a profile that was printed.
use Rattle.std.proofs.Common.{◌≡◌, ℕ, ◌≤◌, ◌^◌, Bool, cond, List, ◌∷◌, ◌++◌, map, flat_map, length, Option, Some, Ok, Err, codes, refl, sym, ap, ap₂, subst, ◌∙◌}
use Rattle.std.proofs.lemmas.Bool.{le-ltb}
use Rattle.coz_types.specs.declared.record.Summary.{Summary}
use Rattle.coz_files.specs.Held.{Held}
use Rattle.coz_files.specs.Verdict.{step_verdict}
use Rattle.file_read.specs.Reading.{read_verdict}
use Rattle.line_index.specs.Lines.{Line, label_at}
use Rattle.line_index.specs.Listed.{position_in}
use Rattle.progress_points.specs.Points.{point_in}
use Rattle.experiment_plan.specs.Selected.{rising_numbers}
use Rattle.experiment_plan.specs.declared.experiment.Experiment.{Experiment as Pair}
use Rattle.machines.specs.Records.{Record, NetRecord, net}
use Rattle.machines.specs.Standing.{delayed_record}
use Rattle.profile_book.specs.Profile.{IsProfile, profile_text}
use Rattle.profile_book.specs.declared.profile.Profile.{Profile as Book}
use Rattle.profile_reader.specs.Parsed.{parsed_profile}
use Rattle.profile_reader.specs.declared.fault.BookFault.{BookFault}
use Rattle.profile_reader.proofs.Only.{no_fault_of_text, told_is}
use Rattle.profile_shards.specs.Shards.{AreBlocks, AreLines, profile_at}
use Rattle.causal_curves.specs.Curves.{curves_of, ranked_curves}
use Rattle.causal_curves.specs.Texts.{curve_text}
use Rattle.causal_curves.specs.declared.curve.Curve.{Curve}
use Rattle.command_texts.specs.Text.{plot_text}
use Rattle.coz_words.specs.Request.{IsFit, greatest_budget, is_runner}
use Rattle.coz_words.specs.declared.request.Request.{Request}
use Rattle.coz_words.specs.declared.command.Command.{Command}
use Rattle.coz_words.specs.declared.command.Command.TheVariants.{Profile, Plot}
use Rattle.coz_words.specs.Slow.{request_of}
use Rattle.coz_words.proofs.Exact.{exact_back}
use Rattle.coz_words.proofs.Fit.{fit_in}
use Rattle.run_inputs.specs.Experiment.{Runs, entries_of, experiment_by_table}
use Rattle.coz_commands.specs.Profiled.{experiment_of_pair, pairs_of, profile_of}
use Rattle.coz_commands.specs.Verdict.{Verdict, book_verdict, command_verdict, files_verdict, plot_verdict, profiled_verdict, refusal, text_verdict}
use Rattle.join_cli.proofs.Baselines.{pair_at, run_of}
use Rattle.join_cli.proofs.Blocks.{are_blocks, block_at, profile_is}
use Rattle.join_cli.proofs.Profiles.{IsSound, profile_right}
use Rattle.coz_cli.specs.Verdict.{verdict, request_verdict}
use Rattle.coz_cli.specs.Headline.{IsPlanned}
use Rattle.coz_cli.proofs.Printed.{profile_comes, pairs_shortened}
use Rattle.profile_laws.specs.Headline.{AsksPlot, HoldsBytes, PlotsAreShortened, PlotsShortened, curves_at}
use Rattle.profile_laws.proofs.Asked.{selected_lines, sound}
use Rattle.profile_laws.proofs.Curves.{curves_are, zero_first}
use Rattle.profile_laws.proofs.Unstarted.{unstarted}
use Rattle.profile_laws.proofs.Zero.{gains_nothing, same_gains_nothing}

-- ---- requests

pub command_is : (words : List (List ℕ)) (held : Held) (asked : Request) (c : Command) → request_of words ≡ Some asked → asked.command ≡ c → verdict words held ≡ command_verdict c asked held
command_is words held asked c named is =
    ap (λ (request : Option Request). request_verdict request held) named ∙ ap (λ (c : Command). command_verdict c asked held) is

pub fit_of : (words : List (List ℕ)) (asked : Request) → request_of words ≡ Some asked → IsFit asked
unfolding request_of
fit_of words asked named = fit_in words asked (exact_back words asked named)

-- ---- a plot of a text

short_file : (most : ℕ) (path file : List ℕ) (next : List ℕ → Verdict) → length file ≤ most → read_verdict most path (Some file) next ≡ next file
short_file most path file next short =
    ap (λ (long : Bool). step_verdict (λ (refused : Verdict). refused) (cond long (Err (refusal 8 (codes "long: " ++ path))) (Ok file)) next) (le-ltb most (length file) short)

-- what is printed of the text of a profile
text_plotted : (bytes : List ℕ) (p : Book) → IsProfile p → bytes ≡ profile_text p → plot_verdict bytes ≡ text_verdict (plot_text p)
text_plotted bytes p right is =
    ap (λ (o : Option BookFault). book_verdict o (parsed_profile bytes)) (no_fault_of_text bytes p (right, is))
    ∙ ap (λ (q : Book). text_verdict (plot_text q)) (told_is bytes p (right, is))

asked_plot : (words : List (List ℕ)) (files : Held) (bytes : List ℕ) → AsksPlot words files bytes → verdict words files ≡ plot_verdict bytes
asked_plot words files bytes asks =
    command_is words files asks.asked Plot asks.words_ask asks.is_plot
    ∙ ap (λ (found : Option (List ℕ)). read_verdict 268435456 asks.asked.target found plot_verdict) asks.found
    ∙ short_file 268435456 asks.asked.target bytes plot_verdict asks.short

-- ---- the profile that was asked for

module _ (held : Held) (asked : Request) (bytes : HoldsBytes held) (fit : IsFit asked) (some : 1 ≤ asked.budget) (few : asked.budget ≤ 10 ^ 12) (runs : Runs) (lines : List Line) (points : List ℕ) (pairs : List Pair)
    (plan : IsPlanned held asked runs lines points pairs) where
  abbrev position : ℕ → Option ℕ
  position = position_in plan.table plan.image.areas

  abbrev point : ℕ → Option ℕ
  point = point_in (entries_of plan.image plan.table) points

  -- the record of the delayed run of a line at a speedup
  abbrev made : ℕ → ℕ → Record
  made line speedup = delayed_record (run_of plan.image position point points plan.input asked.budget (pair_at line speedup))

  abbrev block : ℕ → ℕ → Summary
  block line speedup = block_at plan.image lines position point points plan.input asked.budget line speedup

  abbrev pub rates : List ℕ
  rates = rising_numbers (0 ∷ asked.speedups)

  abbrev pub whole : Book
  whole = profile_at asked.budget (map (label_at lines) points) block rates plan.selected

  by_table : profile_of (experiment_by_table plan.image plan.table plan.input) lines asked.budget points (pairs_of plan.selected asked.speedups) ≡ whole
  unfolding experiment_by_table
  by_table = profile_is plan.image lines position point points plan.input asked.budget asked.speedups plan.selected

  pub book_is : profile_of runs lines asked.budget points pairs ≡ whole
  book_is = ap₂ (λ (rs : Runs) (ps : List Pair). profile_of rs lines asked.budget points ps) plan.runs_are plan.planned ∙ by_table

  ranges : IsSound plan.image lines points plan.input asked.budget asked.speedups
  ranges = sound held asked bytes fit some few runs lines points pairs plan

  chosen : AreLines (length lines) plan.selected
  chosen = selected_lines held asked bytes fit some few runs lines points pairs plan

  pub blocks : AreBlocks (length lines) (label_at lines) block
  blocks = are_blocks plan.image lines position point points plan.input asked.budget ranges.rise ranges.right

  pub whole_right : IsProfile whole
  whole_right = profile_right plan.image lines position point points plan.input asked.budget asked.speedups ranges plan.selected chosen

  abbrev run : ℕ → ℕ → NetRecord
  run line speedup = net (delayed_record (experiment_of_pair runs asked.budget points (pair_at line speedup)))

  abbrev drawn : (ℕ → ℕ → NetRecord) → List Curve
  drawn r = curves_at r (label_at lines) plan.selected rates (length points)

  abbrev run_made : ℕ → ℕ → NetRecord
  run_made line speedup = net (made line speedup)

  abbrev run_with : Runs → ℕ → ℕ → NetRecord
  run_with rs line speedup = net (delayed_record (experiment_of_pair rs asked.budget points (pair_at line speedup)))

  net_by_table : run_made ≡ run_with (experiment_by_table plan.image plan.table plan.input)
  unfolding experiment_by_table
  net_by_table = refl

  runs_same : run_made ≡ run
  runs_same = net_by_table ∙ ap run_with (sym plan.runs_are)

  from_zero : curves_of whole ≡ drawn run_made
  from_zero =
      let first = zero_first asked.speedups in
      let right = curves_are lines points made blocks plan.selected chosen first.0 asked.budget in
      subst (λ (ps : List ℕ). curves_of (profile_at asked.budget (map (label_at lines) points) block ps plan.selected) ≡ curves_at run_made (label_at lines) plan.selected ps (length points)) (sym first.1) right

  plot_is : plot_text whole ≡ flat_map curve_text (ranked_curves (drawn run))
  unfolding plot_text
  plot_is = ap (λ (cs : List Curve). flat_map curve_text (ranked_curves cs)) (from_zero ∙ ap drawn runs_same)

  same_at : (line : ℕ) → (made line 0).starts ≡ 0 → (speedup : ℕ) → net (made line speedup) ≡ net (made line 0)
  same_at line none speedup = ap net (unstarted plan.image position point points plan.input asked.budget line none speedup)

  never_starts : (line : ℕ) → (run line 0).starts ≡ 0 → (speedup : ℕ) → run line speedup ≡ run line 0
  never_starts = subst (λ (r : ℕ → ℕ → NetRecord). (line : ℕ) → (r line 0).starts ≡ 0 → (speedup : ℕ) → r line speedup ≡ r line 0) runs_same same_at

  pub plots_shortened : (printed : List ℕ) → printed ≡ profile_text (profile_of runs lines asked.budget points pairs) → PlotsShortened held asked printed
  plots_shortened printed is = record {
    runs = runs;
    lines = lines;
    points = points;
    pairs = pairs;
    is_planned = plan;
    run = run;
    shortened = pairs_shortened held asked fit some runs lines points pairs plan;
    plotted = λ words files asks.
        asked_plot words files printed asks
        ∙ text_plotted printed whole whole_right (is ∙ ap profile_text book_is)
        ∙ ap text_verdict plot_is;
    zero = λ line point. gains_nothing point (run line 0);
    never = λ line none speedup point. same_gains_nothing point (run line 0) (run line speedup) (never_starts line none speedup);
  }

-- ---- the law

pub plots : PlotsAreShortened
plots words held asked bytes named profile low =
    let same : verdict words held ≡ files_verdict asked held (profiled_verdict asked) = command_is words held asked Profile named profile in
    let fit : IsFit asked = fit_of words asked named in
    let low_there : (files_verdict asked held (profiled_verdict asked)).status ≤ 1 = subst (λ (v : Verdict). v.status ≤ 1) same low in
    let comes = profile_comes held asked low_there in
    let few : asked.budget ≤ 10 ^ 12 = subst (λ (c : Command). asked.budget ≤ greatest_budget c) profile fit.budget in
    plots_shortened held asked bytes fit (fit.some_budget (ap is_runner profile)) few comes.runs comes.lines comes.points comes.pairs comes.is_planned
    (verdict words held).text (ap (λ (v : Verdict). v.text) (same ∙ comes.is))
