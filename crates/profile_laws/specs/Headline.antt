-- The theorem that a user of coz reads. `coz profile` prints what it keeps of delayed runs, and
-- `coz plot` reads that and prints a curve for each line and progress point. Each value of these
-- curves is
--     floor((D0*np - Dp*n0) * 10000 / (D0*np))
-- where D is the net time, and n the number of visits of the point, of the shortened runs at
-- speedups 0 and p: runs in which the line really costs less, and which know no delays.
-- Read coz_cli/specs/Headline.antt first: `IsPlanned` is there. The law `plots_are_shortened` of
-- this crate has `PlotsShortened` as its clause.
use Rattle.std.specs.Prelude.{◌≡◌, ◌≤◌, ◌<◌, ℕ, ◌*◌, ◌||◌, ◌==◌, List, ◌∷◌, map, flat_map, length, All, Option, None, Some, IfSome, ℤ, pos, ◌-ℤ◌, ◌*ℤ◌, if◌then◌else◌}
use Rattle.std.specs.Int.{int_div_euclid}
use Rattle.std.specs.List.{count_by, range_with_len}
use Rattle.coz_types.specs.Labels.{Text}
use Rattle.coz_files.specs.Held.{Held, file_at}
use Rattle.line_index.specs.Lines.{Line, label_at}
use Rattle.experiment_plan.specs.Selected.{rising_numbers}
use Rattle.experiment_plan.specs.declared.experiment.Experiment.{Experiment as Pair}
use Rattle.machines.specs.Shortened.{NetVisit}
use Rattle.machines.specs.Records.{NetRecord, IsShortened}
use Rattle.profile_reader.specs.declared.TheConstants.{MAX_PROFILE}
use Rattle.causal_curves.specs.Curves.{gain_of, ranked_curves}
use Rattle.causal_curves.specs.Texts.{curve_text}
use Rattle.causal_curves.specs.declared.curve.Curve.{Curve}
use Rattle.causal_curves.specs.declared.curve.CurveStep.{CurveStep}
use Rattle.coz_words.specs.declared.request.Request.{Request}
use Rattle.coz_words.specs.declared.command.Command.TheVariants.{Plot, Profile}
use Rattle.coz_words.specs.Slow.{request_of}
use Rattle.program_load.specs.Verdict.{text_verdict}
use Rattle.run_inputs.specs.Experiment.{Runs}
use Rattle.coz_commands.specs.Profiled.{experiment_of_pair}
use Rattle.coz_cli.specs.Verdict.{verdict}
use Rattle.coz_cli.specs.Headline.{IsPlanned}

-- how often a run comes to a point
abbrev pub visits_of : ℕ → NetRecord → ℕ
visits_of point run = count_by (λ (visit : NetVisit). visit.point == point) run.visits

-- How much less net time a visit of the point takes in a run than in the base, in hundredths of
-- a per cent, rounded down. None if either has no visit, or the base takes no time.
abbrev pub gain_at : ℕ → NetRecord → NetRecord → Option ℤ
gain_at point base run =
    if visits_of point base == 0 || (visits_of point run == 0 || base.time == 0) then None
    else (
    let whole = base.time * visits_of point run in
    let part = run.time * visits_of point base in
    Some (int_div_euclid ((pos whole -ℤ pos part) *ℤ pos 10000) (pos whole)))

-- The curve of a line with this label at a point, of the line's runs by speedup: at each of these
-- speedups, the gain over the run at speedup 0.
abbrev pub curve_at : (ℕ → NetRecord) → Text → List ℕ → ℕ → Curve
curve_at run label speedups point =
    let step : ℕ → CurveStep = λ p. record { speedup = p; value = gain_at point (run 0) (run p) } in
    record {
      point = point;
      selected = label;
      gain = gain_of (map step speedups);
      steps = map step speedups;
    }

-- the curves at each of this many points, of each of these lines, by the runs of line and speedup
abbrev pub curves_at : (ℕ → ℕ → NetRecord) → (ℕ → Text) → List ℕ → List ℕ → ℕ → List Curve
curves_at run label lines speedups points =
    flat_map (λ (point : ℕ).
    map (λ (line : ℕ). curve_at (run line) (label line) speedups point) lines)
    (range_with_len 0 points)

-- arguments that ask for a plot of a file with these bytes, which are at most 256 MiB
pub record AsksPlot (words : List (List ℕ)) (held : Held) (bytes : List ℕ) : Type 0 where
  pub asked : Request
  pub words_ask : request_of words ≡ Some asked
  pub is_plot : asked.command ≡ Plot
  pub found : file_at held asked.target ≡ Some bytes
  pub short : length bytes ≤ MAX_PROFILE

-- Of the profile that a request asks for, `printed` is what `coz profile` prints. What `coz plot`
-- prints of it is the text of curves, by rank, of shortened runs: one for each selected line and
-- each speedup. At speedup 0 each value is 0 or absent, and a line that never starts has the same
-- values at each speedup.
pub record PlotsShortened (held : Held) (asked : Request) (printed : List ℕ) : Type 0 where
  pub runs : Runs
  pub lines : List Line
  pub points : List ℕ
  pub pairs : List Pair
  pub is_planned : IsPlanned held asked runs lines points pairs
  pub run : ℕ → ℕ → NetRecord
  pub shortened : All (λ pair. IsShortened (experiment_of_pair runs asked.budget points pair)
      (run pair.line.0 pair.speedup)) pairs
  pub plotted : (words : List (List ℕ)) (files : Held) → AsksPlot words files printed
      → verdict words files ≡ text_verdict (flat_map curve_text (ranked_curves
      (curves_at run (label_at lines) is_planned.selected (rising_numbers (0 ∷ asked.speedups))
      (length points))))
  pub zero : (line point : ℕ) → IfSome (gain_at point (run line 0) (run line 0)) (λ v. v ≡ pos 0)
  pub never : (line : ℕ) → (run line 0).starts ≡ 0
      → (speedup point : ℕ)
      → IfSome (gain_at point (run line 0) (run line speedup)) (λ v. v ≡ pos 0)

-- each file is a list of bytes
abbrev pub HoldsBytes : Held → Type 0
HoldsBytes held = All (λ entry. All (λ b. b < 256) entry.1) held

-- for all arguments that ask for a profile, and all files, if a profile is printed
abbrev pub PlotsAreShortened : Type 0
PlotsAreShortened =
    (words : List (List ℕ)) (held : Held) (asked : Request) → HoldsBytes held
    → request_of words ≡ Some asked → asked.command ≡ Profile
    → (verdict words held).status ≤ 1
    → PlotsShortened held asked (verdict words held).text
