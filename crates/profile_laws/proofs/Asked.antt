-- A profile that a request asks for is asked within its ranges.
use Rattle.std.proofs.Common.{◌≡◌, ℕ, zero, suc, ◌+◌, ◌<◌, ◌≤◌, ◌^◌, List, [], ◌∷◌, length, find, All, Option, Some, None, Result, Ok, Err, inl, inr, refl, sym, subst, arith}
use Rattle.std.specs.List.{AllByRecursion, filter_map, cons_option, range_with_len}
use Rattle.std.specs.List.Sorted.{IsStrictlySortedBy}
use Rattle.std.proofs.lemmas.List.Elements.{recursion_from_All, All-from_recursion}
use Rattle.line_index.specs.Lines.{Line, IsRight, line_cmp}
use Rattle.line_index.proofs.Pieces.{Among}
use Rattle.experiment_plan.specs.Lists.{Text, line_parts, pieces}
use Rattle.experiment_plan.specs.Selected.{is_missing, line_found, rising_numbers}
use Rattle.experiment_plan.specs.declared.experiment.Experiment.{Experiment as Pair}
use Rattle.experiment_plan.proofs.Among.{all_among}
use Rattle.experiment_plan.proofs.Naming.{found_below}
use Rattle.experiment_plan.proofs.Rising.{rises, of_rising}
use Rattle.profile_shards.specs.Shards.{AreLines}
use Rattle.coz_files.specs.Held.{Held}
use Rattle.coz_words.specs.Request.{IsFit}
use Rattle.coz_words.specs.declared.request.Request.{Request}
use Rattle.program_load.specs.Selection.{all_lines, lines_named}
use Rattle.program_load.proofs.Naming.{range_rises}
use Rattle.run_inputs.specs.Experiment.{Runs}
use Rattle.coz_commands.proofs.Profiling.{few_speedups}
use Rattle.join_cli.proofs.Indexed.{read_plain}
use Rattle.join_cli.proofs.Profiles.{IsSound}
use Rattle.join_cli.proofs.Righted.{lines_rise, lines_right}
use Rattle.coz_cli.specs.Headline.{IsPlanned}
use Rattle.profile_laws.specs.Headline.{HoldsBytes}
use Rattle.profile_laws.proofs.Found.{file_bytes, file_is, entry_low, input_bytes}

-- ---- the lines that a list names rise, and are lines of the program

named_below : (lines : List Line) (texts : List Text) (n : ℕ) → Among n (filter_map (line_found lines) texts) → n < length lines
named_below lines [] n m = absurd m
named_below lines (text ∷ texts) n m = by (line_found lines text) refl (named_below lines texts n) m
  where
    by : (o : Option ℕ) → line_found lines text ≡ o → (Among n (filter_map (line_found lines) texts) → n < length lines) → Among n (cons_option o (filter_map (line_found lines) texts)) → n < length lines
    by None is rest h = rest h
    by (Some k) is rest (inl e) = subst (λ j. j < length lines) e (found_below (line_parts text).0 (line_parts text).1 lines k is)
    by (Some k) is rest (inr h) = rest h

pub chosen_lines : (lines : List Line) (usual : List ℕ) (list : Option Text) (found : List ℕ) → AreLines (length lines) usual → lines_named lines usual list ≡ Ok found → AreLines (length lines) found
chosen_lines lines usual None found right is = let same : usual ≡ found = cc in subst (AreLines (length lines)) same right
chosen_lines lines usual (Some text) found right is = by (find (is_missing lines) (pieces text)) is
  where
    named : List ℕ
    named = filter_map (line_found lines) (pieces text)

    by : (o : Option Text) → ◌≡◌ {A = Result (List ℕ) Text} (elim o [ Some piece ↦ Err piece | None ↦ Ok (rising_numbers named) ]) (Ok found) → AreLines (length lines) found
    by (Some piece) e = absurd (let no : ⊥ = cc in no)
    by None e =
        let same : rising_numbers named ≡ found = cc in
        subst (AreLines (length lines)) same
        (record {
          rise = rises named;
          below = all_among (λ line. line < length lines) (rising_numbers named) (λ n m. named_below lines (pieces text) n (of_rising n named m));
        })

pub no_lines : (count : ℕ) → AreLines count []
no_lines count = record { rise = rises []; below = λ k d lt. absurd (omega arith) }

range_below : (a n m : ℕ) → a + n ≤ m → AllByRecursion (λ y. y < m) (range_with_len a n)
range_below a zero m le = tt
range_below a (suc n) m le = (omega (arith, le), range_below (a + 1) n m (omega (arith, le)))

pub each_line : (lines : List Line) → AreLines (length lines) (all_lines lines)
each_line lines = record {
  rise = range_rises 0 (length lines);
  below = All-from_recursion (λ line. line < length lines) (range_with_len 0 (length lines)) (range_below 0 (length lines) (length lines) (omega arith));
}

-- ---- the plan

module _ (held : Held) (asked : Request) (bytes : HoldsBytes held) (fit : IsFit asked) (some : 1 ≤ asked.budget) (few : asked.budget ≤ 10 ^ 12) (runs : Runs) (lines : List Line) (points : List ℕ) (pairs : List Pair)
    (plan : IsPlanned held asked runs lines points pairs) where
  pub selected_lines : AreLines (length lines) plan.selected
  selected_lines = chosen_lines lines (all_lines lines) asked.lines plan.selected (each_line lines) plan.selected_are

  pub sound : IsSound plan.image lines points plan.input asked.budget asked.speedups
  sound =
      let file : All (λ b. b < 256) plan.file = file_bytes held asked.target plan.file bytes plan.found in
      let plain = read_plain plan.file plan.table (recursion_from_All (λ b. b < 256) plan.file file) plan.table_is in
      record {
        entry = entry_low plan.file plan.image file plan.program;
        file = subst (All (λ b. b < 256)) (sym (file_is plan.file plan.image plan.program)) file;
        rise = subst (IsStrictlySortedBy line_cmp) (sym plan.lines_are) (lines_rise plan.table plan.image.areas);
        right = subst (All IsRight) (sym plan.lines_are) (lines_right plan.table plan.image.areas plain);
        some_budget = some;
        small_budget = few;
        points_are = chosen_lines lines [] asked.progress points (no_lines (length lines)) plan.points_are;
        few = plan.few_points;
        slow = few_speedups asked.speedups fit.speedups;
        bytes = input_bytes held asked.input plan.input bytes plan.given;
      }
