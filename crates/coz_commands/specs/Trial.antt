-- A trial: the program that a seed and a size make, its profile over at most ten of its lines,
-- and the five lines of that.
use Rattle.std.specs.Prelude.{◌≡◌, ℕ, ◌+◌, ◌*◌, ◌/◌, nat_lt, List, [], ◌∷◌, length, map, filter, Contains, None, Some, Result, Ok, Err, codes}
use Rattle.std.specs.List.{range_with_len}
use Rattle.rv_asm.specs.declared.AsmFault.{AsmFault}
use Rattle.rv_asm.specs.Assembled.{Program, IsProgram, assembled}
use Rattle.work_gen.specs.Text.{Source}
use Rattle.image_write.specs.File.{written_file}
use Rattle.line_index.specs.Lines.{Line, position_named}
use Rattle.experiment_plan.specs.declared.experiment.Experiment.{Experiment as Pair}
use Rattle.profile_book.specs.declared.profile.Profile.{Profile}
use Rattle.coz_types.specs.declared.TheConstants.{MIN_VERSION}
use Rattle.coz_commands.specs.declared.trial.TheConstants.{BUDGET, SELECTED}
use Rattle.coz_words.specs.Said.{Text}
use Rattle.run_inputs.specs.Experiment.{Runs}
use Rattle.coz_commands.specs.Profiled.{pairs_of, profile_of}
use Rattle.command_texts.specs.TrialText.{trial_lines}

-- the name of a trial's source
abbrev pub trial_name : Text
trial_name = codes "trial.s"

-- the program that the source is assembled to
unfoldable pub trial_program : Source → Result Program AsmFault
trial_program source = assembled source.text

-- its file
unfoldable pub trial_file : Program → List ℕ
trial_file program = written_file program trial_name MIN_VERSION

-- a file is that of the assembled program, of which a word has the line
-- of the progress point
pub record IsTrialFile (source : Source) (file : List ℕ) : Type 0 where
  pub program : Program
  pub stands : trial_program source ≡ Ok program
  pub right : IsProgram program
  pub has_point : Contains program.lines source.point
  pub written : file ≡ trial_file program

-- the position of the line of the progress point; or the name, if no line is found
unfoldable pub trial_point : ℕ → List Line → Result ℕ Text
trial_point point lines = elim (position_named trial_name point lines) [
  | Some line ↦ Ok line
  | None ↦ Err trial_name
]

-- of n positions the multiples of a tenth of n, rounded up: ten of these are n or more
unfoldable pub tenths : ℕ → List ℕ
tenths n = let tenth = (n + 9) / SELECTED in
    filter (λ position. nat_lt position n) (map (λ i. i * tenth) (range_with_len 0 SELECTED))

unfoldable pub trial_plan : List Line → List Pair
trial_plan lines = pairs_of (tenths (length lines)) (0 ∷ 25 ∷ 50 ∷ 75 ∷ [])

-- the profile of these runs, with one progress point
unfoldable pub trial_profile : Runs → List Line → ℕ → Profile
trial_profile runs lines point = profile_of runs lines BUDGET (point ∷ []) (trial_plan lines)

-- what `trial` prints
abbrev pub trial_text : Source → List Line → Profile → Text
trial_text source lines profile = trial_lines source lines (length (trial_plan lines)) profile
