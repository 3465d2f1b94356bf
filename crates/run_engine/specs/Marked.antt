-- What marks say of the words of code in a setting.
use Rattle.std.specs.Prelude.{◌≡◌, ℕ, ◌≤◌, false, length, Some, None}
use Rattle.coz_types.specs.declared.TheConstants.{LOAD_END}
use Rattle.code_words.specs.declared.marks.Mark.{Mark}
use Rattle.code_words.specs.Marks.{MarkMap, mark_at, is_selected_line}
use Rattle.progress_points.specs.Points.{point_of}
use Rattle.run_engine.specs.declared.choice.Setting.{Setting}
use Rattle.code_words.specs.declared.span.TheConstants.{MAX_WORDS}
use Rattle.run_engine.specs.Run.{is_selecting}

-- an address of this mark has a point only if the mark says so, and the selected line likewise
pub record IsMarked (setting : Setting) (a : ℕ) (mark : Mark) : Type 0 where
  pub point : mark.point ≡ false → point_of setting.points.now a ≡ None
  pub line : is_selected_line mark.line ≡ false → is_selecting setting a ≡ false

-- each mark is right
abbrev pub AreMarks : Setting → MarkMap → Type 0
AreMarks setting marks =
    (a : ℕ) (mark : Mark) → mark_at marks a ≡ Some mark → IsMarked setting a mark

-- they are, and the words lie where a program is loaded
pub record IsMarkedSetting (setting : Setting) (m : MarkMap) : Type 0 where
  pub low : m.start ≤ LOAD_END
  pub few : length m.marks ≤ MAX_WORDS
  pub right : AreMarks setting m
