-- What stands at the words of code besides their instructions.
use Rattle.std.specs.Prelude.{ℕ, ◌-◌, ◌/◌, ◌%◌, Bool, true, false, not, ◌&&◌, ◌==◌, nat_le, nat_lt, if◌then◌else◌, List, length, get_or, set, replicate, Option, Some, None}
use Rattle.code_words.specs.declared.marks.Mark.{Mark}
use Rattle.code_words.specs.declared.marks.MarkedLine.{MarkedLine}
use Rattle.code_words.specs.declared.marks.MarkedLine.TheVariants.{Selected}

pub record MarkMap : Type 0 where
  -- the address of the first word
  pub start : ℕ
  -- of each word, four bytes apart
  pub marks : List Mark

-- neither a line nor a point
abbrev pub no_mark : Mark
no_mark = record { line = MarkedLine.None; point = false }

abbrev pub unmarked : ℕ → ℕ → MarkMap
unmarked start count = record { start = start; marks = replicate count no_mark }

abbrev pub with_mark : ℕ → Mark → MarkMap → MarkMap
with_mark place mark m = record m { marks = set m.marks place mark }

-- a word of these begins at the address
abbrev pub has_word_at : ℕ → ℕ → ℕ → Bool
has_word_at start count a =
    nat_le start a && (a - start) % 4 == 0 && nat_lt ((a - start) / 4) count

-- the mark of the word that begins at an address
abbrev pub mark_at : MarkMap → ℕ → Option Mark
mark_at m a =
    if has_word_at m.start (length m.marks) a
    then Some (get_or m.marks ((a - m.start) / 4) no_mark)
    else None

abbrev pub is_selected_line : MarkedLine → Bool
is_selected_line Selected = true
is_selected_line _ = false

abbrev pub is_quiet : Option Mark → Bool
is_quiet None = false
is_quiet (Some mark) = not (is_selected_line mark.line) && not mark.point

-- a word begins there that has neither the selected line nor a point
abbrev pub is_quiet_at : MarkMap → ℕ → Bool
is_quiet_at m a = is_quiet (mark_at m a)
