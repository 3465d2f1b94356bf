-- The lines of the words of a program's code.
use Rattle.std.specs.Prelude.{◌≡◌, ℕ, ◌+◌, ◌*◌, ◌<◌, List, get_or, Option, option_map}
use Rattle.coz_types.specs.declared.LineId.{LineId}
use Rattle.line_index.specs.Index.{Index, position_at}
use Rattle.timed_guest.specs.Retire.{line_id}

-- the first n of these are the lines of words, four bytes apart
abbrev pub AreLinesFrom : Index → ℕ → ℕ → List (Option LineId) → Type 0
AreLinesFrom index start n words =
    (k : ℕ) (d : Option LineId) → k < n
    → get_or words k d ≡ option_map line_id (position_at index (start + 4 * k))
