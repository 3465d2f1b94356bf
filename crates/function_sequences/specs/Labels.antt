-- The line that a function is.
use Rattle.std.specs.Prelude.{ℕ, List, ◌∷◌, ◌++◌, Option, Some, None}
use Rattle.coz_types.specs.Labels.{written}
use Rattle.line_index.specs.Lines.{Line}

-- Of this name and with this line at its first address: below the line's path with the line's
-- number, or line 1 of a file of its own if it has none.
abbrev pub labelled : List ℕ → Option Line → Line
labelled name None = record { path = written name; number = 1 }
labelled name (Some line) = record { path = line.path ++ 47 ∷ written name; number = line.number }
