-- How large lines and tables can grow.
use Rattle.std.specs.Prelude.{ℕ, ◌+◌, ℤ, pos, negsuc, ◌≤ℤ◌, length}
use Rattle.dwarf_lines.specs.Registers.{Table}

-- the line lies from -1 - n to n
abbrev pub IsLineWithin : ℕ → ℤ → Type 0
IsLineWithin n z = (negsuc n ≤ℤ z) × (z ≤ℤ pos n)

-- how many files, rows and skipped units a table has; each takes a byte of the section or more
abbrev pub weight : Table → ℕ
weight t = length t.files + length t.rows + t.skipped
