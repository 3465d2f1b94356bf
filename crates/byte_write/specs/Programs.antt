-- The programs of line units (DWARF 4 and 5, section 6.2.5).
use Rattle.std.specs.Prelude.{ℕ, ◌+◌, ◌-◌, List, [], ◌∷◌, ◌++◌, pos, ◌-ℤ◌, ◌==◌, if◌then◌else◌}
use Rattle.byte_write.specs.Numbers.{double, leb, uleb, sleb}

abbrev pub set_address : ℕ → List ℕ
set_address a = 0 ∷ 9 ∷ 2 ∷ [] ++ double a

abbrev pub end_sequence : List ℕ
end_sequence = 0 ∷ 1 ∷ 1 ∷ []

-- ---- a sequence that is one line

-- from the line of this file on, which begins as line 1
abbrev pub set_line : ℕ → ℕ → List ℕ
set_line file number = (4 ∷ leb file) ++ ((3 ∷ leb (number - 1)) ++ 1 ∷ [])

-- this number of addresses from a first one on, which have the line of a number in a file
abbrev pub sequence : ℕ → ℕ → ℕ → ℕ → List ℕ
sequence file number address size =
    set_address address
    ++ (set_line file number ++ (set_address (address + size) ++ end_sequence))

-- ---- the sequence of some words

-- by `words` words
abbrev pub advance_pc : ℕ → List ℕ
advance_pc words = if words == 0 then [] else 2 ∷ uleb words

abbrev pub advance_line : ℕ → ℕ → List ℕ
advance_line old new = if old == new then [] else 3 ∷ sleb (pos new -ℤ pos old)

-- a row `words` words after the last one
abbrev pub row : ℕ → ℕ → ℕ → List ℕ
row words old new = advance_pc words ++ advance_line old new ++ 1 ∷ []

-- what follows a row of this line, `words` words ago
abbrev pub rows : ℕ → ℕ → List ℕ → List ℕ
rows words line [] = advance_pc words ++ end_sequence
rows words line (l ∷ more) =
    if l == line then rows (words + 1) line more else row words line l ++ rows 1 l more

-- of the words from an address on, which have these lines; the line register begins as 1
abbrev pub line_program : ℕ → List ℕ → List ℕ
line_program start [] = set_address start ++ end_sequence
line_program start (l ∷ more) = set_address start ++ row 0 1 l ++ rows 1 l more
