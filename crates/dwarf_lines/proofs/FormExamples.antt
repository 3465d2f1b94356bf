-- Forms, entries and their faults, in units without a program.
use Rattle.std.proofs.Common.{◌≡◌, ℕ, ◌+◌, List, [], ◌∷◌, ◌++◌, length, map, replicate, refl, Result, Ok, Err}
use Rattle.leb_cursor.specs.Ahead.{◌>>=◌}
use Rattle.dwarf_lines.specs.declared.LineFault.{LineFault}
use Rattle.dwarf_lines.specs.declared.LineKind.TheVariants as kinds
use Rattle.dwarf_lines.specs.Registers.{File}
use Rattle.dwarf_lines.specs.Names.{Strings, form_for}
use Rattle.dwarf_lines.specs.Reading.{fault, texts, files, ahead_of_numbers, header, operation, program, unit_body, unit, units, reading, formats, values, entries, entry_list}

abbrev strings : Strings
strings = record { general = 120 ∷ 121 ∷ 0 ∷ 122 ∷ []; line = 108 ∷ 0 ∷ [] }

-- a unit whose directories and files, from place 18 on, are these bytes
abbrev made : List ℕ → List ℕ
made names = (14 + length names) ∷ 0 ∷ 0 ∷ 0 ∷ 5 ∷ 0 ∷ 8 ∷ 0 ∷ (6 + length names) ∷ 0 ∷ 0 ∷ 0 ∷ 4 ∷ 1 ∷ 1 ∷ 251 ∷ 14 ∷ 1 ∷ names

abbrev files_in : List ℕ → Result (List File) LineFault
files_in names = reading strings (made names) >>= λ t. Ok t.files

-- no directories, and one file of one field: its content at place 21, its form at 22, the count at 23, the value at 24
abbrev one_field : ℕ → ℕ → List ℕ → Result (List File) LineFault
one_field content form value = files_in (0 ∷ 0 ∷ 1 ∷ content ∷ form ∷ 1 ∷ value)

abbrev named : List ℕ → Result (List File) LineFault
named name = Ok (record { directory = []; name = name } ∷ [])

abbrev refused : ℕ → Result (List File) LineFault
refused place = Err (fault kinds.FormOut place)

paths : one_field 1 0x08 (97 ∷ 98 ∷ 0 ∷ []) ∷ one_field 1 0x0e (1 ∷ 0 ∷ 0 ∷ 0 ∷ []) ∷ one_field 1 0x0e (2 ∷ 0 ∷ 0 ∷ 0 ∷ []) ∷ one_field 1 0x1f (0 ∷ 0 ∷ 0 ∷ 0 ∷ []) ∷ []
    ≡ named (97 ∷ 98 ∷ []) ∷ named (121 ∷ []) ∷ named [] ∷ named (108 ∷ []) ∷ []
unfolding reading units unit unit_body header texts files operation ahead_of_numbers program formats entries entry_list values form_for
paths = refl

-- the form may not be a path
not_paths : map (λ form. one_field 1 form []) (0x0b ∷ 0x05 ∷ 0x06 ∷ 0x07 ∷ 0x1e ∷ 0x0f ∷ 0x09 ∷ 0x1a ∷ []) ≡ replicate 8 (refused 22)
unfolding reading units unit unit_body header texts files operation ahead_of_numbers program formats entries entry_list values form_for
not_paths = refl

-- the form may not be a directory's number
not_numbers : map (λ form. one_field 2 form []) (0x08 ∷ 0x0e ∷ 0x1f ∷ 0x06 ∷ 0x07 ∷ 0x1e ∷ 0x09 ∷ 0x1a ∷ []) ≡ replicate 8 (refused 22)
unfolding reading units unit unit_body header texts files operation ahead_of_numbers program formats entries entry_list values form_for
not_numbers = refl

-- a place at the section's end, one without a zero byte after it, one past the end, and one of a field that is passed
texts_out : one_field 1 0x1f (2 ∷ 0 ∷ 0 ∷ 0 ∷ []) ∷ one_field 1 0x0e (3 ∷ 0 ∷ 0 ∷ 0 ∷ []) ∷ one_field 1 0x0e (9 ∷ 0 ∷ 0 ∷ 0 ∷ []) ∷ one_field 5 0x0e (3 ∷ 0 ∷ 0 ∷ 0 ∷ []) ∷ []
    ≡ replicate 4 (Err (fault kinds.TextOut 24))
unfolding reading units unit unit_body header texts files operation ahead_of_numbers program formats entries entry_list values form_for
texts_out = refl

-- every form under a content that is passed; the file has no path
passed : one_field 5 0x08 (97 ∷ 0 ∷ []) ∷ one_field 5 0x0e (0 ∷ 0 ∷ 0 ∷ 0 ∷ []) ∷ one_field 5 0x1f (0 ∷ 0 ∷ 0 ∷ 0 ∷ []) ∷ one_field 5 0x0b (7 ∷ []) ∷ one_field 5 0x05 (7 ∷ 7 ∷ [])
    ∷ one_field 5 0x06 (replicate 4 7) ∷ one_field 5 0x07 (replicate 8 7) ∷ one_field 5 0x1e (replicate 16 7) ∷ one_field 5 0x0f (0x87 ∷ 7 ∷ []) ∷ one_field 5 0x09 (2 ∷ 7 ∷ 7 ∷ []) ∷ []
    ≡ replicate 10 (named [])
unfolding reading units unit unit_body header texts files operation ahead_of_numbers program formats entries entry_list values form_for
passed = refl

-- fields that are cut: the value, and the bytes of a block
cut : one_field 5 0x1e (replicate 15 7) ∷ one_field 5 0x09 (3 ∷ 7 ∷ 7 ∷ []) ∷ []
    ≡ Err (fault kinds.Short 24) ∷ Err (fault kinds.Short 25) ∷ []
unfolding reading units unit unit_body header texts files operation ahead_of_numbers program formats entries entry_list values form_for
cut = refl

-- directories . and d, and a file a in the directory of this number
abbrev in_directory : ℕ → List ℕ
in_directory n = 1 ∷ 1 ∷ 8 ∷ 2 ∷ 46 ∷ 0 ∷ 100 ∷ 0 ∷ 2 ∷ 1 ∷ 8 ∷ 2 ∷ 11 ∷ 1 ∷ 97 ∷ 0 ∷ n ∷ []

abbrev in_one : List ℕ → Result (List File) LineFault
in_one directory = Ok (record { directory = directory; name = 97 ∷ [] } ∷ [])

numbers : map (λ n. files_in (in_directory n)) (0 ∷ 1 ∷ 2 ∷ []) ≡ in_one [] ∷ in_one (100 ∷ []) ∷ in_one [] ∷ []
unfolding reading units unit unit_body header texts files operation ahead_of_numbers program formats entries entry_list values form_for
numbers = refl

-- of two paths the last counts
two_paths : files_in (0 ∷ 0 ∷ 2 ∷ 1 ∷ 8 ∷ 1 ∷ 8 ∷ 1 ∷ 97 ∷ 0 ∷ 98 ∷ 0 ∷ []) ≡ named (98 ∷ [])
unfolding reading units unit unit_body header texts files operation ahead_of_numbers program formats entries entry_list values form_for
two_paths = refl

-- a format count of 0 with a count of 0, 1 and 2^64 - 1; and a count of 2^64 - 1 with a format
abbrev most : List ℕ
most = 255 ∷ 255 ∷ 255 ∷ 255 ∷ 255 ∷ 255 ∷ 255 ∷ 255 ∷ 255 ∷ 1 ∷ []

counts : files_in (0 ∷ 0 ∷ 0 ∷ 0 ∷ []) ∷ files_in (0 ∷ 1 ∷ 0 ∷ 0 ∷ []) ∷ files_in (0 ∷ 0 ∷ 0 ∷ 1 ∷ []) ∷ files_in (0 ∷ 0 ∷ 0 ∷ most) ∷ files_in (0 ∷ 0 ∷ 1 ∷ 1 ∷ 8 ∷ most ++ 97 ∷ 0 ∷ 98 ∷ 0 ∷ []) ∷ []
    ≡ Ok [] ∷ Err (fault kinds.EmptyEntries 19) ∷ Err (fault kinds.EmptyEntries 21) ∷ Err (fault kinds.EmptyEntries 21) ∷ Err (fault kinds.Short 37) ∷ []
unfolding reading units unit unit_body header texts files operation ahead_of_numbers program formats entries entry_list values form_for
counts = refl
