-- Lines and entries computed address by address, on small tables.
use Rattle.std.proofs.Common.{◌≡◌, ℕ, List, [], ◌∷◌, map, Option, Some, None, Ok, true, false, refl}
use Rattle.std.specs.Fmt.{digits}
use Rattle.coz_types.specs.declared.image.Area.{Area}
use Rattle.dwarf_lines.specs.declared.Row.{Row}
use Rattle.leb_cursor.specs.Ahead.{◌>>=◌}
use Rattle.dwarf_lines.specs.Names.{strings, form_for}
use Rattle.dwarf_lines.specs.Reading.{texts, files, ahead_of_numbers, header, operation, program, unit_body, unit, units, reading, formats, values, entries, entry_list}
use Rattle.dwarf_lines.specs.Registers.{File, Table}
use Rattle.line_index.specs.declared.changes.Change.{Change}
use Rattle.line_index.specs.Lines.{Line, line_of, label, position_named, path}
use Rattle.line_index.specs.Listed.{lines_in, entries_in, position_in}
use Rattle.line_index.specs.Turns.{turns, is_within}

abbrev code : Area
code = record { start = 0x10000; size = 4096; rights = record { read = true; write = false; execute = true }; vaddr = 0x10000; offset = 0; filled = 100 }

abbrev storage : Area
storage = record { start = 0x11000; size = 4096; rights = record { read = true; write = true; execute = false }; vaddr = 0x11000; offset = 0; filled = 100 }

abbrev a_s : File
a_s = record { directory = []; name = 97 ∷ 46 ∷ 115 ∷ [] }

abbrev one : ℕ → Line
one number = record { path = 97 ∷ 46 ∷ 115 ∷ []; number = number }

abbrev line : ℕ → Option Line
line number = Some (one number)

abbrev row : ℕ → ℕ → Option ℕ → ℕ → Row
row sequence address file number = record { sequence = sequence; address = address; file = file; line = number; column = 0; is_stmt = true; ends = false }

abbrev last : ℕ → ℕ → Row
last sequence address = record { sequence = sequence; address = address; file = Some 0; line = 1; column = 0; is_stmt = true; ends = true }

abbrev table : List File → List Row → Table
table files rows = record { files = files; rows = rows; skipped = 0 }

-- a sequence of three lines
abbrev three : Table
three = table (a_s ∷ []) (row 0 0x10000 (Some 0) 1 ∷ row 0 0x10008 (Some 0) 2 ∷ row 0 0x1004C (Some 0) 5 ∷ last 0 0x10054 ∷ [])

lines_of_three : map (line_of three (code ∷ [])) (0xFFFF ∷ 0x10000 ∷ 0x10007 ∷ 0x10008 ∷ 0x1004B ∷ 0x1004C ∷ 0x10053 ∷ 0x10054 ∷ [])
    ≡ None ∷ line 1 ∷ line 1 ∷ line 2 ∷ line 2 ∷ line 5 ∷ line 5 ∷ None ∷ []
unfolding line_of
lines_of_three = refl

-- if two sequences overlap, the first row in file order has the address
abbrev two : Table
two = table (a_s ∷ []) (row 0 0x10004 (Some 0) 1 ∷ row 1 0x10000 (Some 0) 2 ∷ last 0 0x10008 ∷ last 1 0x1000C ∷ [])

overlapping : map (line_of two (code ∷ [])) (0x10000 ∷ 0x10003 ∷ 0x10004 ∷ 0x10007 ∷ 0x10008 ∷ 0x1000B ∷ [])
    ≡ line 2 ∷ line 2 ∷ line 1 ∷ line 1 ∷ line 2 ∷ line 2 ∷ []
unfolding line_of
overlapping = refl

-- the lines in order, where each begins, and the positions of the lines of addresses
lines_of_two : lines_in two (code ∷ []) ≡ one 1 ∷ one 2 ∷ []
unfolding lines_in line_of
lines_of_two = refl

entries_of_two : map (entries_in two (code ∷ [])) (one 1 ∷ one 2 ∷ one 3 ∷ []) ≡ (0x10004 ∷ []) ∷ (0x10000 ∷ 0x10008 ∷ []) ∷ [] ∷ []
unfolding entries_in line_of
entries_of_two = refl

positions_of_two : map (position_in two (code ∷ [])) (0x10003 ∷ 0x10004 ∷ 0x10008 ∷ 0x1000C ∷ []) ≡ Some 1 ∷ Some 0 ∷ Some 1 ∷ None ∷ []
unfolding position_in lines_in line_of
positions_of_two = refl

-- where each of these two lines begins and, in turn with that, ends, and which addresses stand between
abbrev changes_of_two : List Change
changes_of_two = record { address = 0x10000; position = Some 1 } ∷ record { address = 0x10004; position = Some 0 } ∷ record { address = 0x10008; position = Some 1 } ∷ record { address = 0x1000C; position = None } ∷ []

turns_of_two : map (λ k. turns k None changes_of_two) (0 ∷ 1 ∷ 2 ∷ [])
    ≡ (0x10004 ∷ 0x10008 ∷ []) ∷ (0x10000 ∷ 0x10004 ∷ 0x10008 ∷ 0x1000C ∷ []) ∷ [] ∷ []
turns_of_two = refl

between_turns : map (λ a. is_within a (0x10000 ∷ 0x10004 ∷ 0x10008 ∷ 0x1000C ∷ [])) (0xFFFF ∷ 0x10000 ∷ 0x10003 ∷ 0x10004 ∷ 0x10007 ∷ 0x10008 ∷ 0x1000B ∷ 0x1000C ∷ [])
    ≡ false ∷ true ∷ true ∷ false ∷ false ∷ true ∷ true ∷ false ∷ []
between_turns = refl

-- a row whose next address is not greater covers nothing
going_back : map (line_of (table (a_s ∷ []) (row 0 0x10008 (Some 0) 1 ∷ row 0 0x10004 (Some 0) 2 ∷ last 0 0x1000C ∷ [])) (code ∷ [])) (0x10003 ∷ 0x10004 ∷ 0x10008 ∷ 0x1000B ∷ 0x1000C ∷ [])
    ≡ None ∷ line 2 ∷ line 2 ∷ line 2 ∷ None ∷ []
unfolding line_of
going_back = refl

-- line 0, a file number without an entry and an empty path are no line, also if a later row covers the address
no_lines : map (line_of (table (a_s ∷ record { directory = []; name = [] } ∷ []) (row 0 0x10000 (Some 0) 0 ∷ row 0 0x10004 None 7 ∷ row 0 0x10008 (Some 1) 7 ∷ last 0 0x1000C ∷ row 1 0x10000 (Some 0) 3 ∷ last 1 0x10010 ∷ [])) (code ∷ [])) (0x10000 ∷ 0x10004 ∷ 0x10008 ∷ 0x1000C ∷ [])
    ≡ None ∷ None ∷ None ∷ line 3 ∷ []
unfolding line_of
no_lines = refl

-- two file entries with one written path are one file, and addresses outside the executable areas have no line
one_path : map (line_of (table (record { directory = 100 ∷ []; name = 97 ∷ [] } ∷ record { directory = []; name = 100 ∷ 47 ∷ 97 ∷ [] } ∷ []) (row 0 0x10FF8 (Some 0) 1 ∷ row 0 0x10FFC (Some 1) 1 ∷ last 0 0x11004 ∷ [])) (storage ∷ code ∷ [])) (0x10FF8 ∷ 0x10FFC ∷ 0x11000 ∷ [])
    ≡ Some (record { path = 100 ∷ 47 ∷ 97 ∷ []; number = 1 }) ∷ Some (record { path = 100 ∷ 47 ∷ 97 ∷ []; number = 1 }) ∷ None ∷ []
unfolding line_of
one_path = refl

-- a name that begins at the root has no directory in front, and an empty name has
paths : map path (record { directory = 100 ∷ []; name = 47 ∷ 97 ∷ [] } ∷ record { directory = 100 ∷ []; name = [] } ∷ record { directory = []; name = 97 ∷ [] } ∷ [])
    ≡ (47 ∷ 97 ∷ []) ∷ (100 ∷ 47 ∷ []) ∷ (97 ∷ []) ∷ []
paths = refl

-- a blank, a comma, a per cent sign and bytes above 126 are escaped
escapes : path (record { directory = 97 ∷ 32 ∷ 44 ∷ []; name = 37 ∷ 127 ∷ 255 ∷ 126 ∷ 33 ∷ [] })
    ≡ 97 ∷ 37 ∷ 50 ∷ 48 ∷ 37 ∷ 50 ∷ 67 ∷ 47 ∷ 37 ∷ 50 ∷ 53 ∷ 37 ∷ 55 ∷ 70 ∷ 37 ∷ 70 ∷ 70 ∷ 126 ∷ 33 ∷ []
escapes = refl

label_of_line : label (record { path = 97 ∷ 37 ∷ 50 ∷ 48 ∷ []; number = 120 }) ≡ 97 ∷ 37 ∷ 50 ∷ 48 ∷ 58 ∷ 49 ∷ 50 ∷ 48 ∷ []
unfolding digits
label_of_line = refl

-- `a b.s` comes before `a!b.s`, and as they are written after it
in_written_order : lines_in (table (record { directory = []; name = 97 ∷ 33 ∷ 98 ∷ [] } ∷ record { directory = []; name = 97 ∷ 32 ∷ 98 ∷ [] } ∷ []) (row 0 0x10000 (Some 1) 1 ∷ row 0 0x10004 (Some 0) 1 ∷ last 0 0x10008 ∷ [])) (code ∷ [])
    ≡ record { path = 97 ∷ 33 ∷ 98 ∷ []; number = 1 } ∷ record { path = 97 ∷ 37 ∷ 50 ∷ 48 ∷ 98 ∷ []; number = 1 } ∷ []
unfolding lines_in line_of
in_written_order = refl

-- of the lines b/a:1, c/a:1, c/a:2 and ca:1
abbrev some_lines : List Line
some_lines = record { path = 98 ∷ 47 ∷ 97 ∷ []; number = 1 } ∷ record { path = 99 ∷ 47 ∷ 97 ∷ []; number = 1 } ∷ record { path = 99 ∷ 47 ∷ 97 ∷ []; number = 2 } ∷ record { path = 99 ∷ 97 ∷ []; number = 1 } ∷ []

found_lines : position_named (97 ∷ []) 1 some_lines ∷ position_named (97 ∷ []) 2 some_lines ∷ position_named (99 ∷ 47 ∷ 97 ∷ []) 1 some_lines ∷ position_named (99 ∷ 97 ∷ []) 1 some_lines ∷ position_named (97 ∷ []) 3 some_lines ∷ position_named (47 ∷ 97 ∷ []) 1 some_lines ∷ position_named [] 1 some_lines ∷ []
    ≡ Some 0 ∷ Some 2 ∷ Some 1 ∷ Some 3 ∷ None ∷ None ∷ None ∷ []
found_lines = refl

-- a unit of version 5 whose two files have their paths from the section of lines' texts; its rows are of the second
abbrev from_texts : List ℕ
from_texts = 62 ∷ 0 ∷ 0 ∷ 0 ∷ 5 ∷ 0 ∷ 8 ∷ 0 ∷ 32 ∷ 0 ∷ 0 ∷ 0 ∷ 4 ∷ 1 ∷ 1 ∷ 251 ∷ 14 ∷ 13
    ∷ 0 ∷ 1 ∷ 1 ∷ 1 ∷ 1 ∷ 0 ∷ 0 ∷ 0 ∷ 1 ∷ 0 ∷ 0 ∷ 1 ∷ 0 ∷ 0 ∷ 1 ∷ 1 ∷ 31 ∷ 2
    ∷ 0 ∷ 0 ∷ 0 ∷ 0 ∷ 2 ∷ 0 ∷ 0 ∷ 0 ∷ 0 ∷ 9 ∷ 2 ∷ 0 ∷ 0 ∷ 1 ∷ 0 ∷ 0 ∷ 0 ∷ 0
    ∷ 0 ∷ 1 ∷ 2 ∷ 1 ∷ 3 ∷ 1 ∷ 1 ∷ 2 ∷ 1 ∷ 0 ∷ 1 ∷ 1
    ∷ []

lines_from_texts : (reading (strings [] (120 ∷ 0 ∷ 97 ∷ 46 ∷ 115 ∷ 0 ∷ [])) from_texts >>= λ t. Ok (map (line_of t (code ∷ [])) (0x10000 ∷ 0x10004 ∷ 0x10008 ∷ [])))
    ≡ Ok (line 1 ∷ line 2 ∷ None ∷ [])
unfolding line_of reading units unit unit_body header texts files operation ahead_of_numbers program formats entries entry_list values form_for
lines_from_texts = refl
