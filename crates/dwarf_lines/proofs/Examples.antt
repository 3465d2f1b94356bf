-- A section with four rows, and its cuts.
use Rattle.std.proofs.Common.{◌≡◌, pos, inr, lit<, lit≤, arith, ℕ, ◌-◌, List, [], ◌∷◌, ◌++◌, take, drop, set, refl, Some, None, Ok, Err, true, false, map, replicate}
use Rattle.leb_cursor.specs.Ahead.{◌>>=◌}
use Rattle.dwarf_lines.specs.declared.LineFault.{LineFault}
use Rattle.dwarf_lines.specs.declared.LineKind.TheVariants as kinds
use Rattle.dwarf_lines.specs.Registers.{Header, AdvancePc, empty_table}
use Rattle.dwarf_lines.specs.Spelling.{IsTable, Spells}
use Rattle.dwarf_lines.specs.Law.{line_fault}
use Rattle.dwarf_lines.specs.Names.{Strings, strings, form_for}
use Rattle.dwarf_lines.specs.Reading.{fault, texts, files, ahead_of_numbers, header, operation, program, unit_body, unit, units, reading, formats, entries, entry_list, values}

abbrev none : Strings
none = strings [] []

abbrev pub section : List ℕ
section = 67 ∷ 0 ∷ 0 ∷ 0 ∷ 4 ∷ 0 ∷ 27 ∷ 0 ∷ 0 ∷ 0 ∷ 4 ∷ 1 ∷ 1 ∷ 251 ∷ 14 ∷ 13
    ∷ 0 ∷ 1 ∷ 1 ∷ 1 ∷ 1 ∷ 0 ∷ 0 ∷ 0 ∷ 1 ∷ 0 ∷ 0 ∷ 1 ∷ 0 ∷ 97 ∷ 46 ∷ 115
    ∷ 0 ∷ 0 ∷ 0 ∷ 0 ∷ 0 ∷ 0 ∷ 9 ∷ 2 ∷ 0 ∷ 0 ∷ 1 ∷ 0 ∷ 0 ∷ 0 ∷ 0 ∷ 0
    ∷ 1 ∷ 9 ∷ 8 ∷ 0 ∷ 19 ∷ 0 ∷ 2 ∷ 4 ∷ 7 ∷ 8 ∷ 3 ∷ 3 ∷ 1 ∷ 0 ∷ 3 ∷ 128
    ∷ 170 ∷ 187 ∷ 2 ∷ 2 ∷ 0 ∷ 1 ∷ 1
    ∷ []

-- cut to n bytes, the first byte too
abbrev cut : ℕ → List ℕ
cut n = (n - 4) ∷ drop 1 (take n section)

four_rows : reading none section ≡ Ok (record {
  files = record { directory = []; name = 97 ∷ 46 ∷ 115 ∷ [] } ∷ [];
  rows =
      record { sequence = 0; address = 0x10000; file = Some 0; line = 1; column = 0; is_stmt = true; ends = false }
      ∷ record { sequence = 0; address = 0x10008; file = Some 0; line = 2; column = 0; is_stmt = true; ends = false }
      ∷ record { sequence = 0; address = 0x1004C; file = Some 0; line = 5; column = 0; is_stmt = true; ends = false }
      ∷ record { sequence = 0; address = 0x10054; file = Some 0; line = 5; column = 0; is_stmt = true; ends = true }
      ∷ [];
  skipped = 0;
})
unfolding reading units unit unit_body header texts files operation ahead_of_numbers program formats entries entry_list values form_for
four_rows = refl

nothing : reading none [] ≡ Ok empty_table
unfolding reading units
nothing = refl

-- cut with its unit as long as before
raw_cuts : map (λ n. line_fault none (take n section)) (1 ∷ 3 ∷ 4 ∷ 10 ∷ 40 ∷ 70 ∷ []) ≡ replicate 6 (Some (fault kinds.Short 0))
unfolding reading units unit unit_body header texts files operation ahead_of_numbers program formats entries entry_list values form_for
raw_cuts = refl

-- the faults of its cuts
cut_faults : map (λ n. line_fault none (cut n)) (4 ∷ 5 ∷ 6 ∷ 13 ∷ 36 ∷ 37 ∷ 38 ∷ 39 ∷ 40 ∷ 41 ∷ 42 ∷ 43 ∷ 44 ∷ 45 ∷ 46 ∷ 47 ∷ 48 ∷ 49 ∷ 50 ∷ 51 ∷ 52 ∷ 53 ∷
    54 ∷ 55 ∷ 56 ∷ 57 ∷ 58 ∷ 59 ∷ 60 ∷ 61 ∷ 62 ∷ 63 ∷ 64 ∷ 65 ∷ 66 ∷ 67 ∷ 68 ∷ 69 ∷ 70 ∷ [])
    ≡ Some (fault kinds.Short 4) ∷ Some (fault kinds.Short 4) ∷ Some (fault kinds.Short 6) ∷
    Some (fault kinds.Short 6) ∷ Some (fault kinds.Short 6) ∷ None ∷ Some (fault kinds.Short 38) ∷
    Some (fault kinds.Short 39) ∷ Some (fault kinds.Short 39) ∷ Some (fault kinds.Short 39) ∷
    Some (fault kinds.Short 39) ∷ Some (fault kinds.Short 39) ∷ Some (fault kinds.Short 39) ∷
    Some (fault kinds.Short 39) ∷ Some (fault kinds.Short 39) ∷ Some (fault kinds.Short 39) ∷ None ∷
    Some (fault kinds.Unended 49) ∷ Some (fault kinds.Short 50) ∷ Some (fault kinds.Short 50) ∷
    Some (fault kinds.Unended 52) ∷ Some (fault kinds.Unended 53) ∷ Some (fault kinds.Short 54) ∷
    Some (fault kinds.Short 55) ∷ Some (fault kinds.Short 55) ∷ Some (fault kinds.Unended 57) ∷
    Some (fault kinds.Unended 58) ∷ Some (fault kinds.Short 59) ∷ Some (fault kinds.Unended 60) ∷
    Some (fault kinds.Unended 61) ∷ Some (fault kinds.Short 62) ∷ Some (fault kinds.Short 63) ∷
    Some (fault kinds.Short 63) ∷ Some (fault kinds.Short 63) ∷ Some (fault kinds.Unended 66) ∷
    Some (fault kinds.Short 67) ∷ Some (fault kinds.Unended 68) ∷ Some (fault kinds.Short 69) ∷
    Some (fault kinds.Short 70) ∷ []
unfolding reading units unit unit_body header texts files operation ahead_of_numbers program formats entries entry_list values form_for
cut_faults = refl

-- damaged copies, the last one with an advance whose number doesn't fit 64 bits in place of its program
abbrev damaged : List (List ℕ × LineFault)
damaged =
    (set (take 13 section) 0 9, fault kinds.Short 6)
    ∷ (set (set (set (set section 0 0xF0) 1 0xFF) 2 0xFF) 3 0xFF, fault kinds.LongForm 0)
    ∷ (set section 11 2, fault kinds.ManyOps 11)
    ∷ (set section 14 0, fault kinds.ZeroRange 14)
    ∷ (set section 15 0, fault kinds.OpcodeBaseZero 15)
    ∷ (set section 38 8, fault kinds.AddressLength 37)
    ∷ (set section 59 0x7D, fault kinds.LineOut 60)
    ∷ (set section 6 18, fault kinds.Short 28)
    ∷ (set section 6 62, fault kinds.Short 6)
    ∷ (set section 6 22, fault kinds.Short 29)
    ∷ (44 ∷ drop 1 (take 37 section) ++ 2 ∷ 255 ∷ 255 ∷ 255 ∷ 255 ∷ 255 ∷ 255 ∷ 255 ∷ 255 ∷ 255 ∷ 2 ∷ [], fault kinds.Wide 38)
    ∷ []

faults : map (λ (section, first). reading none section) damaged ≡ map (λ (section, first). Err first) damaged
unfolding reading units unit unit_body header texts files operation ahead_of_numbers program formats entries entry_list values form_for
faults = refl

-- the relation holds of small cases
no_units : IsTable none [] empty_table
no_units = record { units = []; whole = refl; takes = refl }

-- a unit of version 9 is passed over
one_passed : IsTable none (3 ∷ 0 ∷ 0 ∷ 0 ∷ 9 ∷ 0 ∷ 7 ∷ []) (record { files = []; rows = []; skipped = 1 })
one_passed = record {
  units = (3 ∷ 0 ∷ 0 ∷ 0 ∷ 9 ∷ 0 ∷ 7 ∷ []) ∷ [];
  whole = refl;
  takes = (record { files = []; rows = []; skipped = 1 }, (9, 7 ∷ [], refl, lit< tt, lit< tt, inr ((λ (low, high). omega arith), refl)), refl);
}

small : Header
small = record { version = 4; minimum_length = 4; is_stmt = true; line_base = pos 0; line_range = 1; opcode_base = 13; lengths = []; directories = []; files = [] }

padded_advance : Spells small (AdvancePc 7) (2 ∷ 0x87 ∷ 0x80 ∷ 0x00 ∷ [])
unfolding small
padded_advance = (0x87 ∷ 0x80 ∷ 0x00 ∷ [], refl, lit< tt, lit< tt, (((lit≤ tt, (lit≤ tt, lit< tt)), refl), lit< tt))

-- ---- version 5

-- a unit of version 5 with the same file twice, of which the rows have the second
abbrev five : List ℕ
five = 79 ∷ 0 ∷ 0 ∷ 0 ∷ 5 ∷ 0 ∷ 8 ∷ 0 ∷ 44 ∷ 0 ∷ 0 ∷ 0 ∷ 4 ∷ 1 ∷ 1 ∷ 251
    ∷ 14 ∷ 13 ∷ 0 ∷ 1 ∷ 1 ∷ 1 ∷ 1 ∷ 0 ∷ 0 ∷ 0 ∷ 1 ∷ 0 ∷ 0 ∷ 1 ∷ 1 ∷ 1
    ∷ 8 ∷ 1 ∷ 46 ∷ 0 ∷ 2 ∷ 1 ∷ 8 ∷ 2 ∷ 11 ∷ 2 ∷ 111 ∷ 110 ∷ 101 ∷ 46 ∷ 115 ∷ 0
    ∷ 0 ∷ 111 ∷ 110 ∷ 101 ∷ 46 ∷ 115 ∷ 0 ∷ 0 ∷ 0 ∷ 9 ∷ 2 ∷ 0 ∷ 0 ∷ 1 ∷ 0 ∷ 0
    ∷ 0 ∷ 0 ∷ 0 ∷ 1 ∷ 2 ∷ 1 ∷ 3 ∷ 1 ∷ 1 ∷ 2 ∷ 1 ∷ 3 ∷ 1 ∷ 1 ∷ 2 ∷ 1
    ∷ 0 ∷ 1 ∷ 1
    ∷ []

five_rows : reading none five ≡ Ok (record {
  files = record { directory = []; name = 111 ∷ 110 ∷ 101 ∷ 46 ∷ 115 ∷ [] } ∷ record { directory = []; name = 111 ∷ 110 ∷ 101 ∷ 46 ∷ 115 ∷ [] } ∷ [];
  rows =
      record { sequence = 0; address = 0x10000; file = Some 1; line = 1; column = 0; is_stmt = true; ends = false }
      ∷ record { sequence = 0; address = 0x10004; file = Some 1; line = 2; column = 0; is_stmt = true; ends = false }
      ∷ record { sequence = 0; address = 0x10008; file = Some 1; line = 3; column = 0; is_stmt = true; ends = false }
      ∷ record { sequence = 0; address = 0x1000C; file = Some 1; line = 3; column = 0; is_stmt = true; ends = true }
      ∷ [];
  skipped = 0;
})
unfolding reading units unit unit_body header texts files operation ahead_of_numbers program formats entries entry_list values form_for
five_rows = refl

abbrev damaged_five : List (List ℕ × LineFault)
damaged_five =
    (set five 6 4, fault kinds.AddressSize 6)
    ∷ (set five 32 0x1A, fault kinds.FormOut 32)
    ∷ (set five 32 0x0e, fault kinds.TextOut 34)
    ∷ (set five 7 4, fault kinds.SegmentSize 7)
    ∷ []

faults_of_five : map (λ (section, first). reading none section) damaged_five ≡ map (λ (section, first). Err first) damaged_five
unfolding reading units unit unit_body header texts files operation ahead_of_numbers program formats entries entry_list values form_for
faults_of_five = refl

-- units of other versions are passed over
other_versions : reading none (set five 4 6 ++ section) ≡ (reading none section >>= λ t. Ok (record t { skipped = 1 }))
unfolding reading units unit unit_body header texts files operation ahead_of_numbers program formats entries entry_list values form_for
other_versions = refl
