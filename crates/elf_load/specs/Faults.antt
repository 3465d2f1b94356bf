-- The table of faults: the fault of a file is that of the first row that holds of it.
use Rattle.std.specs.Prelude.{◌≡◌, ℕ, ◌*◌, ◌%◌, Bool, not, ◌&&◌, ◌||◌, List, [], ◌∷◌, ◌++◌, length, take, sum_by, slice_index, Option, Some, None, Result, Ok, Err, option_map, find, nat_lt, nat_le, ◌==◌, if◌then◌else◌, bytes_eq}
use Rattle.std.specs.List.{list_any}
use Rattle.coz_types.specs.declared.TheConstants.{PAGE, LOAD_END, MAX_LOADED}
use Rattle.elf_load.specs.declared.codes.TheConstants.{EHDR_SIZE, PHDR_SIZE, SHDR_SIZE, PN_XNUM}
use Rattle.elf_load.specs.declared.ElfKind.{ElfKind}
use Rattle.elf_load.specs.declared.ElfKind.TheVariants.{NotElf, NotClass64, NotLittle, NotExec, NotRiscv, Compressed, HeaderOut, PackedLines, Interp, SizeOrder, AddressOut, WritableCode, SharedPage, TooMuch, EntryOut}
use Rattle.elf_load.specs.declared.ElfFault.{ElfFault}
use Rattle.failures.specs.declared.Failure.{Failure}
use Rattle.failures.specs.declared.Failure.TheVariants as errors
use Rattle.elf_load.specs.declared.tables.Segment.{Segment}
use Rattle.elf_load.specs.declared.tables.Section.{Section}
use Rattle.elf_load.specs.Tables.{kind_of, machine, entry, phoff, shoff, flags, phentsize, phnum, shentsize, shnum, shstrndx, has_bit, runs_past, segments, sections, is_load, is_interp, load_areas, is_executable, is_writable, first_page, end_page, pages, share_page, has_address, has_bytes, is_compressed, holds_lines}

-- a row: its kind, whether it holds, and its place
abbrev pub row : ElfKind → Bool → ℕ → Option ElfFault
row kind holds place = if holds then Some (record { kind = kind; place = place }) else None

-- a row whose place is that of a table's entry
abbrev pub entry_row : ElfKind → Option ℕ → Option ElfFault
entry_row kind found = option_map (λ place. record { kind = kind; place = place }) found

abbrev pub first_segment : (Segment → Bool) → List Segment → Option ℕ
first_segment test ss = option_map (λ s. s.place) (find test ss)

abbrev pub first_section : (Section → Bool) → List Section → Option ℕ
first_section test ss = option_map (λ s. s.place) (find test ss)

-- the first of these areas that has the property beside the ones before it
abbrev pub first_after : (List Segment → Segment → Bool) → List Segment → List Segment → Option ℕ
first_after test earlier [] = None
first_after test earlier (s ∷ ss) =
    if test earlier s then Some s.place else first_after test (s ∷ earlier) ss

abbrev pub first_area : (List Segment → Segment → Bool) → List Segment → Option ℕ
first_area test ss = first_after test [] ss

abbrev pub first_row : List (Option ElfFault) → Option ElfFault
first_row [] = None
first_row (None ∷ rows) = first_row rows
first_row (Some f ∷ rows) = Some f

-- the rows on the header
abbrev pub header_rows : List ℕ → List (Option ElfFault)
header_rows file =
    row NotElf (nat_lt (length file) EHDR_SIZE) (length file)
    ∷ row NotElf (not (bytes_eq (take 4 file) (0x7F ∷ 0x45 ∷ 0x4C ∷ 0x46 ∷ []))) 0
    ∷ row NotClass64 (not (slice_index file 4 == 2)) 4
    ∷ row NotLittle (not (slice_index file 5 == 1)) 5
    ∷ row NotExec (not (kind_of file == 2)) 16
    ∷ row NotRiscv (not (machine file == 243)) 18
    ∷ row Compressed (has_bit 0 (flags file)) 48
    ∷ row HeaderOut (phnum file == PN_XNUM) 56
    ∷ row HeaderOut (not (phnum file == 0) && not (phentsize file == PHDR_SIZE)) 54
    ∷ row HeaderOut (runs_past file (phoff file) (PHDR_SIZE * phnum file)) 32
    ∷ row HeaderOut (not (shnum file == 0) && not (shentsize file == SHDR_SIZE)) 58
    ∷ row HeaderOut (runs_past file (shoff file) (SHDR_SIZE * shnum file)) 40
    ∷ row HeaderOut (not (shnum file == 0) && nat_le (shnum file) (shstrndx file)) 62
    ∷ []

-- no row on the header holds, so the tables are in the file
unfoldable pub HasHeaders : List ℕ → Type 0
HasHeaders file = first_row (header_rows file) ≡ None

-- the rows on program headers, sections and load areas
abbrev pub rows_on : List ℕ → List Segment → List Section → List Segment → List (Option ElfFault)
rows_on file segments sections areas =
    entry_row HeaderOut
    (first_segment (λ s. is_load s && runs_past file s.offset s.filesz) segments)
    ∷ entry_row HeaderOut
    (first_section (λ s. has_bytes s && runs_past file s.offset s.size) sections)
    ∷ entry_row PackedLines (first_section (λ s. holds_lines file s && is_compressed s) sections)
    ∷ entry_row Interp (first_segment is_interp segments)
    ∷ entry_row SizeOrder (first_segment (λ s. is_load s && nat_lt s.memsz s.filesz) segments)
    ∷ entry_row AddressOut (first_segment (λ s.
    nat_lt (PAGE * first_page s) 0x1000 || nat_lt LOAD_END (PAGE * end_page s)) areas)
    ∷ entry_row WritableCode
    (first_segment (λ s. is_load s && is_writable s && is_executable s) segments)
    ∷ entry_row SharedPage (first_area (λ earlier s. list_any (share_page s) earlier) areas)
    ∷ entry_row TooMuch
    (first_area (λ earlier s. nat_lt MAX_LOADED (PAGE * sum_by pages (s ∷ earlier))) areas)
    ∷ row EntryOut (not (entry file % 4 == 0
    && list_any (λ s. is_load s && is_executable s && has_address (entry file) s) segments)) 24
    ∷ []

abbrev pub table_rows : List ℕ → List (Option ElfFault)
table_rows file = rows_on file (segments file) (sections file) (load_areas file)

-- the fault of a file, if it has one
unfoldable pub fault : List ℕ → Option ElfFault
fault file = first_row (header_rows file ++ table_rows file)

-- a check passes if no fault is there, and else answers it
abbrev pub Judges : Result (Unit {0}) ElfFault → Option ElfFault → Type 0
Judges (Ok passed) found = found ≡ None
Judges (Err f) found = found ≡ Some f

-- the same for one that may run out of memory
abbrev pub JudgesOrFails : Result (Unit {0}) (Failure ElfFault) → Option ElfFault → Type 0
JudgesOrFails (Ok passed) found = found ≡ None
JudgesOrFails (Err errors.Memory) found = Unit {0}
JudgesOrFails (Err (errors.Fault f)) found = found ≡ Some f
