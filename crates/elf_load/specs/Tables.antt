-- The fields of an ELF64 file, its program headers and its section headers (ELF-64 Object File
-- Format, version 1.5). A field past the file's end counts as zero.
use Rattle.std.specs.Prelude.{ℕ, zero, suc, ◌+◌, ◌-◌, ◌*◌, ◌/◌, Bool, false, not, ◌&&◌, ◌||◌, List, [], ◌∷◌, map, filter, length, take, drop, Option, Some, None, option_map, position, nat_lt, nat_le, ◌==◌, if◌then◌else◌, bytes_eq, codes}
use Rattle.std.specs.List.{list_any}
use Rattle.std.specs.Int.{Width, w16, w32, w64, from_le_bytes, bit_at}
use Rattle.coz_types.specs.declared.TheConstants.{PAGE}
use Rattle.elf_load.specs.declared.codes.TheConstants.{PHDR_SIZE, SHDR_SIZE}
use Rattle.elf_load.specs.declared.tables.Segment.{Segment}
use Rattle.elf_load.specs.declared.tables.Section.{Section}

-- ---- the header

unfoldable pub number : Width → List ℕ → ℕ → ℕ
number w file place = from_le_bytes w (drop place file)

abbrev pub kind_of : List ℕ → ℕ
kind_of file = number w16 file 16

abbrev pub machine : List ℕ → ℕ
machine file = number w16 file 18

abbrev pub entry : List ℕ → ℕ
entry file = number w64 file 24

abbrev pub phoff : List ℕ → ℕ
phoff file = number w64 file 32

abbrev pub shoff : List ℕ → ℕ
shoff file = number w64 file 40

abbrev pub flags : List ℕ → ℕ
flags file = number w32 file 48

abbrev pub phentsize : List ℕ → ℕ
phentsize file = number w16 file 54

abbrev pub phnum : List ℕ → ℕ
phnum file = number w16 file 56

abbrev pub shentsize : List ℕ → ℕ
shentsize file = number w16 file 58

abbrev pub shnum : List ℕ → ℕ
shnum file = number w16 file 60

abbrev pub shstrndx : List ℕ → ℕ
shstrndx file = number w16 file 62

-- ---- tables

abbrev pub has_bit : ℕ → ℕ → Bool
has_bit i n = bit_at n i == 1

-- `size` bytes from offset `from` on run past the end of the file; 0 bytes never do
abbrev pub runs_past : List ℕ → ℕ → ℕ → Bool
runs_past file from size = not (size == 0) && nat_lt (length file) (from + size)

-- the offsets of `count` entries of one size
abbrev pub places : ℕ → ℕ → ℕ → List ℕ
places from size zero = []
places from size (suc count) = from ∷ places (from + size) size count

-- the program header at a place
abbrev pub segment_at : List ℕ → ℕ → Segment
segment_at file place = record {
  place = place;
  kind = number w32 file place;
  flags = number w32 file (place + 4);
  offset = number w64 file (place + 8);
  vaddr = number w64 file (place + 16);
  filesz = number w64 file (place + 32);
  memsz = number w64 file (place + 40);
}

abbrev pub segments : List ℕ → List Segment
segments file = map (segment_at file) (places (phoff file) PHDR_SIZE (phnum file))

abbrev pub is_load : Segment → Bool
is_load s = s.kind == 1

abbrev pub is_interp : Segment → Bool
is_interp s = s.kind == 3

abbrev pub is_executable : Segment → Bool
is_executable s = has_bit 0 s.flags

abbrev pub is_writable : Segment → Bool
is_writable s = has_bit 1 s.flags

abbrev pub is_readable : Segment → Bool
is_readable s = has_bit 2 s.flags

-- a load area: a PT_LOAD of some bytes, in whole pages of 4,096
abbrev pub is_area : Segment → Bool
is_area s = is_load s && not (s.memsz == 0)

abbrev pub first_page : Segment → ℕ
first_page s = s.vaddr / PAGE

-- the page after the last one
abbrev pub end_page : Segment → ℕ
end_page s = (s.vaddr + s.memsz + (PAGE - 1)) / PAGE

abbrev pub load_areas : List ℕ → List Segment
load_areas file = filter is_area (segments file)

abbrev pub pages : Segment → ℕ
pages s = end_page s - first_page s

abbrev pub share_page : Segment → Segment → Bool
share_page s t = nat_lt (first_page s) (end_page t) && nat_lt (first_page t) (end_page s)

-- its memory has the address
abbrev pub has_address : ℕ → Segment → Bool
has_address a s = nat_le s.vaddr a && nat_lt a (s.vaddr + s.memsz)

-- its bytes in the file have the place
abbrev pub has_place : ℕ → Segment → Bool
has_place p s = nat_le s.offset p && nat_lt p (s.offset + s.filesz)

-- the section header at a place
abbrev pub section_at : List ℕ → ℕ → Section
section_at file place = record {
  place = place;
  name = number w32 file place;
  kind = number w32 file (place + 4);
  flags = number w64 file (place + 8);
  offset = number w64 file (place + 24);
  size = number w64 file (place + 32);
}

abbrev pub sections : List ℕ → List Section
sections file = map (section_at file) (places (shoff file) SHDR_SIZE (shnum file))

-- it is neither NULL nor NOBITS
abbrev pub has_bytes : Section → Bool
has_bytes s = not (s.kind == 0 || s.kind == 8)

abbrev pub is_compressed : Section → Bool
is_compressed s = has_bit 11 s.flags

abbrev pub bytes_of : List ℕ → Section → List ℕ
bytes_of file s = take s.size (drop s.offset file)

-- the bytes of the section that holds the names, none if there is no such section
abbrev pub names : List ℕ → List ℕ
names file =
    let s = section_at file (shoff file + SHDR_SIZE * shstrndx file) in
    if nat_lt 0 (shstrndx file) && nat_lt (shstrndx file) (shnum file) && has_bytes s
    then bytes_of file s
    else []

-- the bytes before the first zero byte
abbrev pub text : List ℕ → Option (List ℕ)
text bytes = option_map (λ k. take k bytes) (position (λ b. b == 0) bytes)

-- the bytes have a zero byte, and before the first one this name
abbrev pub is_text : List ℕ → List ℕ → Bool
is_text bytes name = elim (text bytes) [ Some n ↦ bytes_eq n name | None ↦ false ]

-- among these names the section has this one: it has none if its name runs past them
abbrev pub has_name : List ℕ → List ℕ → Section → Bool
has_name names name s = is_text (drop s.name names) name

abbrev pub is_named : List ℕ → List ℕ → Section → Bool
is_named file name s = has_name (names file) name s

-- the line table and the two sections of its texts
abbrev pub line_names : List (List ℕ)
line_names = codes ".debug_line" ∷ codes ".debug_str" ∷ codes ".debug_line_str" ∷ []

abbrev pub holds_lines : List ℕ → Section → Bool
holds_lines file s = list_any (λ name. is_named file name s) line_names
