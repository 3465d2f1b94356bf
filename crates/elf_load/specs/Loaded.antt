-- What a file without a fault holds.
use Rattle.std.specs.Prelude.{◌≡◌, ℕ, ◌+◌, ◌-◌, ◌*◌, ◌&&◌, ◌||◌, List, map, length, min, slice_index, Option, Some, None, option_map, unwrap_or, find, Result, Ok, Err, nat_lt, nat_le, if◌then◌else◌}
use Rattle.coz_types.specs.declared.TheConstants.{PAGE}
use Rattle.coz_types.specs.declared.image.Area.{Area}
use Rattle.coz_types.specs.declared.image.Rights.{Rights}
use Rattle.coz_types.specs.Image.{ImageParts}
use Rattle.elf_load.specs.declared.ElfFault.{ElfFault}
use Rattle.failures.specs.declared.Failure.{Failure}
use Rattle.failures.specs.Answers.{Fails}
use Rattle.elf_load.specs.declared.tables.Section.{Section}
use Rattle.elf_load.specs.declared.tables.Segment.{Segment}
use Rattle.elf_load.specs.Tables.{entry, phoff, phnum, segments, sections, is_load, load_areas, is_executable, is_writable, is_readable, first_page, pages, has_place, has_bytes, is_named, bytes_of}
use Rattle.elf_load.specs.Faults.{fault}

abbrev pub rights_of : Segment → Rights
rights_of s = record {
  read = is_readable s || is_writable s;
  write = is_writable s;
  execute = is_executable s;
}

-- The area of a program header. If it has no bytes in the file, its offset may be anything,
-- and is taken for the file's end at most.
abbrev pub area_of : List ℕ → Segment → Area
area_of file s = record {
  start = PAGE * first_page s;
  size = PAGE * pages s;
  rights = rights_of s;
  vaddr = s.vaddr;
  offset = min s.offset (length file);
  filled = s.filesz;
}

-- the address of the program headers: in the first PT_LOAD whose file bytes hold
-- their place, else 0
abbrev pub headers : List ℕ → ℕ
headers file =
    unwrap_or (option_map (λ s. s.vaddr + phoff file - s.offset)
    (find (λ s. is_load s && has_place (phoff file) s) (segments file))) 0

unfoldable pub image : List ℕ → ImageParts
image file = record {
  file = file;
  areas = map (area_of file) (load_areas file);
  entry = entry file;
  headers = headers file;
  header_count = phnum file;
}

-- the image, or the fault
unfoldable pub load_answer : List ℕ → Result ImageParts ElfFault
load_answer file = elim (fault file) [ None ↦ Ok (image file) | Some f ↦ Err f ]

-- the byte of an area at an address: the file's, or zero outside of the file bytes
abbrev pub byte_at : List ℕ → Area → ℕ → ℕ
byte_at file area a =
    if nat_le area.vaddr a && nat_lt a (area.vaddr + area.filled)
    then slice_index file (area.offset + (a - area.vaddr))
    else 0

-- the bytes of the first section of that name
unfoldable pub section : List ℕ → List ℕ → Option (List ℕ)
section file name =
    option_map (bytes_of file) (find (λ s. has_bytes s && is_named file name s) (sections file))

-- the offset of the header of that section
unfoldable pub section_place : List ℕ → List ℕ → Option ℕ
section_place file name =
    option_map (λ (s : Section). s.place)
    (find (λ s. has_bytes s && is_named file name s) (sections file))

-- What loading answered is what the file holds, unless memory ran out.
abbrev pub Loads : Result ImageParts (Failure ElfFault) → Result ImageParts ElfFault → Type 0
Loads (Ok parts) holds = holds ≡ Ok parts
Loads (Err e) holds = Fails e holds
