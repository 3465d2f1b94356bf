-- Fields of the headers of ELF64 files, and a file with another section.
use Rattle.std.specs.Prelude.{ℕ, ◌+◌, List, ◌++◌, take, drop, length}
use Rattle.byte_write.specs.Numbers.{double}

-- e_entry, e_phoff and e_shoff: the entry, the offset of the program headers, which follow the
-- file's header of 64 bytes, and that of the section headers
abbrev pub header_places : ℕ → ℕ → List ℕ
header_places entry sections = double entry ++ double 64 ++ double sections

-- the file and after it the unit, with the section header at an offset that names the unit:
-- sh_offset is 24 bytes after the header's offset, and sh_size 32
abbrev pub with_section : List ℕ → List ℕ → ℕ → List ℕ
with_section file unit offset =
    take (offset + 24) file
    ++ (double (length file) ++ (double (length unit) ++ (drop (offset + 40) file ++ unit)))
