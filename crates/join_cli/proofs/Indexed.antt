-- The lines of a program's index stand in order, and each has a right label.
use Rattle.std.proofs.Common.{◌≡◌, ℕ, zero, suc, ◌<◌, ◌&&◌, List, [], ◌∷◌, drop, All, Option, Some, None, Ok, option_map, unwrap_or, find, codes, sym, subst, arith}
use Rattle.std.specs.List.Sorted.{IsStrictlySortedBy}
use Rattle.std.proofs.lemmas.List.Elements.{recursion_from_All}
use Rattle.leb_cursor.proofs.Exact.{IsBytes}
use Rattle.coz_types.specs.Image.{ImageParts}
use Rattle.elf_load.specs.declared.tables.Section.{Section}
use Rattle.elf_load.specs.Tables.{sections, has_bytes, is_named, bytes_of}
use Rattle.elf_load.specs.Loaded.{section}
use Rattle.dwarf_lines.specs.Registers.{Table}
use Rattle.dwarf_lines.proofs.Units.{reading_takes}
use Rattle.line_index.specs.Lines.{Line, IsRight, line_cmp}
use Rattle.line_index.specs.Index.{Index}
use Rattle.program_load.specs.LineTable.{bytes_in, strings_in, table_in}
use Rattle.join_cli.specs.Shards.{AreIndexed}
use Rattle.join_cli.proofs.Tables.{AreBytes, IsPlain, dropped, taken, table_plain}
use Rattle.join_cli.proofs.Righted.{lines_rise, lines_right}

pub by_place : (bytes : List ℕ) → AreBytes bytes → IsBytes bytes
by_place [] all i = omega arith
by_place (b ∷ bytes) all zero = all.0
by_place (b ∷ bytes) all (suc i) = by_place bytes all.1 i

section_bytes : (file : List ℕ) (s : Option Section) → AreBytes file → AreBytes (unwrap_or (option_map (bytes_of file) s) [])
section_bytes file None all = tt
section_bytes file (Some s) all = taken s.size (drop s.offset file) (dropped s.offset file all)

named_bytes : (file name : List ℕ) → AreBytes file → AreBytes (bytes_in file name)
unfolding section
named_bytes file name all = section_bytes file (find (λ s. has_bytes s && is_named file name s) (sections file)) all

-- a line table that was read from bytes
pub read_plain : (file : List ℕ) (table : Table) → AreBytes file → table_in file ≡ Ok table → IsPlain table
unfolding table_in
read_plain file table all read =
    let section = named_bytes file (codes ".debug_line") all in
    table_plain (strings_in file) (named_bytes file (codes ".debug_str") all) (named_bytes file (codes ".debug_line_str") all)
    (bytes_in file (codes ".debug_line")) table
    (reading_takes (strings_in file) (bytes_in file (codes ".debug_line")) table (by_place (bytes_in file (codes ".debug_line")) section) read) section

module _ (image : ImageParts) (index : Index) (are : AreIndexed image index) where
  pub rise : IsStrictlySortedBy line_cmp index.lines
  rise = subst (λ (ls : List Line). IsStrictlySortedBy line_cmp ls) (sym are.lines) (lines_rise are.table image.areas)

  pub right : All IsRight index.lines
  right =
      subst (λ (ls : List Line). All IsRight ls) (sym are.lines)
      (lines_right are.table image.areas (read_plain image.file are.table (recursion_from_All (λ b. b < 256) image.file are.bytes) are.read))
