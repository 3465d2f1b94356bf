-- The bytes of a section are a part of the file.
use Rattle.std.proofs.Common.{◌≡◌, ℕ, ◌≤◌, ◌&&◌, length, length-drop, List, Option, Some, None, arith}
use Rattle.std.specs.Prelude.{option_map, find}
use Rattle.std.proofs.lemmas.List.{length-take}
use Rattle.elf_load.specs.declared.tables.Section.{Section}
use Rattle.elf_load.specs.Tables.{sections, has_bytes, is_named, bytes_of}
use Rattle.elf_load.specs.Loaded.{section}

found_fits : (file bytes : List ℕ) (found : Option Section) → Some bytes ≡ option_map (bytes_of file) found → length bytes ≤ length file
found_fits file bytes None is = let no : ⊥ = cc in absurd no
found_fits file bytes (Some s) is =
    let same : bytes ≡ bytes_of file s = cc in
    rw same (simp (length-take, length-drop) (omega arith))

pub section_fits : (file name bytes : List ℕ) → Some bytes ≡ section file name → length bytes ≤ length file
unfolding section
section_fits file name bytes is = found_fits file bytes (find (λ s. has_bytes s && is_named file name s) (sections file)) is
