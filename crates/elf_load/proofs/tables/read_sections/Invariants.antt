use Rattle.std.proofs.Common.{◌≡◌, map}
use Rattle.elf_load.specs.Tables.{section_at, places, shoff}
use Rattle.elf_load.proofs.tables.read_sections.Given as goal

abbrev pub invariant-loop-index : goal.invariant-loop-index
invariant-loop-index l = l.sections.items ≡ map (section_at l.file) (places (shoff l.file) 64 l.index)
