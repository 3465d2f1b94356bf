use Rattle.std.proofs.Common.{◌≡◌, find}
use Rattle.elf_load.specs.Tables.{sections}
use Rattle.elf_load.proofs.SectionLemmas.{wanted, left}
use Rattle.elf_load.proofs.sections.named_section.Given as goal

-- the section is among those that are left, if it is there
abbrev pub invariant-loop-index : goal.invariant-loop-index
invariant-loop-index l = find (wanted l.file l.name) (left l.file l.index) ≡ find (wanted l.file l.name) (sections l.file)
