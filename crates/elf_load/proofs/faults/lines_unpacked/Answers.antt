use Rattle.std.proofs.Common.{rules, tests, ◌&&◌, subst, option_map, Option}
use Rattle.std.proofs.lemmas.Iterator.{YieldsList-from_slice}
use Rattle.std.proofs.lemmas.Iterator.Search.{find_from_yields_List}
use Rattle.elf_load.specs.declared.ElfKind.TheVariants.{PackedLines}
use Rattle.elf_load.specs.declared.tables.Section.{Section}
use Rattle.elf_load.specs.Tables.{holds_lines, is_compressed}
use Rattle.elf_load.specs.Faults.{Judges, entry_row}
use Rattle.elf_load.proofs.faults.lines_unpacked.Goals as goal

pub returns : goal.returns
returns c =
    let found = find_from_yields_List (λ s. holds_lines c.args.file.now s && is_compressed s) _ _ c.find-found.result c.find-found.ensures.ran (YieldsList-from_slice c.args.sections.now cc) (λ x b q k. search (rules, tests)) in
    subst (λ (o : Option Section). Judges c.at_section.result (entry_row PackedLines (option_map (λ s. s.place) o))) found c.at_section.ensures
