use Rattle.std.proofs.Common.{rules, tests, ◌&&◌, subst, option_map, Option}
use Rattle.std.proofs.lemmas.Iterator.{YieldsList-from_slice}
use Rattle.std.proofs.lemmas.Iterator.Search.{find_from_yields_List}
use Rattle.elf_load.specs.declared.ElfKind.TheVariants.{HeaderOut}
use Rattle.elf_load.specs.declared.tables.Section.{Section}
use Rattle.elf_load.specs.Tables.{has_bytes, runs_past}
use Rattle.elf_load.specs.Faults.{Judges, entry_row}
use Rattle.elf_load.proofs.faults.sections_in_file.Goals as goal

pub returns : goal.returns
returns c =
    let found = find_from_yields_List (λ s. has_bytes s && runs_past c.args.file.now s.offset s.size) _ _ c.find-found.result c.find-found.ensures.ran (YieldsList-from_slice c.args.sections.now cc) (λ x b q k. search (rules, tests)) in
    subst (λ (o : Option Section). Judges c.at_section.result (entry_row HeaderOut (option_map (λ s. s.place) o))) found c.at_section.ensures
