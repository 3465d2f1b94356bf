use Rattle.std.proofs.Common.{rules, tests, ◌&&◌, nat_lt, subst, option_map, Option}
use Rattle.std.proofs.lemmas.Iterator.{YieldsList-from_slice}
use Rattle.std.proofs.lemmas.Iterator.Search.{find_from_yields_List}
use Rattle.elf_load.specs.declared.ElfKind.TheVariants.{SizeOrder}
use Rattle.elf_load.specs.declared.tables.Segment.{Segment}
use Rattle.elf_load.specs.Tables.{is_load}
use Rattle.elf_load.specs.Faults.{Judges, entry_row}
use Rattle.elf_load.proofs.faults.sizes_in_order.Goals as goal

pub returns : goal.returns
returns c =
    let found = find_from_yields_List (λ s. is_load s && nat_lt s.memsz s.filesz) _ _ c.find-found.result c.find-found.ensures.ran (YieldsList-from_slice c.args.segments.now cc) (λ x b q k. search (rules, tests)) in
    subst (λ (o : Option Segment). Judges c.at_segment.result (entry_row SizeOrder (option_map (λ s. s.place) o))) found c.at_segment.ensures
