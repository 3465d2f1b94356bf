use Rattle.std.proofs.Common.{rules, tests, ◌||◌, ◌*◌, nat_lt, subst, option_map, Option}
use Rattle.std.proofs.lemmas.Iterator.{YieldsList-from_slice}
use Rattle.std.proofs.lemmas.Iterator.Search.{find_from_yields_List}
use Rattle.elf_load.specs.declared.ElfKind.TheVariants.{AddressOut}
use Rattle.elf_load.specs.declared.tables.Segment.{Segment}
use Rattle.elf_load.specs.Tables.{first_page, end_page}
use Rattle.elf_load.specs.Faults.{Judges, entry_row}
use Rattle.elf_load.proofs.PageLemmas.{low_page, high_page}
use Rattle.elf_load.proofs.faults.areas_in_range.Goals as goal

pub returns : goal.returns
returns c =
    let found = find_from_yields_List (λ s. nat_lt (4096 * first_page s) 0x1000 || nat_lt 0x2000000000 (4096 * end_page s)) _ _ c.find-found.result c.find-found.ensures.ran (YieldsList-from_slice c.args.areas.now cc) (λ x b q k. search (rules, tests, low_page, high_page)) in
    subst (λ (o : Option Segment). Judges c.at_segment.result (entry_row AddressOut (option_map (λ s. s.place) o))) found c.at_segment.ensures
