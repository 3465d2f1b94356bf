use Rattle.std.proofs.Common.{false, get_or}
use Rattle.std.specs.BTreeMap.{get}
use Rattle.std.specs.Ordering.{nat_cmp}
use Rattle.std.proofs.lemmas.List.{get_or_default}
use Rattle.coz_types.specs.declared.image.Area.{Area}
use Rattle.elf_symbols.proofs.CodeSpans.{ends_more}
use Rattle.elf_symbols.proofs.code.ends_of.Goals as goal

abbrev zero_area : Area
zero_area = record { start = 0; size = 0; rights = record { read = false; write = false; execute = false }; vaddr = 0; offset = 0; filled = 0 }

pub loop-area-preserved : goal.loop-area-preserved
loop-area-preserved c =
    let areas = c.args.areas.now in
    let n = c.loop-area.area-index in
    let area : Area = get_or areas n zero_area in
    ends_more areas n area (get nat_cmp c.loop-area.ends) (get nat_cmp c.add_end.new.ends) c.requires.spans c.requires.apart c.loop-area-test.true (get_or_default areas n area zero_area c.loop-area-test.true) c.loop-area.invariant c.in_ok-add_end.ensures
