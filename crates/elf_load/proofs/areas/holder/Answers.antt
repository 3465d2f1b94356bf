use Rattle.std.proofs.Common.{rules, tests, ◌&&◌}
use Rattle.std.proofs.lemmas.Iterator.{YieldsList-from_slice}
use Rattle.std.proofs.lemmas.Iterator.Search.{find_from_yields_List}
use Rattle.elf_load.specs.Tables.{is_load, has_place}
use Rattle.elf_load.proofs.areas.holder.Goals as goal

pub returns : goal.returns
returns c = find_from_yields_List (λ s. is_load s && has_place c.args.place s) _ _ _ c.find.ensures.ran (YieldsList-from_slice c.args.segments.now cc) (λ x b q k. search (rules, tests))
