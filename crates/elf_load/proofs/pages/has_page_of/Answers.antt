use Rattle.std.specs.BTreeMap.{get}
use Rattle.std.specs.Ordering.{nat_cmp}
use Rattle.elf_load.proofs.SpanLemmas.{decided}
use Rattle.elf_load.proofs.pages.has_page_of.Goals as goal

pub returns-in-Some : goal.returns-in-Some
returns-in-Some c =
    let range = c.range.ensures.in_range tt in
    let entry = range.3 _ _ c.in-Some.ensures.steps in
    decided (get nat_cmp c.args.spans.now) c.args.area.now c.in-Some.field-0-0.now c.in-Some.end.now c.first_page.result c.end_page.result c.requires c.first_page.ensures c.end_page.ensures.page entry.1 entry.0.1 (λ q less there. range.4 _ _ c.in-Some.ensures.steps q (tt, less) there)
