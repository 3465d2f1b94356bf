use Rattle.std.specs.BTreeMap.{get}
use Rattle.std.specs.Ordering.{nat_cmp}
use Rattle.elf_symbols.proofs.CodeSpans.{decided}
use Rattle.elf_symbols.proofs.code.has_within.Goals as goal

pub returns-in-Some : goal.returns-in-Some
returns-in-Some c =
    let range = c.range.ensures.in_range tt in
    let entry = range.3 _ _ c.in-Some.ensures.steps in
    decided (get nat_cmp c.args.ends.now) c.args.low c.args.high c.in-Some.field-0-0.now c.in-Some.end.now c.requires entry.1 entry.0.1 (λ q less there. range.4 _ _ c.in-Some.ensures.steps q (tt, less) there)
