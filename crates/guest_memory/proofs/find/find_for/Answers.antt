use Rattle.std.proofs.Common.{arith, refl}
use Rattle.guest_memory.specs.declared.Span.{Span}
use Rattle.guest_memory.proofs.Laid.{stands, hit_at}
use Rattle.guest_memory.proofs.find.find_for.Goals as goal

abbrev none : Span
none = record { first = 0; count = 0; at = 0 }

pub overflow_add-result : goal.overflow_add-result
overflow_add-result c =
    let t = stands 0 0 c.args.spans.now c.args.code none c.requires.laid c.requires.inside in
    omega (arith, t.within)

pub returns-then-page-span : goal.returns-then-page-span
returns-then-page-span c =
    let t = stands 0 0 c.args.spans.now c.args.code none c.requires.laid c.requires.inside in
    (omega (arith, t.within), hit_at c.args.spans.now c.args.code _ none c.args.page c.requires.laid c.requires.inside c.if-span-page.true c.if-page-span.true refl)
