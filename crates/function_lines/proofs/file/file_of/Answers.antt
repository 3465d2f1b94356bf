use Rattle.std.proofs.Common.{◌≡◌, ℕ, true, not, List, length, ap, subst, ◌∙◌, arith}
use Rattle.std.specs.Prelude.{is_some}
use Rattle.function_lines.specs.WithLines.{IsCause}
use Rattle.function_lines.specs.declared.relined.LinesError.{LinesError}
use Rattle.function_lines.specs.declared.relined.LinesError.TheVariants.{Overlap}
use Rattle.function_lines.proofs.Whole.{long_with, not_long, short_with}
use Rattle.function_lines.proofs.file.file_of.Goals as goal

pub returns-then-file-unit-clause-cause : goal.returns-then-file-unit-clause-cause
returns-then-file-unit-clause-cause c =
    let some : is_some c.section_place.result ≡ true = c.is_none.ensures ∙ ap not c.if-is_none.false in
    long_with c.args.image.now.file c.args.unit.now c.section_place.result c.section_place.ensures.place some c.section_place.ensures.within
    (omega (arith, c.if-file-unit.true, ap (λ (xs : List ℕ). length xs) c.file.ensures.file))

pub returns-in-Ok-clause-short : goal.returns-in-Ok-clause-short
returns-in-Ok-clause-short c =
    let some : is_some c.section_place.result ≡ true = c.is_none.ensures ∙ ap not c.if-is_none.false in
    short_with c.args.image.now.file c.args.unit.now c.in-Ok.file.items c.section_place.result c.section_place.ensures.place some c.section_place.ensures.within c.in-Ok.ensures.file
    (omega (arith, c.if-file-unit.false, ap (λ (xs : List ℕ). length xs) c.file.ensures.file))

pub returns-in-Err-Overlap-clause-cause : goal.returns-in-Err-Overlap-clause-cause
returns-in-Err-Overlap-clause-cause c =
    let some : is_some c.section_place.result ≡ true = c.is_none.ensures ∙ ap not c.if-is_none.false in
    let short = not_long c.args.image.now.file c.args.unit.now c.section_place.result c.section_place.ensures.place some c.section_place.ensures.within
    (omega (arith, c.if-file-unit.false, ap (λ (xs : List ℕ). length xs) c.file.ensures.file)) in
    let other : IsCause c.args.image.now c.args.unit.now Overlap = subst (λ (error : LinesError). IsCause c.args.image.now c.args.unit.now error) c.in-Err-Overlap.field-0-is c.in-Err-Overlap.ensures.cause in
    (short, other)
