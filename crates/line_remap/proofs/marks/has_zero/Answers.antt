use Rattle.std.proofs.Common.{ℕ, List, ap, ◌∙◌, take}
use Rattle.std.specs.Prelude.{bytes_eq, codes}
use Rattle.line_remap.proofs.Texts.{rest_whole, zero_passed}
use Rattle.line_remap.proofs.marks.has_zero.Goals as goal

pub loop-start-preserved : goal.loop-start-preserved
loop-start-preserved c =
    zero_passed c.args.path.now c.loop-start.start c.starts_with_zero.result c.loop-start-test.true
    (c.starts_with_zero.ensures ∙ ap (λ (xs : List ℕ). bytes_eq (take 3 xs) (codes "%00")) (rest_whole c.args.path.now c.loop-start.start))
    c.if-starts_with_zero.false
    ∙ c.loop-start.invariant
