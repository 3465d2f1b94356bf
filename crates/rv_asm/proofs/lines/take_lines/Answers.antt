use Rattle.std.proofs.Common.{ap, sym, ◌∙◌, subst, drop, length, arith, ◌+◌}
use Rattle.asm_tokens.specs.Tokens.{lines}
use Rattle.rv_asm.specs.Assembled.{start, take_lines}
use Rattle.failures.specs.Answers.{Fails}
use Rattle.rv_asm.specs.Views.{state_of, error_at}
use Rattle.rv_asm.proofs.TakeLines.{over_line, at_fault, at_last}
use Rattle.rv_asm.proofs.lines.take_lines.Goals as goal

pub returns-in-Err : goal.returns-in-Err
returns-in-Err c =
    let n = c.loop-index.number + 1 in
    let line = c.line_at-line.result.now in
    let more = lines (drop (c.loop-index.index + (length line + 1)) c.args.source.now) in
    let failed = at_fault n line more (state_of c.loop-index.state) c.in-Err.error c.in-Err.ensures.value in
    subst (λ e. Fails e (take_lines 1 (lines c.args.source.now) start)) (sym c.error_at.ensures)
    (subst (Fails (error_at n c.in-Err.error)) (ap (λ ls. take_lines n ls (state_of c.loop-index.state)) (sym c.line_at-line.ensures.lines) ∙ c.loop-index.invariant.2) failed)

pub loop-index-preserved : goal.loop-index-preserved
loop-index-preserved c =
    let n = c.loop-index.number + 1 in
    let line = c.line_at-line.result.now in
    let more = lines (drop (c.loop-index.index + (length line + 1)) c.args.source.now) in (
      omega (arith, c.line_at-line.ensures.within),
      omega (arith, c.loop-index.invariant.1),
      sym (over_line n line more (state_of c.loop-index.state) (state_of c.take_line.new.state) c.in_default.ensures.value)
          ∙ ap (λ ls. take_lines n ls (state_of c.loop-index.state)) (sym c.line_at-line.ensures.lines)
          ∙ c.loop-index.invariant.2,
    )

pub returns : goal.returns
returns c = sym c.loop-index.invariant.2 ∙ at_last (c.loop-index.number + 1) c.loop-index.index c.args.source.now (state_of c.loop-index.state) (omega (arith, c.loop-index-test.false))
