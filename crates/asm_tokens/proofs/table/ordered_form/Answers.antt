use Rattle.std.proofs.Common.{Some, None, sym, ◌∙◌}
use Rattle.asm_tokens.proofs.Tables.{ordered-apart, ordered-suffix}
use Rattle.asm_tokens.proofs.table.ordered_form.Goals as goal

pub returns-in_err-suffix : goal.returns-in_err-suffix
returns-in_err-suffix c = c.from_residual.ensures ∙ sym (ordered-apart c.args.atomic.now c.args.name.now c.in_err-suffix.ensures.cases)

pub returns-in_err-order : goal.returns-in_err-order
returns-in_err-order c =
    let behind = c.in_ok-suffix.ensures.cases in
    c.from_residual-in_err-order.ensures ∙ sym (ordered-suffix c.args.atomic.now c.args.name.now c.in_ok-suffix.suffix.now None behind.0 behind.1 c.in_err-order.ensures)

pub returns : goal.returns
returns c =
    let behind = c.in_ok-suffix.ensures.cases in
    sym (ordered-suffix c.args.atomic.now c.args.name.now c.in_ok-suffix.suffix.now (Some c.in_ok-order.order) behind.0 behind.1 c.in_ok-order.ensures)
