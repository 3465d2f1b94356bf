use Rattle.std.proofs.Common.{◌≡◌, subst}
use Rattle.asm_tokens.specs.declared.form.Form.TheVariants as forms
use Rattle.asm_tokens.specs.Views.{GivesLine, all_placed}
use Rattle.rv_asm.specs.Statements.{statement}
use Rattle.rv_asm.specs.Views.{statement_of, tokens_left}
use Rattle.rv_asm.proofs.forms.statement.Goals as goal

pub returns-in-Numbers-clause-value : goal.returns-in-Numbers-clause-value
returns-in-Numbers-clause-value c =
    let operands = c.new-operands.result in
    let same : statement operands.end (forms.Numbers c.in-Numbers.size) (tokens_left operands) ≡ statement c.args.end c.args.form (all_placed c.args.tokens.now) = cc in
    subst (GivesLine statement_of c.numbers_form.result) same c.numbers_form.ensures.value
