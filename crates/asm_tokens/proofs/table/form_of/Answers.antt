use Rattle.std.proofs.Common.{Some, None, sym, ◌∙◌}
use Rattle.asm_tokens.proofs.Tables.{form_of-join}
use Rattle.asm_tokens.proofs.table.form_of.Goals as goal

pub returns-in-Some : goal.returns-in-Some
returns-in-Some c = sym (form_of-join c.args.name.now (Some c.in-Some.form) (sym c.in-Some.is ∙ c.plain_form.ensures))

pub returns-in-None : goal.returns-in-None
returns-in-None c = c.atomic_form.ensures ∙ sym (form_of-join c.args.name.now None (sym c.in-None.is ∙ c.plain_form.ensures))
