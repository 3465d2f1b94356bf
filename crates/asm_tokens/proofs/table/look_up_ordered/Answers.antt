use Rattle.std.proofs.Common.{Some, None, sym, ◌∙◌}
use Rattle.asm_tokens.proofs.Tables.{words_from}
use Rattle.asm_tokens.proofs.table.look_up_ordered.Goals as goal

pub returns-in-Some : goal.returns-in-Some
returns-in-Some c = sym (words_from c.args.name.now c.args.atomics.now c.loop-atomic.atomic-index _ (Some c.in-Some.form) c.loop-atomic-test.true c.in-Some.ensures) ∙ c.loop-atomic.invariant

pub loop-atomic-preserved : goal.loop-atomic-preserved
loop-atomic-preserved c = sym (words_from c.args.name.now c.args.atomics.now c.loop-atomic.atomic-index _ None c.loop-atomic-test.true c.in_default.ensures) ∙ c.loop-atomic.invariant
