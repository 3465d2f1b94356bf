use Rattle.std.proofs.Common.{ap, ◌∙◌, arith}
use Rattle.function_sequences.specs.Functions.{with_function}
use Rattle.function_sequences.proofs.SymbolLists.{one_earlier}
use Rattle.function_sequences.proofs.symbols.found_in.Goals as goal

pub loop-left-preserved : goal.loop-left-preserved
loop-left-preserved c = (
  omega (arith, c.loop-left.invariant.0),
  c.in_ok-add_function.ensures
      ∙ ap (λ found. with_function c.args.code.now c.ended-strings.result.now c.symbol_at.result found) c.loop-left.invariant.1
      ∙ one_earlier c.args.code.now c.args.table.now c.ended-strings.result.now c.loop-left.left c.symbol_at.result c.loop-left-test.true c.loop-left.invariant.0 c.symbol_at.ensures,
)
