use Rattle.std.proofs.Common.{sym, ◌∙◌, arith}
use Rattle.elf_symbols.proofs.NamesEnded.{end_passed, end_found, none_ended}
use Rattle.elf_symbols.proofs.symbols.ended.Goals as goal
use Rattle.elf_symbols.proofs.symbols.ended.Goals.{then-loop-end-test+else-names-end-ne0, else-loop-end-test}

pub loop-end-preserved : goal.loop-end-preserved
loop-end-preserved c = (
  omega (arith, c.loop-end.invariant.0),
  end_passed c.args.names.now c.loop-end.end c.loop-end-test.true c.loop-end.invariant.0 c.if-names-end-ne0.true ∙ c.loop-end.invariant.1,
)

pub returns : goal.returns
returns c = elim c.loop-end-test.branch [
  | then-loop-end-test+else-names-end-ne0 w ↦ sym (end_found c.args.names.now c.loop-end.end w.loop-end-test.true c.loop-end.invariant.0 w.if-names-end-ne0.false) ∙ c.loop-end.invariant.1
  | else-loop-end-test w ↦ sym (none_ended c.args.names.now c.loop-end.end (omega (arith, w.loop-end-test.false))) ∙ c.loop-end.invariant.1
]
