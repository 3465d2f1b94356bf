use Rattle.std.proofs.Common.{◌∙◌}
use Rattle.std.proofs.lemmas.Result.{err_from_is_err_and}
use Rattle.coz_commands.specs.Kinds.{printed_of}
use Rattle.coz_commands.proofs.experiment.run_of_program.Goals as goal

pub returns-clause-verdict : goal.returns-clause-verdict
returns-clause-verdict c = λ other.
    c.run_answer.ensures.verdict other ∙ c.in_ok-asked.ensures.verdict (λ never. never) c.args.program.now.image c.args.input.now (printed_of c.args.kind)

pub returns-in_err-asked-clause-verdict : goal.returns-in_err-asked-clause-verdict
returns-in_err-asked-clause-verdict c =
    let gives = err_from_is_err_and c.from_residual.result c.from_residual.ensures.1 in
    rw (gives.1, gives.2) (λ other. c.in_err-asked.ensures.verdict other c.args.program.now.image c.args.input.now (printed_of c.args.kind))
