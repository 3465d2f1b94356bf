use Rattle.std.proofs.Common.{◌∙◌}
use Rattle.dwarf_lines.specs.Registers.{view}
use Rattle.line_index.specs.Listed.{lines_in}
use Rattle.run_inputs.specs.Experiment.{experiment_by_table}
use Rattle.coz_commands.specs.Kinds.{printed_of}
use Rattle.coz_commands.specs.Verdict.{asked_verdict}
use Rattle.run_inputs.proofs.Indexed.{indexed}
use Rattle.coz_commands.proofs.experiment.run_of_file.Goals as goal

pub returns-clause-verdict : goal.returns-clause-verdict
returns-clause-verdict c = λ other.
    let next = asked_verdict c.args.request.now (printed_of c.args.kind) in
    let input = c.args.input.now in
    let program = c.in_ok-program.program in
    c.run_of_program.ensures.verdict other
    ∙ indexed program.image (view program.table) input program.index c.in_ok-program.ensures.indexed next
    ∙ c.in_ok-program.ensures.verdict (λ never. never) (λ image table. next (lines_in table image.areas) (experiment_by_table image table input))
