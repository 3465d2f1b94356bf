use Rattle.std.proofs.Common.{◌∙◌}
use Rattle.dwarf_lines.specs.Registers.{view}
use Rattle.line_index.specs.Listed.{lines_in, position_in}
use Rattle.run_inputs.specs.Experiment.{experiment_by_table}
use Rattle.hot_cli.specs.Verdict.{hot_judging}
use Rattle.run_inputs.proofs.Indexed.{indexed_at}
use Rattle.hot_cli.proofs.judge.hot_of_file.Goals as goal

pub returns-in-Ok-clause-verdict : goal.returns-in-Ok-clause-verdict
returns-in-Ok-clause-verdict c = λ other.
    let program = c.in_ok-program.program in
    let input = c.args.input.now in
    let asked = c.args.asked.now in
    c.in-Ok.ensures.verdict (λ never. never)
    ∙ indexed_at program.image (view program.table) input program.index c.in_ok-program.ensures.indexed (hot_judging asked)
    ∙ c.in_ok-program.ensures.verdict (λ never. never) (λ image table. hot_judging asked (position_in table image.areas) (lines_in table image.areas) (experiment_by_table image table input))

pub returns-clause-verdict : goal.returns-clause-verdict
returns-clause-verdict c = λ other.
    let program = c.in_ok-program.program in
    let input = c.args.input.now in
    let asked = c.args.asked.now in
    c.in-Err.ensures.verdict other
    ∙ indexed_at program.image (view program.table) input program.index c.in_ok-program.ensures.indexed (hot_judging asked)
    ∙ c.in_ok-program.ensures.verdict (λ never. never) (λ image table. hot_judging asked (position_in table image.areas) (lines_in table image.areas) (experiment_by_table image table input))
