use Rattle.std.proofs.Common.{◌∙◌}
use Rattle.dwarf_lines.specs.Registers.{view}
use Rattle.line_index.specs.Listed.{lines_in, position_in}
use Rattle.run_inputs.specs.Experiment.{experiment_by_table}
use Rattle.coz_commands.specs.CriticalPath.{path_printed, plain_run}
use Rattle.run_inputs.proofs.Indexed.{indexed_at}
use Rattle.coz_commands.proofs.path.path_of_file.Goals as goal

pub returns-in-Ok-clause-verdict : goal.returns-in-Ok-clause-verdict
returns-in-Ok-clause-verdict c = λ other.
    let program = c.in_ok-program.program in
    let input = c.args.input.now in
    let budget = c.args.budget in
    c.printed_path.ensures
    ∙ c.in-Ok.ensures
    ∙ indexed_at program.image (view program.table) input program.index c.in_ok-program.ensures.indexed (λ position lines runs. path_printed (plain_run runs budget) position lines)
    ∙ c.in_ok-program.ensures.verdict (λ never. never) (λ image table. path_printed (plain_run (experiment_by_table image table input) budget) (position_in table image.areas) (lines_in table image.areas))
