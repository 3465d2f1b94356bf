use Rattle.std.proofs.Common.{◌∙◌}
use Rattle.dwarf_lines.specs.Registers.{view}
use Rattle.line_index.specs.Listed.{lines_in}
use Rattle.coz_commands.specs.Profiled.{delayed_records, timed_by_table}
use Rattle.coz_commands.specs.Verdict.{recorded_verdict}
use Rattle.coz_commands.proofs.Profiling.{machine_indexed}
use Rattle.coz_commands.proofs.profile.profile_of_file.Goals as goal

pub returns-clause-verdict : goal.returns-clause-verdict
returns-clause-verdict g c = λ other.
    let asked = c.args.request.now in
    let input = c.args.input.now in
    let program = c.in_ok-program.program in
    c.profile_answer.ensures.verdict other
    ∙ machine_indexed c.args.timing program.image (view program.table) input asked program.index c.in_ok-program.ensures.indexed
    ∙ c.in_ok-program.ensures.verdict (λ never. never) (λ image table. recorded_verdict asked (lines_in table image.areas) (delayed_records (timed_by_table c.args.timing image table input)))
