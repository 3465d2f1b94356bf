use Rattle.std.proofs.Common.{arith}
use Rattle.dwarf_lines.specs.Names.{strings}
use Rattle.program_load.proofs.Tables.{few_rows, few_files}
use Rattle.program_load.proofs.line_table.read_table.Goals as goal

pub returns-clause-few_rows : goal.returns-clause-few_rows
returns-clause-few_rows c =
    few_rows (strings c.bytes_in-general.result.now c.bytes_in-texts.result.now) c.bytes_in-lines.result.now c.read_lines.result c.read_lines.ensures.exact (omega (arith, c.bytes_in-lines.ensures.short, c.requires.short))

pub returns-clause-few_files : goal.returns-clause-few_files
returns-clause-few_files c =
    few_files (strings c.bytes_in-general.result.now c.bytes_in-texts.result.now) c.bytes_in-lines.result.now c.read_lines.result c.read_lines.ensures.exact (omega (arith, c.bytes_in-lines.ensures.short, c.requires.short))
