use Rattle.std.proofs.Common.{◌≡◌, ◌∙◌, length, ap, arith}
use Rattle.std.proofs.lemmas.Result.{err_from_is_err_and}
use Rattle.dwarf_lines.specs.Registers.{view}
use Rattle.program_load.specs.LineTable.{table_in}
use Rattle.program_load.proofs.Loads.{loaded_file}
use Rattle.program_load.proofs.Files.{no_table, whole_program}
use Rattle.program_load.proofs.program.read_program.Goals as goal

pub read_table-requires-clause-short : goal.read_table-requires-clause-short
read_table-requires-clause-short c =
    let same : length c.args.file.now ≡ length c.in_ok-image.image.file = ap length (loaded_file c.args.file.now c.in_ok-image.image c.in_ok-image.ensures.answer) in
    omega (arith, same, c.requires)

pub returns-in_err-table-clause-verdict : goal.returns-in_err-table-clause-verdict
returns-in_err-table-clause-verdict c =
    let gives = err_from_is_err_and c.from_residual-in_err-table.result c.from_residual-in_err-table.ensures.1 in
    rw (gives.1, gives.2)
    (λ other next.
    no_table c.args.file.now next c.in_ok-image.image c.in_err-table.field-0.0 c.in_ok-image.ensures.answer c.in_err-table.ensures.exact other)

pub returns-clause-verdict : goal.returns-clause-verdict
returns-clause-verdict c = λ _ next.
    whole_program c.args.file.now next c.in_ok-image.image (view c.in_ok-table.table) c.in_ok-image.ensures.answer c.in_ok-table.ensures.exact

pub returns-clause-reads : goal.returns-clause-reads
returns-clause-reads c = ap table_in (loaded_file c.args.file.now c.in_ok-image.image c.in_ok-image.ensures.answer) ∙ c.in_ok-table.ensures.exact
