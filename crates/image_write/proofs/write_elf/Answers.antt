use Rattle.std.proofs.Common.{rules, ◌≡◌, IfOk}
use Rattle.rv_asm.specs.Assembled.{view}
use Rattle.image_write.specs.File.{written_file}
use Rattle.image_write.proofs.Loading.{given_loads}
use Rattle.image_write.proofs.LineSection.{given_unit}
use Rattle.image_write.proofs.Written.{given_lines}
use Rattle.image_write.proofs.WordLines.{given_word_lines}
use Rattle.image_write.proofs.write_elf.Goals as goal

pub returns-clause-loads : goal.returns-clause-loads
unfolding written_file
returns-clause-loads c is =
    let bytes : IfOk c.file_with.result (λ v. v.items ≡ written_file (view c.args.assembled.now) c.args.name.now c.args.version) = search rules in
    given_loads (λ v. v.items) (view c.args.assembled.now) c.args.name.now c.args.version c.file_with.result c.requires.named bytes is

pub returns-clause-line_unit : goal.returns-clause-line_unit
unfolding written_file
returns-clause-line_unit c is =
    let bytes : IfOk c.file_with.result (λ v. v.items ≡ written_file (view c.args.assembled.now) c.args.name.now c.args.version) = search rules in
    given_unit (λ v. v.items) (view c.args.assembled.now) c.args.name.now c.args.version c.file_with.result c.requires.named bytes is

pub returns-clause-table : goal.returns-clause-table
unfolding written_file
returns-clause-table c is =
    let bytes : IfOk c.file_with.result (λ v. v.items ≡ written_file (view c.args.assembled.now) c.args.name.now c.args.version) = search rules in
    given_lines (λ v. v.items) (view c.args.assembled.now) c.args.name.now c.args.version c.file_with.result c.requires.named c.requires.version bytes is

pub returns-clause-lines : goal.returns-clause-lines
unfolding written_file
returns-clause-lines c is =
    let bytes : IfOk c.file_with.result (λ v. v.items ≡ written_file (view c.args.assembled.now) c.args.name.now c.args.version) = search rules in
    given_word_lines (λ v. v.items) (view c.args.assembled.now) c.args.name.now c.args.version c.file_with.result c.requires.named c.requires.version bytes is
