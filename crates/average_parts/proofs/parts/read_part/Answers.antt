use Rattle.std.proofs.lemmas.Result.{err_from_is_err_and}
use Rattle.average_parts.proofs.Reading.{part_of_file, unread}
use Rattle.average_parts.proofs.parts.read_part.Goals as goal

pub returns-in_err-file-clause-verdict : goal.returns-in_err-file-clause-verdict
returns-in_err-file-clause-verdict g c =
    let gives = err_from_is_err_and c.from_residual.result c.from_residual.ensures.1 in
    rw (gives.1, gives.2)
    (unread c.args.path.now (g.F.Files.held c.args.files.now) (g.F.Files.faults c.args.files.now) (g.F.Files.faults c.read_file.new.files) c.in_err-file.field-0.0 c.in_err-file.ensures.verdict)

pub returns-clause-verdict : goal.returns-clause-verdict
returns-clause-verdict g c =
    part_of_file c.args.path.now (g.F.Files.held c.args.files.now) (g.F.Files.faults c.args.files.now) (g.F.Files.faults c.read_file.new.files) c.in_ok-file.file c.book.result c.in_ok-file.ensures.verdict
    (rw c.deref.ensures.value at c.book.ensures.judged)
