use Rattle.std.proofs.Common.{◌∙◌, ap, sym}
use Rattle.std.specs.Prelude.{option_map}
use Rattle.coz_files.specs.Verdict.{bytes_of}
use Rattle.functions_cli.specs.Words.{request_of}
use Rattle.functions_cli.proofs.Served.{of_bytes, unread}
use Rattle.functions_cli.proofs.judge.judge.Goals as goal

pub returns-in-Ok-read_file-clause-verdict : goal.returns-in-Ok-read_file-clause-verdict
returns-in-Ok-read_file-clause-verdict g c =
    of_bytes (bytes_of c.args.words.now) (request_of c.in-Some.asked) (sym (ap (option_map request_of) c.in-Some.is) ∙ c.in-Ok.ensures.asked)
    (g.F.Files.held c.args.files.now) (g.F.Files.faults c.args.files.now) (g.F.Files.faults c.read_file.new.files) c.in-Ok-read_file.file c.file_of.result c.in-Ok-read_file.ensures.verdict
    (rw c.deref.ensures.value at c.file_of.ensures.judged)

pub returns-in-Err-read_file-clause-verdict : goal.returns-in-Err-read_file-clause-verdict
returns-in-Err-read_file-clause-verdict g c =
    unread (bytes_of c.args.words.now) (request_of c.in-Some.asked) (sym (ap (option_map request_of) c.in-Some.is) ∙ c.in-Ok.ensures.asked)
    (g.F.Files.held c.args.files.now) (g.F.Files.faults c.args.files.now) (g.F.Files.faults c.read_file.new.files) c.in-Err-read_file.fault c.in-Err-read_file.ensures.verdict
