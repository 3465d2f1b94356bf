use Rattle.coz_files.specs.Verdict.{bytes_of}
use Rattle.functions_cli.proofs.Judged.{fault_judged, written_judged}
use Rattle.functions_cli.proofs.answer.answer_of.Goals as goal

pub returns-in-Ok-clause-judges : goal.returns-in-Ok-clause-judges
returns-in-Ok-clause-judges g c =
    written_judged (bytes_of c.args.words.now) (g.F.Files.held c.args.files.now) (g.F.Files.faults c.args.files.now) (g.F.Files.faults c.judge.new.files) _
    c.in-Ok.ensures.fault_of_request c.in-Ok.ensures.verdict c.in-Ok.ensures.no_fault

pub returns-in-Err-clause-judges : goal.returns-in-Err-clause-judges
returns-in-Err-clause-judges g c =
    fault_judged (bytes_of c.args.words.now) (g.F.Files.held c.args.files.now) (g.F.Files.faults c.args.files.now) (g.F.Files.faults c.judge.new.files) c.in-Err.fault
    c.in-Err.ensures.fault_of_request c.in-Err.ensures.verdict c.in-Err.ensures.read_fault_has_cause c.in-Err.ensures.no_fault
