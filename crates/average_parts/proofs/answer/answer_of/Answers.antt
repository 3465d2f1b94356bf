use Rattle.average_parts.specs.Words.{paths_in}
use Rattle.average_parts.specs.Verdict.{bytes_of}
use Rattle.average_parts.proofs.Judged.{fault_judged, table_judged, none_usage, ok_apart}
use Rattle.average_parts.proofs.answer.answer_of.Goals as goal

pub returns-in-Ok-clause-usage : goal.returns-in-Ok-clause-usage
returns-in-Ok-clause-usage g c = λ none. ok_apart (paths_in (bytes_of c.args.words.now)) (g.F.Files.held c.args.files.now) _ c.in-Ok.ensures.fault_of_request none

pub returns-in-Ok-clause-judges : goal.returns-in-Ok-clause-judges
returns-in-Ok-clause-judges g c =
    table_judged (bytes_of c.args.words.now) (g.F.Files.held c.args.files.now) (g.F.Files.faults c.args.files.now) (g.F.Files.faults c.judge.new.files) _
    c.in-Ok.ensures.fault_of_request c.in-Ok.ensures.verdict c.in-Ok.ensures.no_fault

pub returns-in-Err-clause-usage : goal.returns-in-Err-clause-usage
returns-in-Err-clause-usage g c = λ none. none_usage (paths_in (bytes_of c.args.words.now)) (g.F.Files.held c.args.files.now) c.in-Err.fault c.in-Err.ensures.fault_of_request none

pub returns-in-Err-clause-judges : goal.returns-in-Err-clause-judges
returns-in-Err-clause-judges g c =
    fault_judged (bytes_of c.args.words.now) (g.F.Files.held c.args.files.now) (g.F.Files.faults c.args.files.now) (g.F.Files.faults c.judge.new.files) c.in-Err.fault
    c.in-Err.ensures.fault_of_request c.in-Err.ensures.verdict c.in-Err.ensures.read_fault_has_cause c.in-Err.ensures.no_fault
