use Rattle.std.proofs.Common.{rules}
use Rattle.file_read.proofs.reading.read_file.Goals as goal

pub returns-in-Whole-clause-verdict : goal.returns-in-Whole-clause-verdict
returns-in-Whole-clause-verdict g c = search rules

pub returns-in-Longer-clause-verdict : goal.returns-in-Longer-clause-verdict
returns-in-Longer-clause-verdict g c = search rules

pub returns-in-Failed-clause-verdict : goal.returns-in-Failed-clause-verdict
returns-in-Failed-clause-verdict g c = search rules

pub returns-in-Whole-clause-read_fault_has_cause : goal.returns-in-Whole-clause-read_fault_has_cause
returns-in-Whole-clause-read_fault_has_cause g c = search rules
