use Rattle.std.proofs.Common.{rules}
use Rattle.run_summary.proofs.digests.bytes_of_visit.Goals as goal

pub returns : goal.returns
returns c = search rules
