use Rattle.std.proofs.Common.{rules}
use Rattle.timing_reader.proofs.Inverse.{read_within}
use Rattle.timing_reader.proofs.line.read_timing.Goals as goal

pub returns-else-is_usual-clause-within : goal.returns-else-is_usual-clause-within
returns-else-is_usual-clause-within c = read_within c.args.text.now (c.in_ok-timing.timing, c.in_ok-timing.rest.now) (search rules)
