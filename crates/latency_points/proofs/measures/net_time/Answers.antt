use Rattle.std.proofs.Common.{rules}
use Rattle.latency_points.proofs.measures.net_time.Goals as goal

pub returns : goal.returns
returns c = search rules
