use Rattle.join_parts.proofs.Sharded.{shards_verdict}
use Rattle.join_parts.proofs.shards.shards_verdict.Goals as goal

pub returns : goal.returns
returns c = shards_verdict
