use Rattle.profile_shards.proofs.Law.{shards_join}
use Rattle.profile_shards.proofs.shards_join.Goals as goal

pub returns : goal.returns
returns c = shards_join
