use Rattle.profile_laws.proofs.Shards.{prints_join}
use Rattle.profile_laws.proofs.shards_are_joined.Goals as goal

pub returns : goal.returns
returns c = prints_join
