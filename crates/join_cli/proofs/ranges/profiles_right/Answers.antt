use Rattle.join_cli.proofs.Shards.{profiles_are_right}
use Rattle.join_cli.proofs.ranges.profiles_right.Goals as goal

pub returns : goal.returns
returns c = profiles_are_right
