use Rattle.profile_reader.proofs.Falls.{falls}
use Rattle.profile_reader.proofs.reader.labels_rise_or_fall.Goals as goal

pub returns : goal.returns
returns c = falls
