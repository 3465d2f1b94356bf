use Rattle.std.proofs.Common.{◌∙◌}
use Rattle.profile_reader.proofs.Ends.{done_is}
use Rattle.profile_reader.proofs.scan.is_done.Goals as goal

pub returns : goal.returns
returns c = c.is_empty.ensures ∙ done_is _
