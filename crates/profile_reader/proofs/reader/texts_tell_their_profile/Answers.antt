use Rattle.profile_reader.proofs.Only.{told_is}
use Rattle.profile_reader.proofs.reader.texts_tell_their_profile.Goals as goal

pub returns : goal.returns
returns c = told_is
