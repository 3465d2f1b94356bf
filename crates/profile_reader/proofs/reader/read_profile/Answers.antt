use Rattle.profile_reader.proofs.Texts.{judged_by, found_by}
use Rattle.profile_reader.proofs.Only.{only_by}
use Rattle.profile_reader.proofs.reader.read_profile.Goals as goal

pub returns-clause-exact : goal.returns-clause-exact
returns-clause-exact c = judged_by c.args.bytes.now c.parse_profile.result c.parse_profile.ensures

pub returns-clause-found : goal.returns-clause-found
returns-clause-found c = found_by c.args.bytes.now c.parse_profile.result c.parse_profile.ensures

pub returns-clause-only : goal.returns-clause-only
returns-clause-only c = only_by c.args.bytes.now c.parse_profile.result c.parse_profile.ensures
