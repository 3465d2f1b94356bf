use Rattle.gain_cli.proofs.Usual.{usual_is}
use Rattle.gain_cli.proofs.usual_is_coz.Goals as goal

pub returns : goal.returns
returns c = usual_is
