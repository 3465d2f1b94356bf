use Rattle.coz_files.proofs.GatheredLemmas.{gathers_then}
use Rattle.command_texts.proofs.listing.put_more.Goals as goal

pub returns : goal.returns
returns g c =
    gathers_then c.push.ensures.gathers c.put_address.ensures
