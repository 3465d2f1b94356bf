use Rattle.coz_files.proofs.GatheredLemmas.{gathers_then}
use Rattle.command_texts.specs.Text.{labelled_text}
use Rattle.command_texts.proofs.listing.put_labelled.Goals as goal

pub returns : goal.returns
unfolding labelled_text
returns g c =
    gathers_then (gathers_then (gathers_then c.push.ensures.gathers c.push-2.ensures.gathers) c.put_addresses.ensures) c.push-3.ensures.gathers
