use Rattle.coz_files.proofs.GatheredLemmas.{gathers_then}
use Rattle.page_cli.proofs.label.put_html.Goals as goal

pub returns : goal.returns
returns g c = gathers_then c.push.ensures.gathers c.put_bytes.ensures
