use Rattle.coz_files.proofs.GatheredLemmas.{gathers_then}
use Rattle.profile_book.proofs.written_lines.put_output.Goals as goal

pub returns : goal.returns
returns g c = gathers_then (gathers_then c.put_named.ensures c.put_digest.ensures) c.push.ensures.gathers
