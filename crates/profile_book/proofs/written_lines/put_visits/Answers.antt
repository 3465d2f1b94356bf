use Rattle.coz_files.proofs.GatheredLemmas.{gathers_then}
use Rattle.profile_book.proofs.written_lines.put_visits.Goals as goal

pub returns : goal.returns
returns g c = gathers_then c.put_digest.ensures c.push.ensures.gathers
