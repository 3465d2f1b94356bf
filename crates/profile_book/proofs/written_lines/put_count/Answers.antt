use Rattle.coz_files.proofs.GatheredLemmas.{gathers_then}
use Rattle.profile_book.proofs.written_lines.put_count.Goals as goal

pub returns : goal.returns
returns g c = gathers_then (gathers_then c.put_named.ensures c.put_named-2.ensures) c.push.ensures.gathers
