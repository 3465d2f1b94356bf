use Rattle.std.proofs.Common.{◌++◌, codes, decimal, ap}
use Rattle.coz_files.proofs.GatheredLemmas.{gathers_then}
use Rattle.profile_book.proofs.Gathering.{gathers_as}
use Rattle.profile_book.proofs.written_lines.put_head.Goals as goal

pub returns : goal.returns
returns g c =
    gathers_then (gathers_then (gathers_then c.push.ensures.gathers c.put_named.ensures) (gathers_as (ap (λ n. codes "\tpoints=" ++ decimal n) c.len.ensures) c.put_named-2.ensures)) c.push-2.ensures.gathers
