use Rattle.std.proofs.Common.{◌++◌, codes, ap}
use Rattle.coz_files.proofs.GatheredLemmas.{gathers_then}
use Rattle.profile_book.proofs.Gathering.{gathers_as}
use Rattle.profile_book.proofs.written_lines.put_point.Goals as goal

pub returns : goal.returns
returns g c =
    gathers_then (gathers_then c.put_named.ensures (gathers_as (ap (λ t. codes "\tname=" ++ t) c.bytes.ensures) c.put_field.ensures)) c.push.ensures.gathers
