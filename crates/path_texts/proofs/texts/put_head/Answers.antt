use Rattle.std.proofs.Common.{codes, ap}
use Rattle.coz_files.proofs.GatheredLemmas.{gathers_then}
use Rattle.profile_book.specs.Pieces.{number_line}
use Rattle.profile_book.proofs.Gathering.{gathers_as}
use Rattle.path_texts.proofs.texts.put_head.Goals as goal

pub returns : goal.returns
returns g c =
    let retired = gathers_as (ap (number_line (codes "retired ")) c.len.ensures) c.put_line-2.ensures in
    gathers_then (gathers_then (gathers_then c.put_end.ensures c.put_line.ensures) retired) c.put_line-3.ensures
