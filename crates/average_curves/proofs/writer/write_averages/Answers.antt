use Rattle.std.proofs.Common.{flat_map, ap}
use Rattle.coz_files.proofs.GatheredLemmas.{gathers_then, puts_whole}
use Rattle.profile_book.proofs.Gathering.{gathers_as, gathers_from}
use Rattle.average_curves.specs.Texts.{curve_text}
use Rattle.average_curves.proofs.writer.write_averages.Goals as goal

pub returns : goal.returns
returns g c =
    let curves = gathers_as (ap (flat_map curve_text) c.as_slice.ensures) c.put_curves.ensures in
    puts_whole (gathers_then (gathers_from c.new-buffer.ensures c.put_head.ensures) curves) c.finish.ensures
