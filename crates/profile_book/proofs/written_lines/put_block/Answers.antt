use Rattle.std.proofs.Common.{ap}
use Rattle.std.specs.List.{flat_map, enumerate_from}
use Rattle.coz_files.proofs.GatheredLemmas.{gathers_then}
use Rattle.profile_book.specs.Profile.{count_line}
use Rattle.profile_book.proofs.Gathering.{gathers_as}
use Rattle.profile_book.proofs.written_lines.put_block.Goals as goal

pub returns : goal.returns
returns g c =
    let counts = gathers_as (ap (λ xs. flat_map count_line (enumerate_from 0 xs)) c.as_slice.ensures) c.put_counts.ensures in
    gathers_then (gathers_then (gathers_then c.put_experiment.ensures c.put_output.ensures) counts) c.put_visits.ensures
