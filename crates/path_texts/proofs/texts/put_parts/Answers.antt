use Rattle.std.proofs.Common.{ap}
use Rattle.std.specs.List.{flat_map}
use Rattle.coz_files.proofs.GatheredLemmas.{gathers_then}
use Rattle.profile_book.proofs.Gathering.{gathers_as}
use Rattle.path_texts.specs.PathText.{share_line}
use Rattle.path_texts.proofs.texts.put_parts.Goals as goal

pub returns : goal.returns
returns g c =
    let shares = gathers_as (ap (flat_map (share_line c.args.index.now.lines)) c.as_slice.ensures) c.put_shares.ensures in
    gathers_then (gathers_then shares c.put_amount.ensures) c.put_amount-2.ensures
