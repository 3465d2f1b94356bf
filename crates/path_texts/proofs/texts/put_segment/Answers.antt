use Rattle.std.proofs.Common.{◌++◌, codes, decimal, ap}
use Rattle.coz_types.specs.Labels.{Text}
use Rattle.coz_files.proofs.GatheredLemmas.{gathers_then}
use Rattle.profile_book.proofs.Gathering.{gathers_as}
use Rattle.path_texts.proofs.texts.put_segment.Goals as goal

pub returns : goal.returns
returns g c =
    let hart = gathers_as (ap (λ n. codes "segment " ++ decimal n) c.from.ensures) c.put_named.ensures in
    let by = gathers_as (ap (λ (t : Text). codes " by " ++ t) c.by_text.ensures) c.put_field.ensures in
    gathers_then (gathers_then (gathers_then (gathers_then hart c.put_named-2.ensures) c.put_named-3.ensures) by) c.push.ensures.gathers
