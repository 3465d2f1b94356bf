use Rattle.std.proofs.Common.{◌++◌, codes, ap}
use Rattle.coz_types.specs.Labels.{Text}
use Rattle.coz_files.proofs.GatheredLemmas.{gathers_then}
use Rattle.profile_book.proofs.Gathering.{gathers_as}
use Rattle.path_texts.proofs.texts.put_share.Goals as goal

pub returns : goal.returns
returns g c =
    let name = gathers_as (ap (λ (t : Text). codes "share " ++ t) c.label_at.ensures) c.put_field.ensures in
    gathers_then (gathers_then name c.put_named.ensures) c.push.ensures.gathers
