use Rattle.std.proofs.Common.{ap, ◌∙◌, ◌+◌, take, drop, refl}
use Rattle.coz_types.specs.Labels.{line_number}
use Rattle.line_remap.proofs.Texts.{location_right, rest_whole}
use Rattle.line_remap.proofs.marks.location_of.Goals as goal

pub returns-in-Some-clause-right : goal.returns-in-Some-clause-right
returns-in-Some-clause-right c =
    let label = c.args.label.now in
    let behind = c.in-Some.colon + 1 in
    location_right label (take c.in-Some.colon label) (drop behind label) _ c.requires c.in-Some.ensures.1 refl (c.line_number.ensures.value ∙ ap line_number (rest_whole label behind)) c.line_number.ensures.small
