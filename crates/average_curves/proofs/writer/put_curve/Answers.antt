use Rattle.std.proofs.Common.{◌++◌, codes, decimal, flat_map, ap}
use Rattle.coz_types.specs.Labels.{Text}
use Rattle.coz_files.proofs.GatheredLemmas.{gathers_then}
use Rattle.profile_book.proofs.Gathering.{gathers_as}
use Rattle.average_curves.specs.Texts.{step_text}
use Rattle.average_curves.proofs.writer.put_curve.Goals as goal

pub returns : goal.returns
returns g c =
    let point = gathers_as (ap (λ n. codes "curve\tpoint=" ++ decimal n) c.from.ensures) c.put_named.ensures in
    let selected = gathers_as (ap (λ (t : Text). codes "\tselected=" ++ t) c.bytes.ensures) c.put_field.ensures in
    let exact = gathers_as (ap (λ (t : Text). codes "\texact=" ++ t) c.exact_text.ensures) c.put_field-2.ensures in
    let steps = gathers_as (ap (flat_map step_text) c.as_slice.ensures) c.put_steps.ensures in
    let numbers = gathers_then (gathers_then (gathers_then (gathers_then point selected) c.put_value.ensures) c.put_number.ensures) c.put_number-2.ensures in
    gathers_then (gathers_then (gathers_then numbers exact) c.push.ensures.gathers) steps
