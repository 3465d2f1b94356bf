use Rattle.std.proofs.Common.{nat_abs, ap, ◌∙◌}
use mir.Syntax.{w128}
use Rattle.std.proofs.lemmas.Int.{to_z-of_z}
use Rattle.coz_files.proofs.GatheredLemmas.{gathers_then}
use Rattle.profile_book.proofs.Gathering.{gathers_as}
use Rattle.page_charts.specs.Values.{sign, size_text}
use Rattle.page_charts.proofs.percent.put_percent.Goals as goal

pub returns : goal.returns
returns g c =
    let same = to_z-of_z w128 c.args.value c.ranges.value in
    gathers_then (gathers_as (c.sign.ensures ∙ ap sign same) c.push.ensures.gathers) (gathers_as (ap size_text (c.unsigned_abs.ensures.value ∙ ap nat_abs same)) c.put_size.ensures)
