use Rattle.std.proofs.Common.{Bool, ◌++◌, codes, ap, sym, ◌∙◌, if◌then◌else◌}
use Rattle.coz_types.specs.Labels.{Text}
use Rattle.coz_files.proofs.GatheredLemmas.{gathers_then}
use Rattle.profile_book.proofs.Gathering.{gathers_as}
use Rattle.page_charts.specs.Values.{value_text}
use Rattle.page_charts.proofs.percent.put_worst.Goals as goal

abbrev text : Text → Text → Bool → Text
text before value gain = before ++ (if gain then codes "none" else value)

pub returns-then-is_gain : goal.returns-then-is_gain
returns-then-is_gain g c =
    gathers_as (sym (ap (text c.args.before.now (value_text c.args.worst)) (sym c.is_gain.ensures ∙ c.if-is_gain.true))) (gathers_then c.push.ensures.gathers c.push-then-is_gain.ensures.gathers)

pub returns-else-is_gain : goal.returns-else-is_gain
returns-else-is_gain g c =
    gathers_as (sym (ap (text c.args.before.now (value_text c.args.worst)) (sym c.is_gain.ensures ∙ c.if-is_gain.false))) c.put_value.ensures
