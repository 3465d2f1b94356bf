use Rattle.std.proofs.Common.{rules, sym, ap, ◌∙◌}
use mir.Syntax.{w128}
use Rattle.std.proofs.lemmas.Int.{to_z-of_z}
use Rattle.coz_files.proofs.GatheredLemmas.{gathers_then}
use Rattle.profile_book.proofs.Gathering.{gathers_as}
use Rattle.page_charts.specs.Values.{percent, value_text}
use Rattle.page_charts.proofs.percent.put_value.Goals as goal

pub returns-in-Some : goal.returns-in-Some
returns-in-Some g c = gathers_then c.push.ensures.gathers (gathers_as (ap percent (to_z-of_z w128 c.in-Some.value (search rules)) ∙ sym (ap value_text c.in-Some.is)) c.put_percent.ensures)

pub returns-in-None : goal.returns-in-None
returns-in-None g c = gathers_then c.push.ensures.gathers (gathers_as (sym (ap value_text c.in-None.is)) c.push-in-None.ensures.gathers)
