use Rattle.std.proofs.Common.{sym, ap}
use Rattle.coz_files.proofs.GatheredLemmas.{gathers_then}
use Rattle.profile_book.proofs.Gathering.{gathers_as}
use Rattle.page_charts.specs.Values.{cost_text}
use Rattle.page_charts.proofs.percent.put_cost.Goals as goal

pub returns-in-Some : goal.returns-in-Some
returns-in-Some g c = gathers_then c.push.ensures.gathers (gathers_as (sym (ap cost_text c.in-Some.is)) (gathers_then c.put_size.ensures c.put_threads.ensures))

pub returns-in-None : goal.returns-in-None
returns-in-None g c = gathers_then c.push.ensures.gathers (gathers_as (sym (ap cost_text c.in-None.is)) c.push-in-None.ensures.gathers)
