use Rattle.std.proofs.Common.{sym, ap}
use Rattle.coz_files.proofs.GatheredLemmas.{gathers_then, gathers_nothing}
use Rattle.profile_book.proofs.Gathering.{gathers_as}
use Rattle.page_charts.specs.Charts.{flat_text}
use Rattle.page_charts.proofs.words.put_flat.Goals as goal

pub returns-in-Some : goal.returns-in-Some
returns-in-Some g c = gathers_as (sym (ap flat_text c.in-Some.is)) (gathers_then c.put_named.ensures c.push.ensures.gathers)

pub returns-in_default : goal.returns-in_default
returns-in_default g c = gathers_as (sym (ap flat_text c.in_default.is)) (gathers_nothing c.args.out.now c.args.to.now)
