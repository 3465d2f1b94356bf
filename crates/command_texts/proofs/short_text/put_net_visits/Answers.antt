use Rattle.std.proofs.Common.{rules}
use Rattle.profile_book.proofs.Gathering.{gathers_as, line_more, lines_whole}
use Rattle.command_texts.proofs.Flat.{net_visit_line, net_visits_flat}
use Rattle.command_texts.proofs.short_text.put_net_visits.Goals as goal

pub loop-visit-preserved : goal.loop-visit-preserved
loop-visit-preserved g c = line_more net_visit_line c.args.visits.now c.loop-visit.visit-index _ (search rules) (search rules) c.loop-visit.invariant c.put_net_visit.ensures

pub returns : goal.returns
returns g c = gathers_as (net_visits_flat c.args.visits.now) (lines_whole net_visit_line c.args.visits.now c.loop-visit.visit-index (search rules) c.loop-visit.invariant)
