use Rattle.std.proofs.Common.{rules}
use Rattle.profile_book.proofs.Gathering.{gathers_as, line_more, lines_whole}
use Rattle.command_texts.proofs.Flat.{visit_line, visits_flat}
use Rattle.command_texts.proofs.text.put_visits.Goals as goal

pub loop-visit-preserved : goal.loop-visit-preserved
loop-visit-preserved g c = line_more visit_line c.args.visits.now c.loop-visit.visit-index _ (search rules) (search rules) c.loop-visit.invariant c.put_visit.ensures

pub returns : goal.returns
returns g c = gathers_as (visits_flat c.args.visits.now) (lines_whole visit_line c.args.visits.now c.loop-visit.visit-index (search rules) c.loop-visit.invariant)
