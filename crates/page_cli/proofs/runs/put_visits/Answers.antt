use Rattle.std.proofs.Common.{ap}
use Rattle.profile_book.proofs.Gathering.{gathers_as}
use Rattle.page_cli.specs.Runs.{visits_in}
use Rattle.page_cli.proofs.runs.put_visits.Goals as goal

pub returns : goal.returns
returns g c = gathers_as (ap (visits_in c.args.point) c.plain_run.ensures) c.put_visits_in.ensures
