use Rattle.std.proofs.Common.{ℕ, ◌++◌, codes, decimal, ap}
use Rattle.coz_files.proofs.GatheredLemmas.{gathers_then}
use Rattle.profile_book.proofs.Gathering.{gathers_as}
use Rattle.page_cli.proofs.runs.put_count.Goals as goal

pub returns : goal.returns
returns g c =
    gathers_then (gathers_as (ap (λ (n : ℕ). codes "<p>Visits at speedup 0: " ++ decimal n) c.visits.ensures) c.put_named.ensures) c.push.ensures.gathers
