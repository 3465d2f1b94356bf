use Rattle.std.proofs.Common.{List, ◌++◌, length, codes, decimal, ap}
use Rattle.coz_types.specs.declared.record.Summary.{Summary}
use Rattle.coz_files.proofs.GatheredLemmas.{gathers_then}
use Rattle.profile_book.proofs.Gathering.{gathers_as}
use Rattle.page_cli.specs.Runs.{speedups_text, warning_text}
use Rattle.page_charts.proofs.Pieces.{two_then}
use Rattle.page_cli.proofs.runs.put_runs.Goals as goal

pub returns : goal.returns
returns g c =
    let summaries = c.as_slice-summaries.ensures in
    let number = gathers_as (ap (λ (ss : List Summary). codes " instructions. Runs: " ++ decimal (length ss)) summaries) c.put_named-2.ensures in
    let runs = two_then (codes " instructions. Runs: ") (decimal (length c.args.profile.now.summaries)) c.put_named.ensures number in
    let speedups = gathers_then (gathers_then runs c.push.ensures.gathers) (gathers_as (ap speedups_text summaries) c.put_speedups.ensures) in
    gathers_then (gathers_then speedups c.push-2.ensures.gathers) (gathers_as (ap warning_text summaries) c.put_warning.ensures)
