use Rattle.std.proofs.Common.{ℕ, ◌-◌, ◌++◌, codes, decimal, min, ap}
use Rattle.coz_files.proofs.GatheredLemmas.{gathers_then}
use Rattle.profile_book.proofs.Gathering.{gathers_as}
use Rattle.page_charts.proofs.Pieces.{two_then}
use Rattle.page_cli.proofs.tables.put_count.Goals as goal

pub returns : goal.returns
returns g c =
    let lines = c.args.lines in
    let stands = c.args.stands in
    let least = min c.args.most stands in
    let shown = gathers_as (ap (λ (n : ℕ). codes ". Shown: " ++ decimal n) c.min-shown.ensures) c.put_named-2.ensures in
    let others = gathers_as (ap (λ (n : ℕ). codes ". Not shown: " ++ decimal (stands - n)) c.min-shown.ensures) c.put_named-4.ensures in
    let two = two_then (codes ". Shown: ") (decimal least) c.put_named.ensures shown in
    let three = two_then (codes ". Folded: ") (decimal (lines - stands)) two c.put_named-3.ensures in
    gathers_then (two_then (codes ". Not shown: ") (decimal (stands - least)) three others) c.push.ensures.gathers
