use Rattle.std.proofs.Common.{codes, ap}
use Rattle.coz_files.proofs.GatheredLemmas.{gathers_then}
use Rattle.profile_book.specs.Pieces.{number_line}
use Rattle.profile_book.proofs.Gathering.{gathers_as}
use Rattle.command_texts.specs.TrialText.{digest_line}
use Rattle.command_texts.proofs.trial.put_counts.Goals as goal

pub returns : goal.returns
returns g c =
    let source = gathers_as (ap (digest_line (codes "source ")) c.as_slice.ensures) c.put_digested.ensures in
    let lines = gathers_as (ap (number_line (codes "lines ")) c.count.ensures) c.put_line.ensures in
    let experiments = gathers_as (ap (number_line (codes "experiments ")) c.len.ensures) c.put_line-2.ensures in
    gathers_then (gathers_then source lines) experiments
