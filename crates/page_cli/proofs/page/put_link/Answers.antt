use Rattle.std.proofs.Common.{◌++◌, codes, ap}
use Rattle.coz_types.specs.Labels.{Text}
use Rattle.coz_files.proofs.GatheredLemmas.{gathers_then}
use Rattle.profile_book.proofs.Gathering.{gathers_as}
use Rattle.page_cli.specs.Lines.{label_text}
use Rattle.page_charts.proofs.Pieces.{two_then}
use Rattle.page_cli.proofs.page.put_link.Goals as goal

pub returns : goal.returns
returns g c =
    let label = gathers_as (ap (λ (t : Text). codes "\">" ++ label_text t) c.bytes.ensures) c.put_label.ensures in
    gathers_then (two_then (codes "\">") (label_text c.args.label.now) c.put_named.ensures label) c.push.ensures.gathers
