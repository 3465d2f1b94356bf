use Rattle.std.proofs.Common.{◌++◌, codes, ap}
use Rattle.coz_types.specs.Labels.{Text}
use Rattle.coz_files.proofs.GatheredLemmas.{gathers_then}
use Rattle.profile_book.proofs.Gathering.{gathers_as}
use Rattle.page_cli.specs.Lines.{label_text}
use Rattle.page_cli.proofs.page.put_name.Goals as goal

pub returns : goal.returns
returns g c =
    gathers_then (gathers_as (ap (λ (t : Text). codes "<li>" ++ label_text t) c.bytes.ensures) c.put_label.ensures) c.push.ensures.gathers
