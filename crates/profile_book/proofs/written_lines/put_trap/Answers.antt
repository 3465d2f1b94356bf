use Rattle.std.proofs.Common.{◌++◌, codes, decimal, sym, ap, append_assoc}
use Rattle.coz_types.specs.Labels.{Text}
use Rattle.coz_types.specs.Endings.{cause_text}
use Rattle.coz_files.proofs.GatheredLemmas.{gathers_then}
use Rattle.profile_book.proofs.Gathering.{gathers_as}
use Rattle.profile_book.proofs.written_lines.put_trap.Goals as goal

pub returns : goal.returns
returns g c =
    let front = gathers_as (ap (λ (t : Text). codes "trapped:" ++ t) c.name.ensures) c.put_field.ensures in
    let hart = gathers_as (ap (λ n. codes ":" ++ decimal n) c.from.ensures) c.put_named.ensures in
    let two = gathers_as (sym (append_assoc (codes "trapped:" ++ cause_text c.args.trap.cause) (codes ":") (decimal c.args.trap.hart.0))) (gathers_then front hart) in
    gathers_then (gathers_then two c.push.ensures.gathers) c.put_address.ensures
