use Rattle.std.proofs.Common.{◌++◌, codes, ap, ℤ}
use Rattle.std.specs.Fmt.{signed_decimal}
use Rattle.std.specs.Int.{w128}
use Rattle.std.proofs.lemmas.Int.{to_z-of_z}
use Rattle.coz_files.proofs.GatheredLemmas.{gathers_then}
use Rattle.profile_book.proofs.Gathering.{gathers_as}
use Rattle.command_texts.proofs.trial.put_known_gain.Goals as goal

pub returns : goal.returns
returns g c =
    let gain = gathers_as (ap (λ (z : ℤ). codes " " ++ signed_decimal z) (to_z-of_z w128 c.args.gain c.ranges.gain)) c.put_signed.ensures in
    gathers_then (gathers_then c.put_field.ensures gain) c.push.ensures.gathers
