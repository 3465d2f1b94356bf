-- Pieces of two parts on their way to a sink.
use Rattle.std.proofs.Common.{ℕ, ◌++◌, Option, sym, append_assoc}
use Rattle.coz_types.specs.Labels.{Text}
use Rattle.coz_files.specs.Gathered.{Rest, Gathers}
use Rattle.coz_files.proofs.GatheredLemmas.{gathers_then}
use Rattle.profile_book.proofs.Gathering.{gathers_as}

-- a piece of two parts after a text
pub two_then : {S : Type 0} {holds : S → Option Text} {faults : S → ℕ} {old mid new : S} {rest between left : Rest} {xs : Text} (ys zs : Text) → Gathers holds faults old mid rest between xs → Gathers holds faults mid new between left (ys ++ zs) → Gathers holds faults old new rest left ((xs ++ ys) ++ zs)
two_then {xs = xs} ys zs first second = gathers_as (sym (append_assoc xs ys zs)) (gathers_then first second)
