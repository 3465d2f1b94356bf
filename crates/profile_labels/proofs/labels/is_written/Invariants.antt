use Rattle.std.proofs.Common.{◌≡◌, drop, Some, None}
use Rattle.coz_types.specs.Labels.{is_scanned}
use Rattle.profile_labels.specs.Scanning.{small_digit}
use Rattle.profile_labels.proofs.labels.is_written.Given as goal

abbrev pub invariant-loop-byte : goal.invariant-loop-byte
invariant-loop-byte l = (is_scanned (Some l.at) (drop l.byte-index l.path) ≡ is_scanned (Some None) l.path) × small_digit l.at
