use Rattle.std.proofs.Common.{◌≡◌, drop, None}
use Rattle.coz_types.specs.Labels.{parts_of}
use Rattle.page_cli.proofs.label_parts.last_colon.Given as goal

abbrev pub invariant-loop-i : goal.invariant-loop-i
invariant-loop-i l = parts_of (drop l.i l.label) ≡ None
