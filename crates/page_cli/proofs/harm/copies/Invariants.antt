use Rattle.std.proofs.Common.{◌≡◌, take}
use Rattle.std.specs.List.{filter}
use Rattle.page_cli.specs.Harm.{hurts}
use Rattle.page_cli.proofs.harm.copies.Given as goal

abbrev pub invariant-loop-curve : goal.invariant-loop-curve
invariant-loop-curve l = l.copies.items ≡ filter hurts (take l.curve-index l.curves)
