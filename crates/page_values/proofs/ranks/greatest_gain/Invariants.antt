use Rattle.std.proofs.Common.{◌≡◌, drop}
use Rattle.page_values.specs.Ranks.{greatest_gain}
use Rattle.page_values.proofs.ranks.greatest_gain.Given as goal

abbrev pub invariant-loop-i : goal.invariant-loop-i
invariant-loop-i l = l.gain ≡ greatest_gain (drop l.i l.curves)
