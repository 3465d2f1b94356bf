use Rattle.std.proofs.Common.{◌≡◌, ◌++◌}
use Rattle.average_parts.proofs.chosen.both.Given as goal

abbrev pub invariant-loop-profile : goal.invariant-loop-profile
invariant-loop-profile l = (l.first.items ≡ l.fn.first.items ++ l.yielded) × (l.yielded ++ l.profile-iterator.rest.items ≡ l.initial.profile-iterator.rest.items)
