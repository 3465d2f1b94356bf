use Rattle.std.proofs.Common.{◌≡◌, take, All, IfSome}
use Rattle.average_values.specs.Values.{IsSum}
use Rattle.average_steps.specs.Steps.{totals_of}
use Rattle.average_steps.proofs.totals.totals.Given as goal

abbrev pub invariant-loop-profile : goal.invariant-loop-profile
invariant-loop-profile l = record {
  totals : l.totals.items ≡ totals_of l.base l.point (take l.profile-index l.profiles) l.start l.count;
  small : All (λ v. IfSome v IsSum) l.totals.items;
}
