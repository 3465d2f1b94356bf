use Rattle.std.proofs.Common.{◌≡◌, ◌≤◌, ◌*◌, take}
use Rattle.coz_types.specs.declared.TheConstants.{MAX_NUMBER}
use Rattle.average_curves.specs.Curves.{delays_at}
use Rattle.average_curves.proofs.cost.delays_at.Given as goal

abbrev pub invariant-loop-profile : goal.invariant-loop-profile
invariant-loop-profile l = record {
  delays : l.sum ≡ delays_at l.block (take l.profile-index l.seeds);
  small : l.sum ≤ l.profile-index * MAX_NUMBER;
}
