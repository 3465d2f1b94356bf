use Rattle.std.proofs.Common.{◌≡◌, ◌≤◌, ◌*◌, take}
use Rattle.std.specs.List.{sum_by}
use Rattle.coz_types.specs.declared.TheConstants.{MAX_NUMBER, MAX_COUNT}
use Rattle.profile_book.specs.declared.profile.Profile.{Profile}
use Rattle.average_steps.specs.Steps.{first_pace}
use Rattle.average_steps.proofs.base.pace_of.Given as goal

abbrev pub invariant-loop-profile : goal.invariant-loop-profile
invariant-loop-profile l = record {
  net : l.net ≡ sum_by (λ (p : Profile). (first_pace l.point p).net) (take l.profile-index l.profiles);
  visits : l.visits ≡ sum_by (λ (p : Profile). (first_pace l.point p).visits) (take l.profile-index l.profiles);
  small_net : l.net ≤ l.profile-index * MAX_NUMBER;
  small_visits : l.visits ≤ l.profile-index * MAX_COUNT;
}
