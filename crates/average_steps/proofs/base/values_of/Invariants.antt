use Rattle.std.proofs.Common.{◌≡◌, take, map, All, IfSome}
use Rattle.profile_book.specs.declared.profile.Profile.{Profile}
use Rattle.average_values.specs.Values.{value, IsValue}
use Rattle.average_steps.specs.Steps.{first_pace}
use Rattle.average_steps.proofs.base.values_of.Given as goal

abbrev pub invariant-loop-profile : goal.invariant-loop-profile
invariant-loop-profile l = record {
  values : l.values.items ≡ map (λ (p : Profile). value l.base (first_pace l.point p)) (take l.profile-index l.profiles);
  small : All (λ v. IfSome v IsValue) l.values.items;
}
