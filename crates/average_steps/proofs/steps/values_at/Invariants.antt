use Rattle.std.proofs.Common.{◌≡◌, take, map, All, IfSome, slice_get}
use Rattle.profile_book.specs.declared.profile.Profile.{Profile}
use Rattle.average_values.specs.Values.{IsValue}
use Rattle.average_steps.specs.Steps.{run_value}
use Rattle.average_steps.proofs.steps.values_at.Given as goal

abbrev pub invariant-loop-profile : goal.invariant-loop-profile
invariant-loop-profile l = record {
  values : l.values.items ≡ map (λ (p : Profile). run_value l.base l.point (slice_get p.summaries l.block)) (take l.profile-index l.profiles);
  small : All (λ v. IfSome v IsValue) l.values.items;
}
