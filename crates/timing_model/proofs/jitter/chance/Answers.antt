use Rattle.std.proofs.Common.{ℕ, ◌%◌, ap}
use Rattle.timing_laws.specs.Noted.{chance}
use Rattle.timing_model.proofs.jitter.chance.Goals as goal

pub returns : goal.returns
unfolding chance
returns c = ap (λ (drawn : ℕ). drawn % 21) c.splitmix.ensures
