-- The greatest number of experiments.
use Rattle.std.proofs.Common.{◌≡◌, ◌^◌, refl}
use Rattle.experiment_plan.specs.declared.experiment.TheConstants.{MAX_PAIRS}

-- pairs of a line and a speedup
most_pairs : MAX_PAIRS ≡ 10 ^ 5
most_pairs = refl
