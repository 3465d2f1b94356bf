-- A plan, computed on the definition.
use Rattle.std.proofs.Common.{◌≡◌, ℕ, [], ◌∷◌, refl}
use Rattle.experiment_plan.specs.declared.experiment.Experiment.{Experiment}
use Rattle.coz_commands.specs.Profiled.{pairs_of}

abbrev pair : ℕ → ℕ → Experiment
pair line speedup = record { line = record { 0 = line }; speedup = speedup }

-- each line at 0 and at each speedup, once
planned_once : pairs_of (0 ∷ 2 ∷ []) (50 ∷ 5 ∷ 50 ∷ []) ≡ pair 0 0 ∷ pair 0 5 ∷ pair 0 50 ∷ pair 2 0 ∷ pair 2 5 ∷ pair 2 50 ∷ []
planned_once = refl
