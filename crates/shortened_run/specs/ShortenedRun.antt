-- The shortened run of a program.
use Rattle.std.specs.Prelude.{◌≡◌, ℕ, List, All}
use Rattle.coz_types.specs.Image.{ImageParts}
use Rattle.coz_types.specs.declared.record.Visit.{Visit}
use Rattle.run_engine.specs.declared.choice.Setting.{Setting}
use Rattle.run_engine.specs.declared.engine.Engine.{Engine}
use Rattle.run_engine.specs.Run.{IsSetting, experiment_in}
use Rattle.run_engine.specs.Engine.{IsEngineOf}

-- each was kept with no delay
abbrev pub AreUndelayed : List Visit → Type 0
AreUndelayed visits = All (λ visit. visit.delay ≡ 0) visits

-- the setting is within the limits, and the fields stand for the state after as many moves
-- as instructions were retired and harts woken
pub record IsShort (image : ImageParts) (input : List ℕ) (setting : Setting)
    (engine : Engine) : Type 0 where
  pub valid : IsSetting setting
  pub reached : IsEngineOf (experiment_in image input setting) engine
  pub undelayed : AreUndelayed engine.visits.kept
