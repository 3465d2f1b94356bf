-- The limits of a trial.
use Rattle.std.proofs.Common.{◌≡◌, ◌^◌, refl}
use Rattle.coz_commands.specs.declared.trial.TheConstants.{SELECTED, BUDGET}

-- lines of a trial that are sped up
selected : SELECTED ≡ 10
selected = refl

-- instructions that each run of a trial may retire
budget : BUDGET ≡ 10 ^ 8
budget = refl
