-- The limit of inputs.
use Rattle.std.proofs.Common.{◌≡◌, ◌^◌, refl}
use Rattle.run_inputs.specs.declared.inputs.TheConstants.{MAX_INPUT}

-- 16 MiB
max_input : MAX_INPUT ≡ 2 ^ 24
max_input = refl
