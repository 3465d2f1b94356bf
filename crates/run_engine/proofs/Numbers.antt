-- The limits of the runs.
use Rattle.std.proofs.Common.{◌≡◌, ◌^◌, refl}
use Rattle.run_engine.specs.declared.choice.TheConstants.{MAX_RUN_OUTPUT}

-- 4 MiB
output_limit : MAX_RUN_OUTPUT ≡ 2 ^ 22
output_limit = refl
