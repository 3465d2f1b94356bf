-- The greatest length of a profile.
use Rattle.std.proofs.Common.{◌≡◌, ℕ, ◌-◌, ◌*◌, ◌^◌, refl}
use Rattle.profile_reader.specs.declared.TheConstants.{MAX_PROFILE}

-- 256 MiB
max_profile : MAX_PROFILE ≡ 2 ^ 28
max_profile = refl
