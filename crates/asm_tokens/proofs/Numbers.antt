-- The greatest length of a source.
use Rattle.std.proofs.Common.{◌≡◌, ◌^◌, refl}
use Rattle.asm_tokens.specs.declared.TheConstants.{MAX_SOURCE}

-- 4 MiB
max_source : MAX_SOURCE ≡ 2 ^ 22
max_source = refl
