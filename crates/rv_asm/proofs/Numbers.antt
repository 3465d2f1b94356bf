-- The greatest number of lines.
use Rattle.std.proofs.Common.{◌≡◌, ◌^◌, refl}
use Rattle.rv_asm.specs.declared.lines.TheConstants.{MAX_LINES}

-- lines of a source
most_lines : MAX_LINES ≡ 2 ^ 16
most_lines = refl
