-- When there is no unit.
use Rattle.std.specs.Prelude.{◌<◌, List, length}
use Rattle.coz_types.specs.declared.TheConstants.{MAX_PROGRAM}
use Rattle.line_write.specs.declared.UnitError.{UnitError}
use Rattle.line_write.specs.declared.UnitError.TheVariants.{TooLong, Memory}
use Rattle.line_write.specs.Unit.{Sequence, unit}

abbrev pub IsTooLong : List Sequence → UnitError → Type 0
IsTooLong all TooLong = MAX_PROGRAM < length (unit all)
IsTooLong all Memory = Unit {0}
