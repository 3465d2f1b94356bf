-- Lines without where their paths lie in memory.
use Rattle.std.specs.Prelude.{Option, option_map}
use Rattle.line_index.specs.Lines.{Line}
use Rattle.line_remap.specs.declared.location.Location.{Location}

-- the line of a written path and a number
abbrev pub line_of_location : Location → Line
line_of_location location = record { path = location.path.now; number = location.number }

abbrev pub lines_of : Option Location → Option Line
lines_of location = option_map line_of_location location
