-- The pieces of printed texts.
use Rattle.std.specs.Prelude.{ℕ, ◌++◌, decimal, codes}
use Rattle.coz_types.specs.Endings.{ending_text}
use Rattle.coz_types.specs.Labels.{Text}
use Rattle.coz_types.specs.declared.ending.Ending.{Ending}

-- a name and a number
abbrev pub named : Text → ℕ → Text
named name n = name ++ decimal n

-- a name and a number on a line
abbrev pub number_line : Text → ℕ → Text
number_line name n = named name n ++ codes "\n"

-- how a run ended, on a line
abbrev pub end_line : Ending → Text
end_line ending = codes "end " ++ ending_text ending ++ codes "\n"
