-- What is answered of words.
use Rattle.std.specs.Prelude.{◌≡◌, List, map, string_bytes, Option, Some, None, Result, Ok, Err, if◌then◌else◌, ⊤}
use Rattle.std.specs.declared.string.String.{String}
use Rattle.std.specs.declared.alloc.Global.{Global}
use Rattle.coz_words.specs.Said.{Text}
use Rattle.coz_words.specs.Request.{has_option}
use Rattle.coz_words.specs.declared.command.Command.{Command}
use Rattle.coz_words.specs.declared.request.WordsError.{WordsError}
use Rattle.coz_words.specs.declared.request.WordsError.TheVariants.{Usage, Memory}

abbrev pub bytes_of : List (String Global) → List Text
bytes_of words = map string_bytes words

-- the request that is wanted, or Usage if there is none; out of memory may come at any time
abbrev pub Answers : {A : Type 0} → Option A → Result A WordsError → Type 0
Answers wanted (Ok found) = wanted ≡ Some found
Answers wanted (Err Usage) = wanted ≡ None
Answers wanted (Err Memory) = ⊤

-- the value of an option, if the command has it
abbrev pub option_value : Command → (Text → Option Text) → Text → Option Text
option_value c found name = if has_option c name then found name else None
