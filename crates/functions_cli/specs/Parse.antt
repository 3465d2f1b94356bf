-- The command that a parse of the words goes by.
use Rattle.std.specs.Prelude.{true}
use Rattle.clap.specs.Simple.{App, Shape}
use Rattle.coz_words.specs.Parse as parse
use Rattle.functions_cli.specs.Words.{option_names}

-- the words begin after the program's name
abbrev pub without_name : Shape → Shape
without_name s = record s { no_binary_name = true }

abbrev pub words_app : App
words_app = record (parse.words_app option_names) { top = without_name (parse.words_app option_names).top }
