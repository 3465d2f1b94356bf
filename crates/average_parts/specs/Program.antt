-- The program that averages profiles, with the words that it is given.
use Rattle.std.specs.Prelude.{◌≡◌, ℕ, List, ◌++◌, codes, Option, Some, None}
use Rattle.coz_types.specs.Labels.{Text}
use Rattle.coz_files.specs.Held.{Held}
use Rattle.coz_serve.specs.Serves.{Program}
use Rattle.average_curves.specs.Texts.{averages_text}
use Rattle.average_parts.specs.declared.table.Table.{Table}
use Rattle.average_parts.specs.Words.{paths_in}
use Rattle.average_parts.specs.Verdict.{IsVerdict}
use Rattle.average_parts.specs.Answer.{IsReadAt}

-- the words name the path, and each file before that of the path holds a profile
abbrev pub NamesPath : List Text → Option Held → Text → Type 0
NamesPath words told path =
    (paths : List Text) × (paths_in words ≡ Some paths) × IsReadAt paths told path

abbrev pub average_program : List Text → Option Held → Program
average_program words told = record {
  name = codes "coz-average";
  HasNone = paths_in words ≡ None;
  Names = NamesPath words told;
  IsVerdict = IsVerdict words;
  last = 0;
  greatest = 14;
}

-- what is printed of averages
abbrev pub table_status : Table → ℕ
table_status table = 0

abbrev pub table_text : Table → Text
table_text table = averages_text table.averages

-- the help of the program
abbrev pub help_text : Text
help_text =
    codes "usage: coz-average [--] PROFILE...\n"
    ++ codes "\n"
    ++ codes "Averages profiles of one program's lines on machines that differ in their seeds.\n"
    ++ codes "\n"
    ++ codes "  PROFILE...       1 to 1,000 profiles that coz prints\n"
    ++ codes "  --               all words after it are profiles\n"
    ++ codes "  -h, --help       print this help\n"
    ++ codes "  -V, --version    print the version\n"
