-- The program that joins profiles, with the words that it is given.
use Rattle.std.specs.Prelude.{◌≡◌, ℕ, List, ◌++◌, codes, Option, Some, None}
use Rattle.coz_types.specs.Labels.{Text}
use Rattle.coz_files.specs.Held.{Held}
use Rattle.coz_serve.specs.Serves.{Program}
use Rattle.timing_line.specs.Line.{timing_text}
use Rattle.join_parts.specs.declared.joined.Joined.{Joined}
use Rattle.join_parts.specs.Words.{paths_in}
use Rattle.join_parts.specs.Verdict.{IsVerdict, profile_status, profile_text}
use Rattle.join_parts.specs.Answer.{IsReadAt}

-- the words name the path, and each file before that of the path holds a profile
abbrev pub NamesPath : List Text → Option Held → Text → Type 0
NamesPath words told path =
    (paths : List Text) × (paths_in words ≡ Some paths) × IsReadAt paths told path

abbrev pub join_program : List Text → Option Held → Program
join_program words told = record {
  name = codes "coz-join";
  HasNone = paths_in words ≡ None;
  Names = NamesPath words told;
  IsVerdict = IsVerdict words;
  last = 1;
  greatest = 14;
}

-- what is printed of a joined profile
abbrev pub joined_status : Joined → ℕ
joined_status joined = profile_status joined.profile

abbrev pub joined_text : Joined → Text
joined_text joined = timing_text joined.timing ++ profile_text joined.profile

-- the help of the program
abbrev pub help_text : Text
help_text =
    codes "usage: coz-join [--] PROFILE...\n"
    ++ codes "\n"
    ++ codes "Joins profiles of disjoint parts of a program's lines, and prints the profile of all.\n"
    ++ codes "\n"
    ++ codes "  PROFILE...       profiles that coz prints\n"
    ++ codes "  --               all words after it are profiles\n"
    ++ codes "  -h, --help       print this help\n"
    ++ codes "  -V, --version    print the version\n"
