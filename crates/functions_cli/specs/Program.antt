-- The program that writes a program by function, with the words that it is given.
use Rattle.std.specs.Prelude.{◌≡◌, ℕ, List, ◌++◌, codes, None, Some}
use Rattle.coz_types.specs.Labels.{Text}
use Rattle.coz_serve.specs.Serves.{Program}
use Rattle.functions_cli.specs.declared.written.Written.{Written}
use Rattle.functions_cli.specs.Words.{Request, request_in}
use Rattle.functions_cli.specs.Verdict.{IsVerdict}

-- the path that the words name
abbrev pub NamesPath : List Text → Text → Type 0
NamesPath words path =
    (request : Request) × (request_in words ≡ Some request) × (path ≡ request.target)

abbrev pub functions_program : List Text → Program
functions_program words = record {
  name = codes "coz-functions";
  HasNone = request_in words ≡ None;
  Names = NamesPath words;
  IsVerdict = IsVerdict words;
  last = 0;
  greatest = 14;
}

-- what is printed of a file
abbrev pub written_status : Written → ℕ
written_status written = 0

abbrev pub written_text : Written → Text
written_text written = written.file.items

-- the help of the program
abbrev pub help_text : Text
help_text =
    codes "usage: coz-functions PROG [OPTION]...\n"
    ++ codes "\n"
    ++ codes "Writes a program with a line table in which each function is one line.\n"
    ++ codes "\n"
    ++ codes "  PROG              a static RV64IMA Linux program\n"
    ++ codes "  --keep LIST       lines that keep their addresses, with commas between them\n"
    ++ codes "  --regions LIST    regions PATH:FROM-TO that are one line each, with commas\n"
    ++ codes "  -h, --help        print this help\n"
    ++ codes "  -V, --version     print the version\n"
