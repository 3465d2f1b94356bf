-- The program that lists the lines which cost most, with the request that its words make.
use Rattle.std.specs.Prelude.{◌≡◌, ℕ, List, ◌++◌, codes, Option, None, Some}
use Rattle.coz_serve.specs.Serves.{Program}
use Rattle.command_texts.specs.Printed.{ending_status}
use Rattle.run_inputs.specs.Answer.{Names}
use Rattle.hot_cli.specs.declared.asked.HotRequest.{HotRequest}
use Rattle.hot_cli.specs.declared.hot.Hot.{Hot}
use Rattle.hot_cli.specs.Verdict.{request_verdict}

-- a path that the words name: the program's, or the input's
abbrev pub NamesPath : Option HotRequest → List ℕ → Type 0
NamesPath None path = ⊥
NamesPath (Some asked) path = Names (Some asked.run) path

abbrev pub hot_program : Option HotRequest → Program
hot_program request = record {
  name = codes "coz-hot";
  HasNone = request ≡ None;
  Names = NamesPath request;
  IsVerdict = λ held v. v ≡ request_verdict request held;
  last = 1;
  greatest = 12;
}

-- the status of a run whose text is put
abbrev pub hot_status : Hot → ℕ
hot_status hot = ending_status hot.run.ending

-- the help of the program
abbrev pub help_text : List ℕ
help_text =
    codes "usage: coz-hot PROG [OPTION]...\n"
    ++ codes "\n"
    ++ codes "Runs a program once, and prints its lines by falling cost.\n"
    ++ codes "\n"
    ++ codes "  PROG               a static RV64IMA Linux program\n"
    ++ codes "  --input FILE       the standard input of the program\n"
    ++ codes "  --budget N         the greatest number of instructions to retire\n"
    ++ codes "  --progress LIST    the progress points, with commas between them\n"
    ++ codes "  --top N            the greatest number of lines to print\n"
    ++ codes "  --names            print the labels alone\n"
    ++ codes "  -h, --help         print this help\n"
    ++ codes "  -V, --version      print the version\n"
