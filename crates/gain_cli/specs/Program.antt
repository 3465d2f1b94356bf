-- The program that profiles on a machine, with the request that its words make.
use Rattle.std.specs.Prelude.{◌≡◌, ℕ, List, ◌++◌, codes, Option, None, Some}
use Rattle.coz_serve.specs.Serves.{Program}
use Rattle.run_inputs.specs.Answer.{Names}
use Rattle.gain_words.specs.declared.asked.GainRequest.{GainRequest}
use Rattle.gain_cli.specs.Verdict.{request_verdict}

-- a path that the words name: the program's, or the input's
abbrev pub NamesPath : Option GainRequest → List ℕ → Type 0
NamesPath None path = ⊥
NamesPath (Some asked) path = Names (Some asked.profile) path

-- its lines of errors are those of `coz`
abbrev pub gain_program : Option GainRequest → Program
gain_program request = record {
  name = codes "coz";
  HasNone = request ≡ None;
  Names = NamesPath request;
  IsVerdict = λ held v. v ≡ request_verdict request held;
  last = 1;
  greatest = 12;
}

-- the help of the program
abbrev pub help_text : List ℕ
help_text =
    codes "usage: coz-gain PROG [OPTION]...\n"
    ++ codes "\n"
    ++ codes "Prints the profile of a program on a machine of other costs, cores or jitter.\n"
    ++ codes "\n"
    ++ codes "  PROG               a static RV64IMA Linux program\n"
    ++ codes "  --input FILE       the standard input of the program\n"
    ++ codes "  --lines LIST       the lines to select, with commas between them\n"
    ++ codes "  --speedups LIST    the speedups in percent, with commas between them\n"
    ++ codes "  --progress LIST    the progress points, with commas between them\n"
    ++ codes "  --budget N         the greatest number of instructions to retire in a run\n"
    ++ codes "  --workers W        the number of threads\n"
    ++ codes "  --cores C          the number of cores, 1 to 256\n"
    ++ codes "  --slice Q          the cycles of a slice, 1 to 1000000000\n"
    ++ codes "  --costs LIST       the cycles of classes, such as load=9,ecall=1000\n"
    ++ codes "  --charge WHOM      instructions without a line count for nobody (none), or\n"
    ++ codes "                     for the last line before them (last)\n"
    ++ codes "  --seed S           the seed of the jitter, 0 for none\n"
    ++ codes "  -h, --help         print this help\n"
    ++ codes "  -V, --version      print the version\n"
