-- The profiler, with the request that its words make.
use Rattle.std.specs.Prelude.{◌≡◌, ℕ, List, codes, Option, None, IsSomeAnd}
use Rattle.coz_serve.specs.Serves.{Program}
use Rattle.coz_words.specs.declared.command.Command.TheVariants.{Trial}
use Rattle.coz_words.specs.declared.request.Request.{Request}
use Rattle.coz_words.specs.Slow.{request_of}
use Rattle.run_inputs.specs.Answer.{Names}
use Rattle.coz_cli.specs.Verdict.{request_verdict}

abbrev pub coz_program : Option Request → Program
coz_program request = record {
  name = codes "coz";
  HasNone = request ≡ None;
  Names = Names request;
  IsVerdict = λ held v. v ≡ request_verdict request held;
  last = 1;
  greatest = 12;
}

-- the words ask for a trial
abbrev pub AskTrial : List (List ℕ) → Type 0
AskTrial words = IsSomeAnd (request_of words) (λ asked. asked.command ≡ Trial)
