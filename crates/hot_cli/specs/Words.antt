-- The request of the words, computed word by word. `Grammar.antt` says what the words are.
use Rattle.std.specs.Prelude.{ℕ, Bool, true, false, not, ◌&&◌, ◌||◌, List, [], ◌∷◌, ◌++◌, take, drop, fold, codes, Option, Some, None, is_some, unwrap_or, if◌then◌else◌, option_and_then}
use Rattle.std.specs.Str.{bytes_eq}
use Rattle.coz_types.specs.Ranges.{last_word}
use Rattle.experiment_plan.specs.Lists.{number_in}
use Rattle.coz_words.specs.Answers.{bytes_of}
use Rattle.coz_words.specs.Said.{Text}
use Rattle.coz_words.specs.Slow.{request_of}
use Rattle.coz_words.specs.declared.command.Command.{Command}
use Rattle.coz_words.specs.declared.command.Command.TheVariants.{Run}
use Rattle.coz_words.specs.declared.request.Request.{Request}
use Rattle.hot_cli.specs.declared.asked.HotRequest.{HotRequest}
use Rattle.hot_cli.specs.declared.scan.Scan.{Scan}

-- what some words give: whether `--names` is among them and `--top` with its value, the number
-- that this is, whether the value is the next word, whether an option came twice, and the
-- words of `run`
pub record Given : Type 0 where
  pub names : Bool
  pub topped : Bool
  pub top : Option ℕ
  pub wanting : Bool
  pub twice : Bool
  pub rest : List Text

abbrev pub scanned : Scan → Given
scanned scan = record {
  names = scan.names;
  topped = scan.topped;
  top = scan.top;
  wanting = scan.wanting;
  twice = scan.twice;
  rest = bytes_of scan.rest.items;
}

abbrev pub no_words : Given
no_words = record {
  names = false;
  topped = false;
  top = None;
  wanting = false;
  twice = false;
  rest = codes "run" ∷ [];
}

abbrev pub with_names : Given → Given
with_names g = record g { names = true; twice = if g.names then true else g.twice }

abbrev pub with_top : Text → Given → Given
with_top value g = record g {
  topped = true;
  top = number_in 1 last_word value;
  wanting = false;
  twice = if g.topped then true else g.twice;
}

-- with a word that is no value
abbrev pub free_word : Given → Text → Given
free_word g word =
    if bytes_eq word (codes "--names") then with_names g
    else if bytes_eq word (codes "--top") then record g { wanting = true }
    else if bytes_eq (take 6 word) (codes "--top=") then with_top (drop 6 word) g
    else record g { rest = g.rest ++ word ∷ [] }

abbrev pub scan_word : Given → Text → Given
scan_word g word = if g.wanting then with_top word g else free_word g word

-- each option came at most once, and `--top` with a number of 1 and up
abbrev pub is_right : Given → Bool
is_right g = not g.twice && not g.wanting && (not g.topped || is_some g.top)

-- of `run`, with no line
abbrev pub as_run : Command → Option Text → Request → Option Request
as_run Run None run = Some run
as_run _ _ run = None

abbrev pub run_in : List Text → Option Request
run_in words = option_and_then (λ run. as_run run.command run.line run) (request_of words)

abbrev pub hot_request_of : Given → Option HotRequest
hot_request_of g = if is_right g then option_and_then (λ run. Some (record {
  run = run;
  top = unwrap_or g.top last_word;
  names = g.names;
})) (run_in g.rest) else None

-- the request of the words after the program's name
unfoldable pub hot_request : List Text → Option HotRequest
hot_request words = hot_request_of (fold scan_word no_words words)
