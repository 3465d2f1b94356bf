-- The request of a command line.
use Rattle.std.specs.Prelude.{◌≡◌, ℕ, ◌≤◌, Bool, not, ◌&&◌, ◌==◌, ◌^◌, nat_lt, nat_le, true, false, List, [], ◌∷◌, length, codes, Option, Some, None, IfSome, is_some, if◌then◌else◌, option_and_then, find}
use Rattle.std.specs.List.{list_all, list_any}
use Rattle.std.specs.Str.{bytes_eq}
use Rattle.coz_types.specs.declared.TheConstants.{MAX_SPEEDUP, MAX_WORKERS, MAX_SIZE, MIN_VERSION, MAX_VERSION, MAX_WORD}
use Rattle.coz_types.specs.Ranges.{last_word}
use Rattle.coz_words.specs.Said.{Text, Item, option, target, SaysAll}
use Rattle.experiment_plan.specs.Lists.{number_in, is_line, is_list, pieces}
use Rattle.coz_words.specs.declared.command.Command.{Command}
use Rattle.coz_words.specs.declared.command.Command.TheVariants.{Run, Really, Profile, Lines, Plot, Asm, Trial, Latency, Path}
use Rattle.coz_words.specs.declared.request.TheConstants.{USUAL_WORKERS, USUAL_SIZE}
use Rattle.coz_words.specs.declared.request.Counts.{Counts}
use Rattle.coz_words.specs.declared.request.Request.{Request}

-- ---- commands

abbrev pub commands : List Command
commands = Run ∷ Really ∷ Profile ∷ Lines ∷ Plot ∷ Asm ∷ Trial ∷ Latency ∷ Path ∷ []

abbrev pub command_name : Command → Text
command_name Run = codes "run"
command_name Really = codes "really"
command_name Profile = codes "profile"
command_name Lines = codes "lines"
command_name Plot = codes "plot"
command_name Asm = codes "asm"
command_name Trial = codes "trial"
command_name Latency = codes "latency"
command_name Path = codes "path"

-- the command runs the program
abbrev pub is_runner : Command → Bool
is_runner Run = true
is_runner Really = true
is_runner Profile = true
is_runner Latency = true
is_runner Path = true
is_runner _ = false

abbrev pub input_name : Text
input_name = codes "input"

abbrev pub line_name : Text
line_name = codes "line"

abbrev pub speedup_name : Text
speedup_name = codes "speedup"

abbrev pub lines_name : Text
lines_name = codes "lines"

abbrev pub progress_name : Text
progress_name = codes "progress"

abbrev pub speedups_name : Text
speedups_name = codes "speedups"

abbrev pub budget_name : Text
budget_name = codes "budget"

abbrev pub workers_name : Text
workers_name = codes "workers"

abbrev pub size_name : Text
size_name = codes "size"

abbrev pub dwarf_name : Text
dwarf_name = codes "dwarf"

abbrev pub arrive_name : Text
arrive_name = codes "arrive"

abbrev pub depart_name : Text
depart_name = codes "depart"

-- the options of the commands that run a program once
abbrev pub run_options : List Text
run_options = input_name ∷ line_name ∷ speedup_name ∷ progress_name ∷ budget_name ∷ []

abbrev pub profile_options : List Text
profile_options =
    input_name ∷ lines_name ∷ progress_name ∷ speedups_name ∷ budget_name ∷ workers_name ∷ []

abbrev pub latency_options : List Text
latency_options =
    input_name ∷ line_name ∷ arrive_name ∷ depart_name ∷ speedups_name ∷ budget_name ∷ []

-- the options of a command
abbrev pub option_names : Command → List Text
option_names Run = run_options
option_names Really = run_options
option_names Profile = profile_options
option_names Lines = []
option_names Plot = []
option_names Asm = dwarf_name ∷ []
option_names Trial = size_name ∷ workers_name ∷ []
option_names Latency = latency_options
option_names Path = input_name ∷ budget_name ∷ []

abbrev pub is_among : List Text → Text → Bool
is_among names name = list_any (λ n. bytes_eq n name) names

-- ---- items

abbrev pub text_of : Item → Text
text_of (option name value) = value
text_of (target text) = text

abbrev pub has_name : Text → Item → Bool
has_name name (option n value) = bytes_eq n name
has_name name (target text) = false

abbrev pub is_target : Item → Bool
is_target (target text) = true
is_target (option name value) = false

-- the value of the first option of that name
abbrev pub value_of : Text → List Item → Option Text
value_of name items = option_and_then (λ item. Some (text_of item)) (find (has_name name) items)

abbrev pub target_of : List Item → Option Text
target_of items = option_and_then (λ item. Some (text_of item)) (find is_target items)

-- the two are options of one name, or both the positional
abbrev pub same_kind : Item → Item → Bool
same_kind (option a v) (option b w) = bytes_eq a b
same_kind (target v) (target w) = true
same_kind _ _ = false

-- each option is given at most once, and so is the positional
abbrev pub is_once : List Item → Bool
is_once [] = true
is_once (item ∷ items) = not (list_any (same_kind item) items) && is_once items

abbrev pub is_of_options : List Text → Item → Bool
is_of_options names (option name value) = is_among names name
is_of_options names (target text) = true

abbrev pub is_some_text : Text → Bool
is_some_text text = nat_lt 0 (length text)

abbrev pub has_text : Item → Bool
has_text item = is_some_text (text_of item)

-- options of the command, each at most once, and no text is empty
abbrev pub are_items_of : Command → List Item → Bool
are_items_of c items =
    list_all (is_of_options (option_names c)) items && is_once items && list_all has_text items

-- ---- values

-- there is none, or it passes
abbrev pub none_or : (Text → Bool) → Option Text → Bool
none_or test None = true
none_or test (Some text) = test text

-- the options are there without which the command's words make no request
abbrev pub has_needed : Command → Option Text → Option Text → Option Text → Bool
has_needed Latency line arrive depart = is_some line && is_some arrive && is_some depart
has_needed _ line arrive depart = true

-- the line and the lists are such, if they are given, and those are given that the command needs
abbrev pub are_right : Command → Option Text → Option Text → Option Text → Option Text
    → Option Text → Bool
are_right c line lines progress arrive depart =
    none_or is_line line && none_or is_list lines && none_or is_list progress
    && none_or is_list arrive && none_or is_list depart && has_needed c line arrive depart

abbrev pub has_option : Command → Text → Bool
has_option c name = is_among (option_names c) name

-- the budget of a command if none is given, and the greatest
abbrev pub usual_budget : Command → ℕ
usual_budget Path = 1000000
usual_budget _ = 100000000

abbrev pub greatest_budget : Command → ℕ
greatest_budget Path = 4000000
greatest_budget _ = 10 ^ 12

-- the number of an option that is given; if it isn't, the usual one,
-- or 0 if the command hasn't the option
abbrev pub number_or : Command → Text → ℕ → ℕ → ℕ → Option Text → Option ℕ
number_or c name usual least most None = Some (if has_option c name then usual else 0)
number_or c name usual least most (Some number) = number_in least most number

-- the speedup that a value gives to a line; if no line is given, none can be given
abbrev pub speedup_in : Option Text → Option Text → Option ℕ
speedup_in line None = Some 0
speedup_in None (Some number) = None
speedup_in (Some line) (Some number) = number_in 0 MAX_SPEEDUP number

-- what a source is made from is the positional of `trial`, a number; other commands make none
abbrev pub seed_in : Command → Text → Option ℕ
seed_in Trial text = number_in 0 last_word text
seed_in _ text = Some 0

-- one value after the other, if all are there
infixr 20 ◌>>=◌
abbrev pub ◌>>=◌ : {A B : Type 0} → Option A → (A → Option B) → Option B
o >>= f = option_and_then f o

-- the numbers of a list of texts, if each is one
abbrev pub numbers_in : ℕ → ℕ → List Text → Option (List ℕ)
numbers_in least most [] = Some []
numbers_in least most (text ∷ texts) =
    number_in least most text >>= λ number.
    numbers_in least most texts >>= λ numbers.
    Some (number ∷ numbers)

abbrev pub all_speedups : List ℕ
all_speedups =
    0 ∷ 5 ∷ 10 ∷ 15 ∷ 20 ∷ 25 ∷ 30 ∷ 35 ∷ 40 ∷ 45 ∷ 50 ∷ 55 ∷ 60 ∷ 65 ∷ 70 ∷ 75
    ∷ 80 ∷ 85 ∷ 90 ∷ 95 ∷ []

-- the speedups, as they were given
abbrev pub speedups_in : Command → Option Text → Option (List ℕ)
speedups_in c None = Some (if has_option c speedups_name then all_speedups else [])
speedups_in c (Some numbers) = numbers_in 0 MAX_SPEEDUP (pieces numbers)

-- ---- the request

-- the numbers that are no parts of lists: of a command, its positional, and the values of options
-- by their names
abbrev pub counts_with : Command → Text → (Text → Option Text) → Option Counts
counts_with c text value =
    number_or c budget_name (usual_budget c) 1 (greatest_budget c) (value budget_name) >>= λ budget.
    number_or c workers_name USUAL_WORKERS 1 MAX_WORKERS (value workers_name) >>= λ workers.
    number_or c size_name USUAL_SIZE 1 MAX_SIZE (value size_name) >>= λ size.
    number_or c dwarf_name MIN_VERSION MIN_VERSION MAX_VERSION (value dwarf_name)
    >>= λ dwarf.
    seed_in c text >>= λ seed.
    Some (record { budget = budget; workers = workers; size = size; dwarf = dwarf; seed = seed })

-- the request of a command, a positional, the values of options, a speedup, speedups and counts
abbrev pub request_from : Command → Text → (Text → Option Text) → ℕ → List ℕ → Counts → Request
request_from c text value speedup speedups counts = record {
  command = c;
  target = text;
  input = value input_name;
  line = value line_name;
  speedup = speedup;
  lines = value lines_name;
  progress = value progress_name;
  speedups = speedups;
  budget = counts.budget;
  workers = counts.workers;
  seed = counts.seed;
  size = counts.size;
  dwarf = counts.dwarf;
  arrive = value arrive_name;
  depart = value depart_name;
}

-- the request of a command, a positional, and the values of options by their names
abbrev pub request_with : Command → Option Text → (Text → Option Text) → Option Request
request_with c path value =
    if are_right c (value line_name) (value lines_name) (value progress_name)
    (value arrive_name) (value depart_name) then (
    path >>= λ target.
    speedup_in (value line_name) (value speedup_name) >>= λ speedup.
    speedups_in c (value speedups_name) >>= λ speedups.
    counts_with c target value >>= λ counts.
    Some (request_from c target value speedup speedups counts)
    ) else None

-- the request that the items make, if they are right
unfoldable pub request_of_items : Command → List Item → Option Request
request_of_items c items =
    if are_items_of c items then request_with c (target_of items) (λ name. value_of name items)
    else None

abbrev pub has_no_zero : Text → Bool
has_no_zero word = list_all (λ b. not (b == 0)) word

-- no zero byte, and not too long
abbrev pub is_word : Text → Bool
is_word word = has_no_zero word && nat_le (length word) MAX_WORD

-- what is so of each request
pub record IsFit (request : Request) : Type 0 where
  -- its positional is a word that isn't empty
  pub some : nat_lt 0 (length request.target) ≡ true
  pub word : is_word request.target ≡ true
  pub line : IfSome request.line (λ text. is_line text ≡ true)
  pub speedup : request.speedup ≤ MAX_SPEEDUP
  -- a speedup is of a line
  pub no_speedup : request.line ≡ None → request.speedup ≡ 0
  pub lines : IfSome request.lines (λ text. is_list text ≡ true)
  pub progress : IfSome request.progress (λ text. is_list text ≡ true)
  pub arrive : IfSome request.arrive (λ text. is_list text ≡ true)
  pub depart : IfSome request.depart (λ text. is_list text ≡ true)
  pub needed : has_needed request.command request.line request.arrive request.depart ≡ true
  pub speedups : list_all (λ p. nat_le p MAX_SPEEDUP) request.speedups ≡ true
  pub some_budget : is_runner request.command ≡ true → 1 ≤ request.budget
  pub budget : request.budget ≤ greatest_budget request.command
  pub some_workers : has_option request.command workers_name ≡ true → 1 ≤ request.workers
  pub workers : request.workers ≤ MAX_WORKERS
  pub some_size : has_option request.command size_name ≡ true → 1 ≤ request.size
  pub size : request.size ≤ MAX_SIZE
  -- what a trial is made from is its positional
  pub seed : seed_in request.command request.target ≡ Some request.seed
  -- 4 or 5 if the command has a version
  pub some_dwarf : has_option request.command dwarf_name ≡ true → MIN_VERSION ≤ request.dwarf
  pub dwarf : request.dwarf ≤ MAX_VERSION

-- the words make this request: a command, and items that are right for it
pub record Requests (words : List Text) (request : Request) : Type 0 where
  pub command : Command
  pub rest : List Text
  pub items : List Item
  pub whole : words ≡ command_name command ∷ rest
  pub fit : list_all is_word words ≡ true
  pub said : SaysAll items rest
  pub right : request_of_items command items ≡ Some request
