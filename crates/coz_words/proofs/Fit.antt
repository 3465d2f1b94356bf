-- What is so of each request.
use Rattle.std.proofs.Common.{◌≡◌, inl, inr, ℕ, ◌≤◌, Bool, true, false, ◌&&◌, nat_le, if◌then◌else◌, List, [], ◌∷◌, ◌++◌, Option, Some, None, refl, ap, ap₂, subst, sym, ◌∙◌, arith}
use Rattle.std.specs.Prelude.{IfSome, nat_lt, length}
use Rattle.std.specs.List.{list_all}
use Rattle.std.specs.Str.Parse.{digits_value}
use Rattle.std.proofs.lemmas.Bool.{leb-true}
use Rattle.std.proofs.lemmas.Bool.Decides.{nat_tests}
use Rattle.std.proofs.lemmas.List.Folds.{list_all-append}
use Rattle.experiment_plan.specs.Lists.{is_number, number_in, is_line, is_list, pieces}
use Rattle.coz_words.specs.Said.{Text, Item, option, target, dashes, SaysAll}
use Rattle.coz_words.specs.declared.command.Command.{Command}
use Rattle.coz_words.specs.declared.command.Command.TheVariants.{Run, Really, Profile, Lines, Plot, Asm, Trial, Latency, Path}
use Rattle.coz_words.specs.declared.request.Counts.{Counts}
use Rattle.coz_words.specs.declared.request.Request.{Request}
use Rattle.coz_words.specs.Request.{IsFit, Requests, request_of_items, are_items_of, is_of_options, has_option, has_text, is_once, is_word, none_or, number_or, numbers_in, seed_in, speedup_in, speedups_in, are_right, has_needed, all_speedups, command_name, option_names, counts_with, request_from, request_with, is_runner, usual_budget, greatest_budget, target_of, value_of, line_name, speedup_name, lines_name, progress_name, arrive_name, depart_name, speedups_name, budget_name, workers_name, size_name, dwarf_name}
use Rattle.coz_words.proofs.Agree.{both_true}
use Rattle.coz_words.proofs.Exact.{then_some, if_some}

-- ---- the positional

words_of : (front rest words : List Text) → words ≡ front ++ rest → list_all is_word words ≡ true → (list_all is_word front ≡ true) × (list_all is_word rest ≡ true)
words_of front rest words is fit = both_true (list_all is_word front) (list_all is_word rest) (sym (list_all-append is_word front rest) ∙ ap (list_all is_word) (sym is) ∙ fit)

first_word : (t : Text) (words : List Text) → list_all is_word (t ∷ words) ≡ true → is_word t ≡ true
first_word t words fit = (both_true (is_word t) (list_all is_word words) fit).0

target_word : (items : List Item) (words : List Text) → SaysAll items words → list_all is_word words ≡ true → (t : Text) → target_of items ≡ Some t → is_word t ≡ true
target_word [] words says fit t is = absurd cc
target_word (target u ∷ []) words (inl e) fit t is =
    let same : u ≡ t = cc in
    let both = both_true (is_word dashes) (list_all is_word (u ∷ [])) (subst (λ (ws : List Text). list_all is_word ws ≡ true) e fit) in
    subst (λ (v : Text). is_word v ≡ true) same (first_word u [] both.1)
target_word (target u ∷ i ∷ items) words (inl e) fit t is = absurd e
target_word (option n v ∷ items) words (inl e) fit t is = absurd e
target_word (target u ∷ items) words (inr s) fit t is =
    let same : u ≡ t = cc in
    let front = (words_of s.0 s.1 words s.2 fit).0 in
    subst (λ (v : Text). is_word v ≡ true) same (first_word u [] (subst (λ (ws : List Text). list_all is_word ws ≡ true) s.3.0 front))
target_word (option n v ∷ items) words (inr s) fit t is = target_word items s.1 s.4 (words_of s.0 s.1 words s.2 fit).1 t is

target_some : (items : List Item) (t : Text) → target_of items ≡ Some t → list_all has_text items ≡ true → nat_lt 0 (length t) ≡ true
target_some [] t is all = absurd cc
target_some (target u ∷ items) t is all =
    let same : u ≡ t = cc in
    subst (λ (v : Text). nat_lt 0 (length v) ≡ true) same (both_true (has_text (target u)) (list_all has_text items) all).0
target_some (option n v ∷ items) t is all = target_some items t is (both_true (has_text (option n v)) (list_all has_text items) all).1

-- ---- the values of options

-- a number of a range is in the range
in_range : (least most : ℕ) (text : Text) (n : ℕ) → number_in least most text ≡ Some n → (least ≤ n) × (n ≤ most)
in_range least most text n is =
    let value = digits_value 10 text in
    let test = if_some (is_number text && nat_le least value && nat_le value most) (Some value) n is in
    let outer = both_true (is_number text && nat_le least value) (nat_le value most) test.0 in
    let low = leb-true least value (both_true (is_number text) (nat_le least value) outer.0).1 in
    let high = leb-true value most outer.1 in
    let same : value ≡ n = cc (test.1) in
    (omega (arith, low, same), omega (arith, high, same))

speedup_fits : (line number : Option Text) (p : ℕ) → speedup_in line number ≡ Some p → (p ≤ 95) × (line ≡ None → p ≡ 0)
speedup_fits line None p is = let same : 0 ≡ p = cc in (omega arith, λ none. sym same)
speedup_fits None (Some number) p is = absurd cc
speedup_fits (Some line) (Some number) p is = ((in_range 0 95 number p is).1, λ none. absurd cc)

usual_fits : (b : Bool) (usual least most n : ℕ) → least ≤ usual → usual ≤ most → (if b then usual else 0) ≡ n → (b ≡ true → least ≤ n) × (n ≤ most)
usual_fits true usual least most n low high is = (λ own. omega (arith, is), omega (arith, is))
usual_fits false usual least most n low high is = (λ own. absurd cc, omega (arith, is))

pub number_fits : (c : Command) (name : Text) (usual least most : ℕ) (text : Option Text) (n : ℕ) → least ≤ usual → usual ≤ most → number_or c name usual least most text ≡ Some n
    → (has_option c name ≡ true → least ≤ n) × (n ≤ most)
number_fits c name usual least most (Some number) n low high is = let range = in_range least most number n is in (λ own. range.0, range.1)
number_fits c name usual least most None n low high is = let same : (if has_option c name then usual else 0) ≡ n = cc in usual_fits (has_option c name) usual least most n low high same

numbers_fit : (texts : List Text) (ns : List ℕ) → numbers_in 0 95 texts ≡ Some ns → list_all (λ p. nat_le p 95) ns ≡ true
numbers_fit [] ns is = let same : [] ≡ ns = cc in subst (λ (ms : List ℕ). list_all (λ p. nat_le p 95) ms ≡ true) same refl
numbers_fit (text ∷ texts) ns is =
    let one = then_some (number_in 0 95 text) _ ns is in
    let more = then_some (numbers_in 0 95 texts) _ ns one.2 in
    let same : one.0 ∷ more.0 ≡ ns = cc (more.2) in
    let small : nat_le one.0 95 ≡ true = small_is one.0 (in_range 0 95 text one.0 one.1).1 in
    subst (λ (ms : List ℕ). list_all (λ p. nat_le p 95) ms ≡ true) same (ap₂ ◌&&◌ small (numbers_fit texts more.0 more.1))
  where
    small_is : (n : ℕ) → n ≤ 95 → nat_le n 95 ≡ true
    small_is n le = grind (arith, nat_tests)

speedups_fit : (c : Command) (text : Option Text) (ns : List ℕ) → speedups_in c text ≡ Some ns → list_all (λ p. nat_le p 95) ns ≡ true
speedups_fit c (Some numbers) ns is = numbers_fit (pieces numbers) ns is
speedups_fit c None ns is = by (has_option c speedups_name) same
  where
    same : (if has_option c speedups_name then all_speedups else []) ≡ ns
    same = cc

    by : (b : Bool) → (if b then all_speedups else []) ≡ ns → list_all (λ p. nat_le p 95) ns ≡ true
    by true e = subst (λ (ms : List ℕ). list_all (λ p. nat_le p 95) ms ≡ true) e refl
    by false e = subst (λ (ms : List ℕ). list_all (λ p. nat_le p 95) ms ≡ true) e refl

has_budget : (c : Command) → is_runner c ≡ true → has_option c budget_name ≡ true
has_budget Run is = refl
has_budget Really is = refl
has_budget Profile is = refl
has_budget Lines is = absurd cc
has_budget Plot is = absurd cc
has_budget Asm is = absurd cc
has_budget Trial is = absurd cc
has_budget Latency is = refl
has_budget Path is = refl

-- the usual budget of a command is one
usual_is : (c : Command) → (1 ≤ usual_budget c) × (usual_budget c ≤ greatest_budget c)
usual_is Path = (omega arith, omega arith)
usual_is Run = (omega arith, omega arith)
usual_is Really = (omega arith, omega arith)
usual_is Profile = (omega arith, omega arith)
usual_is Lines = (omega arith, omega arith)
usual_is Plot = (omega arith, omega arith)
usual_is Asm = (omega arith, omega arith)
usual_is Trial = (omega arith, omega arith)
usual_is Latency = (omega arith, omega arith)

passes : (test : Text → Bool) (value : Option Text) → none_or test value ≡ true → IfSome value (λ text. test text ≡ true)
passes test None e = tt
passes test (Some text) e = e

-- ---- the request

-- what a test of all texts says of each
record Right (c : Command) (l ls p a d : Option Text) : Type 0 where
  line : none_or is_line l ≡ true
  lines : none_or is_list ls ≡ true
  progress : none_or is_list p ≡ true
  arrive : none_or is_list a ≡ true
  depart : none_or is_list d ≡ true
  needed : has_needed c l a d ≡ true

rights : (c : Command) (line lines progress arrive depart : Option Text) → are_right c line lines progress arrive depart ≡ true → Right c line lines progress arrive depart
rights c line lines progress arrive depart e =
    let a = both_true _ (has_needed c line arrive depart) e in
    let b = both_true _ (none_or is_list depart) a.0 in
    let d = both_true _ (none_or is_list arrive) b.0 in
    let f = both_true _ (none_or is_list progress) d.0 in
    let g = both_true (none_or is_line line) (none_or is_list lines) f.0 in
    record { line = g.0; lines = g.1; progress = f.1; arrive = d.1; depart = b.1; needed = a.1 }

some_same : {A : Type 0} (x y : A) → Some x ≡ Some y → x ≡ y
some_same x y is = cc

request_fits : (c : Command) (path : Option Text) (value : Text → Option Text) (r : Request) → ((t : Text) → path ≡ Some t → (nat_lt 0 (length t) ≡ true) × (is_word t ≡ true)) → request_with c path value ≡ Some r → IsFit r
request_fits c path value r own is =
    let tests = if_some (are_right c (value line_name) (value lines_name) (value progress_name) (value arrive_name) (value depart_name)) _ r is in
    let fit = rights c (value line_name) (value lines_name) (value progress_name) (value arrive_name) (value depart_name) tests.0 in
    let target = then_some path _ r tests.1 in
    let speedup = then_some (speedup_in (value line_name) (value speedup_name)) _ r target.2 in
    let speedups = then_some (speedups_in c (value speedups_name)) _ r speedup.2 in
    let counts = then_some (counts_with c target.0 value) _ r speedups.2 in
    let budget = then_some (number_or c budget_name (usual_budget c) 1 (greatest_budget c) (value budget_name)) _ counts.0 counts.1 in
    let workers = then_some (number_or c workers_name 4 1 16 (value workers_name)) _ counts.0 budget.2 in
    let size = then_some (number_or c size_name 100 1 2000 (value size_name)) _ counts.0 workers.2 in
    let dwarf = then_some (number_or c dwarf_name 4 4 5 (value dwarf_name)) _ counts.0 size.2 in
    let seed = then_some (seed_in c target.0) _ counts.0 dwarf.2 in
    let from : Counts → Request = request_from c target.0 value speedup.0 speedups.0 in
    let same : from (record { budget = budget.0; workers = workers.0; size = size.0; dwarf = dwarf.0; seed = seed.0 }) ≡ r = ap from (some_same _ counts.0 seed.2) ∙ some_same _ r counts.2 in
    let slow = speedup_fits (value line_name) (value speedup_name) speedup.0 speedup.1 in
    let many = number_fits c workers_name 4 1 16 (value workers_name) workers.0 (omega arith) (omega arith) workers.1 in
    let version = number_fits c dwarf_name 4 4 5 (value dwarf_name) dwarf.0 (omega arith) (omega arith) dwarf.1 in
    let few = number_fits c budget_name (usual_budget c) 1 (greatest_budget c) (value budget_name) budget.0 (usual_is c).0 (usual_is c).1 budget.1 in
    let large = number_fits c size_name 100 1 2000 (value size_name) size.0 (omega arith) (omega arith) size.1 in
    subst IsFit same (record {
      some = (own target.0 target.1).0;
      word = (own target.0 target.1).1;
      line = passes is_line (value line_name) fit.line;
      speedup = slow.0;
      no_speedup = slow.1;
      lines = passes is_list (value lines_name) fit.lines;
      progress = passes is_list (value progress_name) fit.progress;
      arrive = passes is_list (value arrive_name) fit.arrive;
      depart = passes is_list (value depart_name) fit.depart;
      needed = fit.needed;
      speedups = speedups_fit c (value speedups_name) speedups.0 speedups.1;
      some_budget = λ run. few.0 (has_budget c run);
      budget = few.1;
      some_workers = many.0;
      workers = many.1;
      some_size = large.0;
      size = large.1;
      seed = seed.1;
      some_dwarf = version.0;
      dwarf = version.1;
    })

pub fit_in : (words : List Text) (r : Request) → Requests words r → IsFit r
unfolding request_of_items
fit_in words r q =
    let a = if_some (are_items_of q.command q.items) (request_with q.command (target_of q.items) (λ name. value_of name q.items)) r q.right in
    let texts = both_true (list_all (is_of_options (option_names q.command)) q.items && is_once q.items) (list_all has_text q.items) a.0 in
    let fit = (both_true (is_word (command_name q.command)) (list_all is_word q.rest) (subst (λ (ws : List Text). list_all is_word ws ≡ true) q.whole q.fit)).1 in
    request_fits q.command (target_of q.items) (λ name. value_of name q.items) r (λ t named. (target_some q.items t named texts.1, target_word q.items q.rest q.said fit t named)) a.1
