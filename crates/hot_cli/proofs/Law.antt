-- A request is computed of the words if and only if they ask for it.
use Rattle.std.proofs.Common.{◌≡◌, ◌↔◌, ℕ, Bool, true, false, not, ◌&&◌, ◌||◌, List, [], ◌∷◌, fold, Option, Some, None, is_some, option_and_then, refl, sym, ap, ◌∙◌, subst, if◌then◌else◌}
use Rattle.std.specs.List.{list_all}
use Rattle.std.specs.Prelude.{unwrap_or}
use Rattle.coz_types.specs.Ranges.{last_word}
use Rattle.experiment_plan.specs.Lists.{number_in}
use Rattle.coz_words.specs.Said.{Text}
use Rattle.coz_words.specs.Said as said
use Rattle.coz_words.specs.Slow.{items_in, request_of}
use Rattle.coz_words.specs.Request.{Requests, command_name, option_names, is_word, request_of_items, request_with, request_from, are_items_of, are_right, target_of, value_of, speedup_in, speedups_in, counts_with, line_name, lines_name, progress_name, arrive_name, depart_name, speedup_name, speedups_name}
use Rattle.coz_words.specs.declared.command.Command.{Command}
use Rattle.coz_words.specs.declared.command.Command.TheVariants.{Run}
use Rattle.coz_words.specs.declared.request.Request.{Request}
use Rattle.coz_words.proofs.Agree.{both_true}
use Rattle.coz_words.proofs.Exact.{then_some, if_some, exact_back, exact_forth}
use Rattle.hot_cli.specs.declared.asked.HotRequest.{HotRequest}
use Rattle.hot_cli.specs.Words.{Given, no_words, scan_word, is_right, as_run, run_in, hot_request_of, hot_request}
use Rattle.hot_cli.specs.Grammar.{Item, others, values, namings, IsTop, IsNamed, AsksHot}
use Rattle.hot_cli.proofs.Slots.{take_item, list_if, are_few, numbers, IsTidy, all_free, all_tidy, held_names, held_top, held_rest, never_twice}
use Rattle.hot_cli.proofs.Said.{not_true, said_forth, said_back}

-- ---- the request of `run`

as_run_some : (c : Command) (line : Option Text) (x r : Request) → as_run c line x ≡ Some r → (c ≡ Run) × (line ≡ None) × (x ≡ r)
as_run_some Run None x r e = let same : x ≡ r = cc in (refl, refl, same)
as_run_some c line x r e = absurd cc

run_forth : (words : List Text) (r : Request) → run_in words ≡ Some r → Requests words r × (r.line ≡ None)
unfolding request_of
run_forth words r e =
    let found = then_some (request_of words) (λ run. as_run run.command run.line run) r e in
    let x : Request = found.0 in
    let is = as_run_some x.command x.line x r found.2 in
    (subst (λ (q : Request). Requests words q) is.2 (exact_back words x found.1), subst (λ (q : Request). q.line ≡ None) is.2 is.1)

-- a request that there is, is one of this command
record IsOf (c : Command) (o : Option Request) : Type 0 where
  is : (r : Request) → o ≡ Some r → r.command ≡ c

if_is : (c : Command) (b : Bool) (o : Option Request) → IsOf c o → IsOf c (if b then o else None)
if_is c b o of = record { is = λ r e. of.is r (if_some b o r e).1 }

then_is : {A : Type 0} (c : Command) (o : Option A) (f : A → Option Request) → ((x : A) → IsOf c (f x)) → IsOf c (option_and_then f o)
then_is c o f of = record { is = λ r e. let found = then_some o f r e in (of found.0).is r found.2 }

some_is : (c : Command) (r : Request) → r.command ≡ c → IsOf c (Some r)
some_is c r e = record { is = λ q same. let is : r ≡ q = cc in subst (λ (x : Request). x.command ≡ c) is e }

values_are : (c : Command) (path : Option Text) (value : Text → Option Text) → IsOf c (request_with c path value)
values_are c path value =
    if_is c (are_right c (value line_name) (value lines_name) (value progress_name) (value arrive_name) (value depart_name)) _
    (then_is c path _ (λ target.
    then_is c (speedup_in (value line_name) (value speedup_name)) _ (λ speedup.
    then_is c (speedups_in c (value speedups_name)) _ (λ speedups.
    then_is c (counts_with c target value) _ (λ counts.
    some_is c (request_from c target value speedup speedups counts) refl)))))

items_are : (c : Command) (items : List said.Item) → IsOf c (request_of_items c items)
unfolding request_of_items
items_are c items =
    if_is c (are_items_of c items) _ (values_are c (target_of items) (λ name. value_of name items))

is_of_run : (rest : List Text) (r : Request) → Requests (command_name Run ∷ rest) r → r.command ≡ Run
is_of_run rest r q =
    let reading : Option (List said.Item) = items_in (option_names Run) None rest in
    let fits = if_some (list_all is_word (command_name Run ∷ rest)) (option_and_then (request_of_items Run) reading) r (exact_forth (command_name Run ∷ rest) r q) in
    let found = then_some reading (request_of_items Run) r fits.1 in
    (items_are Run found.0).is r found.2

run_back : (rest : List Text) (r : Request) → Requests (command_name Run ∷ rest) r → r.line ≡ None → run_in (command_name Run ∷ rest) ≡ Some r
unfolding request_of
run_back rest r q no_line =
    ap (λ (o : Option Request). option_and_then (λ run. as_run run.command run.line run) o) (exact_forth (command_name Run ∷ rest) r q)
    ∙ rw (is_of_run rest r q, no_line) refl

-- ---- what a scan has that makes a request

abbrev with_run : Given → Request → Option HotRequest
with_run f run = Some (record { run = run; top = unwrap_or f.top last_word; names = f.names })

record Makes (f : Given) (r : HotRequest) : Type 0 where
  once : f.twice ≡ false
  free : f.wanting ≡ false
  number : (not f.topped || is_some f.top) ≡ true
  run : run_in f.rest ≡ Some r.run
  top : unwrap_or f.top last_word ≡ r.top
  names : f.names ≡ r.names

request_is : (f : Given) (r : HotRequest) → Makes f r → hot_request_of f ≡ Some r
request_is f r m =
    let fits : is_right f ≡ true = rw (m.once, m.free, m.number) refl in
    ap (λ (b : Bool). if b then option_and_then (with_run f) (run_in f.rest) else None) fits
    ∙ ap (λ (o : Option Request). option_and_then (with_run f) o) m.run
    ∙ rw (m.top, m.names) refl

makes : (f : Given) (r : HotRequest) → hot_request_of f ≡ Some r → Makes f r
makes f r e =
    let both = if_some (is_right f) (option_and_then (with_run f) (run_in f.rest)) r e in
    let found = then_some (run_in f.rest) (with_run f) r both.1 in
    let made : HotRequest = record { run = found.0; top = unwrap_or f.top last_word; names = f.names } in
    let some : Some made ≡ Some r = found.2 in
    let same : made ≡ r = cc in
    let right = both_true (not f.twice && not f.wanting) (not f.topped || is_some f.top) both.0 in
    let state = both_true (not f.twice) (not f.wanting) right.0 in
    record {
      once = not_true f.twice state.0;
      free = not_true f.wanting state.1;
      number = right.1;
      run = found.1 ∙ ap (λ (q : HotRequest). Some q.run) same;
      top = ap (λ (q : HotRequest). q.top) same;
      names = ap (λ (q : HotRequest). q.names) same;
    }

-- ---- the options, as a scan holds them and as the grammar states them

top_of : (topped : Bool) (o : Option ℕ) (texts : List Text) (lines : ℕ) → (topped ≡ false → o ≡ None) → list_if topped o ≡ numbers texts → (not topped || is_some o) ≡ true → unwrap_or o last_word ≡ lines → IsTop texts lines
top_of true o [] lines tidy e number is = absurd cc
top_of false o [] lines tidy e number is = sym is ∙ ap (λ (p : Option ℕ). unwrap_or p last_word) (tidy refl)
top_of false o (t ∷ texts) lines tidy e number is = absurd cc
top_of true o (t ∷ u ∷ texts) lines tidy e number is = absurd cc
top_of true None (t ∷ []) lines tidy e number is = absurd cc
top_of true (Some n) (t ∷ []) lines tidy e number is =
    let same : Some n ≡ number_in 1 last_word t = cc in
    sym same ∙ ap (λ (m : ℕ). Some m) is

of_top : (topped : Bool) (o : Option ℕ) (texts : List Text) (lines : ℕ) → (topped ≡ false → o ≡ None) → list_if topped o ≡ numbers texts → IsTop texts lines → ((not topped || is_some o) ≡ true) × (unwrap_or o last_word ≡ lines)
of_top true o [] lines tidy e is = absurd cc
of_top false o [] lines tidy e is = (refl, ap (λ (p : Option ℕ). unwrap_or p last_word) (tidy refl) ∙ sym is)
of_top false o (t ∷ texts) lines tidy e is = absurd cc
of_top true o (t ∷ u ∷ texts) lines tidy e is = absurd is
of_top true o (t ∷ []) lines tidy e is =
    let same : o ≡ number_in 1 last_word t = cc in
    let has : o ≡ Some lines = same ∙ is in
    (rw has refl, rw has refl)

names_of : (named : Bool) (held : List Bool) → list_if named true ≡ held → IsNamed held named
names_of true held e = subst (λ (bs : List Bool). IsNamed bs true) e refl
names_of false held e = subst (λ (bs : List Bool). IsNamed bs false) e refl

of_names : (b named : Bool) (held : List Bool) → list_if b true ≡ held → IsNamed held named → b ≡ named
of_names true named [] e is = absurd cc
of_names false named [] e is = sym is
of_names false named (x ∷ held) e is = absurd cc
of_names true named (x ∷ y ∷ held) e is = absurd is
of_names true named (x ∷ []) e is = let same : true ≡ x = cc in same ∙ sym is

few_names : (held : List Bool) (named : Bool) → IsNamed held named → are_few held ≡ true
few_names [] named is = refl
few_names (x ∷ []) named is = refl
few_names (x ∷ y ∷ held) named is = absurd is

few_top : (texts : List Text) (lines : ℕ) → IsTop texts lines → are_few (numbers texts) ≡ true
few_top [] lines is = refl
few_top (t ∷ []) lines is = refl
few_top (t ∷ u ∷ texts) lines is = absurd is

-- ---- the law

asks : (words : List Text) (r : HotRequest) → hot_request words ≡ Some r → AsksHot words r
unfolding hot_request
asks words r e =
    let f : Given = fold scan_word no_words words in
    let m : Makes f r = makes f r e in
    let found = said_back words false no_words refl m.free in
    let items : List Item = found.0 in
    let h : Given = fold take_item no_words items in
    let is : f ≡ h = found.2 in
    let once : h.twice ≡ false = subst (λ (g : Given). g.twice ≡ false) is m.once in
    let tidy : IsTidy f = subst IsTidy (sym is) (all_tidy items no_words (λ untopped. refl)) in
    let held : list_if f.topped f.top ≡ numbers (values items) = ap (λ (g : Given). list_if g.topped g.top) is ∙ held_top items no_words once in
    let named : list_if f.names true ≡ namings items = ap (λ (g : Given). list_if g.names true) is ∙ held_names items no_words once in
    let rest : f.rest ≡ command_name Run ∷ others items = ap (λ (g : Given). g.rest) is ∙ held_rest items no_words in
    let run = run_forth (command_name Run ∷ others items) r.run (ap run_in (sym rest) ∙ m.run) in
    record {
      items = items;
      said = found.1;
      run = run.0;
      no_line = run.1;
      top = top_of f.topped f.top (values items) r.top tidy held m.number m.top;
      names = subst (λ (b : Bool). IsNamed (namings items) b) m.names (names_of f.names (namings items) named);
    }

asked : (words : List Text) (r : HotRequest) → AsksHot words r → hot_request words ≡ Some r
unfolding hot_request
asked words r a =
    let h : Given = fold take_item no_words a.items in
    let once : h.twice ≡ false = never_twice a.items no_words refl (few_names (namings a.items) r.names a.names) (few_top (values a.items) r.top a.top) in
    let tidy : IsTidy h = all_tidy a.items no_words (λ untopped. refl) in
    let top = of_top h.topped h.top (values a.items) r.top tidy (held_top a.items no_words once) a.top in
    ap hot_request_of (said_forth a.items words no_words refl a.said)
    ∙ request_is h r (record {
      once = once;
      free = all_free a.items no_words refl;
      number = top.0;
      run = ap run_in (held_rest a.items no_words) ∙ run_back (others a.items) r.run a.run a.no_line;
      top = top.1;
      names = of_names h.names r.names (namings a.items) (held_names a.items no_words once) a.names;
    })

pub law : (words : List Text) (r : HotRequest) → (hot_request words ≡ Some r) ↔ AsksHot words r
law words r = (asks words r, asked words r)
