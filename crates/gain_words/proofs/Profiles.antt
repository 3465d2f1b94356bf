-- A request of `profile` is one that words make by the grammar of its arguments.
use Rattle.std.proofs.Common.{◌≡◌, ℕ, ◌≤◌, Bool, true, nat_le, List, ◌∷◌, Option, Some, None, option_and_then, refl, ap, ◌∙◌, subst, if◌then◌else◌, arith}
use Rattle.std.specs.List.{list_all}
use Rattle.std.proofs.lemmas.Bool.{leb-true}
use Rattle.std.proofs.lemmas.Bool.Decides.{nat_tests}
use Rattle.coz_words.specs.Said.{Text}
use Rattle.coz_words.specs.Said as said
use Rattle.coz_words.specs.Slow.{items_in, request_of}
use Rattle.coz_words.specs.Request.{Requests, command_name, option_names, is_word, request_of_items, request_with, request_from, are_items_of, are_right, target_of, value_of, speedup_in, speedups_in, counts_with, line_name, lines_name, progress_name, arrive_name, depart_name, speedup_name, speedups_name}
use Rattle.coz_words.specs.declared.command.Command.{Command}
use Rattle.coz_words.specs.declared.command.Command.TheVariants.{Profile}
use Rattle.coz_words.specs.declared.request.Request.{Request}
use Rattle.coz_words.proofs.Exact.{then_some, if_some, exact_back, exact_forth}
use Rattle.timing_steps.specs.declared.ticks.TheConstants.{MAX_TIMED_BUDGET}
use Rattle.gain_words.specs.Words.{as_profile, profile_in}

as_profile_some : (c : Command) (x r : Request) → as_profile c x ≡ Some r → (c ≡ Profile) × (nat_le x.budget MAX_TIMED_BUDGET ≡ true) × (x ≡ r)
as_profile_some Profile x r e =
    let fits = if_some (nat_le x.budget MAX_TIMED_BUDGET) (Some x) r e in
    let some : Some x ≡ Some r = fits.1 in
    let same : x ≡ r = cc in
    (refl, fits.0, same)
as_profile_some c x r e = absurd cc

pub profile_forth : (words : List Text) (r : Request) → profile_in words ≡ Some r → Requests words r × (r.budget ≤ MAX_TIMED_BUDGET)
unfolding request_of
profile_forth words r e =
    let found = then_some (request_of words) (λ profile. as_profile profile.command profile) r e in
    let x : Request = found.0 in
    let is = as_profile_some x.command x r found.2 in
    (subst (λ (q : Request). Requests words q) is.2 (exact_back words x found.1), subst (λ (q : Request). q.budget ≤ MAX_TIMED_BUDGET) is.2 (leb-true x.budget MAX_TIMED_BUDGET is.1))

-- a request that there is, is one of this command
record IsOf (c : Command) (o : Option Request) : Type 0 where
  is : (r : Request) → o ≡ Some r → r.command ≡ c

if_is : (c : Command) (b : Bool) (o : Option Request) → IsOf c o → IsOf c (if b then o else None)
if_is c b o of = record { is = λ r e. of.is r (if_some b o r e).1 }

then_is : {A : Type 0} (c : Command) (o : Option A) (f : A → Option Request) → ((x : A) → IsOf c (f x)) → IsOf c (option_and_then f o)
then_is c o f of = record { is = λ r e. let found = then_some o f r e in (of found.0).is r found.2 }

some_is : (c : Command) (r : Request) → r.command ≡ c → IsOf c (Some r)
some_is c r e = record { is = λ q same. let is : r ≡ q = cc in subst (λ (x : Request). x.command ≡ c) is e }

values_are : (c : Command) (path : Option Text) (value : Text → Option Text) → IsOf c (request_with c path value)
values_are c path value =
    if_is c (are_right c (value line_name) (value lines_name) (value progress_name) (value arrive_name) (value depart_name)) _
    (then_is c path _ (λ target.
    then_is c (speedup_in (value line_name) (value speedup_name)) _ (λ speedup.
    then_is c (speedups_in c (value speedups_name)) _ (λ speedups.
    then_is c (counts_with c target value) _ (λ counts.
    some_is c (request_from c target value speedup speedups counts) refl)))))

items_are : (c : Command) (items : List said.Item) → IsOf c (request_of_items c items)
unfolding request_of_items
items_are c items =
    if_is c (are_items_of c items) _ (values_are c (target_of items) (λ name. value_of name items))

is_of_profile : (rest : List Text) (r : Request) → Requests (command_name Profile ∷ rest) r → r.command ≡ Profile
is_of_profile rest r q =
    let reading : Option (List said.Item) = items_in (option_names Profile) None rest in
    let fits = if_some (list_all is_word (command_name Profile ∷ rest)) (option_and_then (request_of_items Profile) reading) r (exact_forth (command_name Profile ∷ rest) r q) in
    let found = then_some reading (request_of_items Profile) r fits.1 in
    (items_are Profile found.0).is r found.2

few_is : (n : ℕ) → n ≤ MAX_TIMED_BUDGET → nat_le n MAX_TIMED_BUDGET ≡ true
few_is n le = grind (arith, nat_tests)

pub profile_back : (rest : List Text) (r : Request) → Requests (command_name Profile ∷ rest) r → r.budget ≤ MAX_TIMED_BUDGET → profile_in (command_name Profile ∷ rest) ≡ Some r
unfolding request_of
profile_back rest r q few =
    ap (λ (o : Option Request). option_and_then (λ profile. as_profile profile.command profile) o) (exact_forth (command_name Profile ∷ rest) r q)
    ∙ ap (λ (c : Command). as_profile c r) (is_of_profile rest r q)
    ∙ ap (λ (b : Bool). if b then Some r else None) (few_is r.budget few)
