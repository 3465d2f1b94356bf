-- How pieces that go through a buffer follow each other.
use Rattle.std.specs.Prelude.{ℕ, List, [], ◌++◌, Option, Some, None}
use Rattle.std.proofs.Common.{append_assoc, ap, sym, subst, ◌∙◌, refl}
use Rattle.std.proofs.lemmas.List.{append-nil}
use Rattle.coz_files.specs.Puts.{Puts}
use Rattle.coz_files.specs.Gathered.{Rest, rest_at, Gathered, Gathers, Ends}
use Rattle.coz_files.proofs.PutsLemmas.{puts_then, puts_stop, puts_nothing}
use Rattle.coz_files.specs.declared.outside.PutAnswer.{PutAnswer}
use Rattle.coz_files.specs.declared.outside.PutAnswer.TheVariants.{Done, Failed}

pub gathers_nothing : {S : Type 0} {holds : S → Option (List ℕ)} {faults : S → ℕ} (sink : S) (rest : Rest) → Gathers holds faults sink sink rest rest []
gathers_nothing {holds = holds} {faults = faults} sink rest = record {
  goes_on = λ start text before. subst (Gathered holds faults start sink rest) (sym (append-nil text)) before;
}

pub gathers_then : {S : Type 0} {holds : S → Option (List ℕ)} {faults : S → ℕ} {old mid new : S} {rest between left : Rest} {xs ys : List ℕ} → Gathers holds faults old mid rest between xs → Gathers holds faults mid new between left ys → Gathers holds faults old new rest left (xs ++ ys)
gathers_then {holds = holds} {faults = faults} {new = new} {left = left} {xs = xs} {ys = ys} first second = record {
  goes_on = λ start text before.
      subst (Gathered holds faults start new left) (append_assoc text xs ys) (second.goes_on start (text ++ xs) (first.goes_on start text before));
}

-- nothing follows a put that failed
pub gathers_stop : {S : Type 0} {holds : S → Option (List ℕ)} {faults : S → ℕ} (sink : S) (bytes : List ℕ) → Gathers holds faults sink sink None None bytes
gathers_stop sink bytes = record { goes_on = λ start text before. puts_stop bytes before }

-- bytes that are kept
pub gathers_kept : {S : Type 0} {holds : S → Option (List ℕ)} {faults : S → ℕ} (sink : S) (rest bytes : List ℕ) → Gathers holds faults sink sink (Some rest) (Some (rest ++ bytes)) bytes
gathers_kept sink rest bytes = record {
  goes_on = λ start text before. record {
    before = before.before;
    whole = sym (append_assoc before.before rest bytes) ∙ ap (λ (t : List ℕ). t ++ bytes) before.whole;
    puts = before.puts;
  };
}

-- what was gathered is put
pub gathers_put : {S : Type 0} {holds : S → Option (List ℕ)} {faults : S → ℕ} {old new : S} {rest : List ℕ} (answer : PutAnswer) → Puts holds faults old new answer rest → Gathers holds faults old new (Some rest) (rest_at answer []) []
gathers_put {rest = rest} Done put = record {
  goes_on = λ start text before. record {
    before = before.before ++ rest;
    whole = ap (λ (t : List ℕ). t ++ []) before.whole;
    puts = puts_then before.puts put;
  };
}
gathers_put {holds = holds} {faults = faults} {new = new} {rest = rest} Failed put = record {
  goes_on = λ start text before.
      subst (Puts holds faults start new Failed) (ap (λ (t : List ℕ). t ++ []) before.whole) (puts_stop [] (puts_then before.puts put));
}

-- bytes that are put past an empty buffer
pub gathers_past : {S : Type 0} {holds : S → Option (List ℕ)} {faults : S → ℕ} {old new : S} {bytes : List ℕ} (answer : PutAnswer) → Puts holds faults old new answer bytes → Gathers holds faults old new (Some []) (rest_at answer []) bytes
gathers_past {holds = holds} {faults = faults} {old = old} {new = new} {bytes = bytes} answer put =
    subst (Gathers holds faults old new (Some []) (rest_at answer [])) (append-nil bytes) (gathers_then (gathers_kept old [] bytes) (gathers_put answer put))

pub ends_put : {S : Type 0} {holds : S → Option (List ℕ)} {faults : S → ℕ} {old new : S} {rest : List ℕ} {answer : PutAnswer} → Puts holds faults old new answer rest → Ends holds faults old new (Some rest) answer
ends_put {holds = holds} {faults = faults} {new = new} {answer = answer} put = record {
  ends = λ start text before. subst (Puts holds faults start new answer) before.whole (puts_then before.puts put);
}

-- all that went through a buffer is put
pub puts_whole : {S : Type 0} {holds : S → Option (List ℕ)} {faults : S → ℕ} {old mid new : S} {rest : Rest} {answer : PutAnswer} {bytes : List ℕ} → Gathers holds faults old mid (Some []) rest bytes → Ends holds faults mid new rest answer → Puts holds faults old new answer bytes
puts_whole {old = old} {bytes = bytes} all last = last.ends old bytes (all.goes_on old [] (record { before = []; whole = refl; puts = puts_nothing old }))
