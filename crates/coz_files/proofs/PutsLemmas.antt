-- Puts that follow each other.
use Rattle.std.proofs.Common.{◌≡◌, ℕ, ◌+◌, List, [], ◌++◌, length, take, Option, Some, None, append_assoc, length-append, ap, sym, subst, ◌∙◌, refl, arith}
use Rattle.std.proofs.Math.Seq.{take-append-add}
use Rattle.std.proofs.lemmas.List.{append-nil, take-append-le}
use Rattle.std.specs.Io.KnownBytes.{Appends}
use Rattle.coz_files.specs.Puts.{AppendsPrefix, Puts, Continues}
use Rattle.coz_files.specs.declared.outside.PutAnswer.{PutAnswer}
use Rattle.coz_files.specs.declared.outside.PutAnswer.TheVariants.{Done, Failed}

pub appends_nothing : (known : Option (List ℕ)) → Appends known known []
appends_nothing None = tt
appends_nothing (Some xs) = sym (append-nil xs)

-- bytes after bytes
pub appends_then : (old mid new : Option (List ℕ)) (xs ys : List ℕ) → Appends old mid xs → Appends mid new ys → Appends old new (xs ++ ys)
appends_then None mid new xs ys first second = tt
appends_then (Some a) None new xs ys first second = absurd first
appends_then (Some a) (Some b) None xs ys first second = absurd second
appends_then (Some a) (Some b) (Some c) xs ys first second = second ∙ ap (λ (text : List ℕ). text ++ ys) first ∙ append_assoc a xs ys

-- a prefix after bytes
pub prefix_then : (old mid new : Option (List ℕ)) (xs ys : List ℕ) → Appends old mid xs → AppendsPrefix mid new ys → AppendsPrefix old new (xs ++ ys)
prefix_then old mid new xs ys first second = (
  length xs + second.0,
  omega (arith, length-append xs ys, second.1),
  subst (Appends old new) (sym (take-append-add xs ys second.0)) (appends_then old mid new xs (take second.0 ys) first second.2),
)

-- a prefix of the first of two pieces
pub prefix_stop : (old new : Option (List ℕ)) (xs ys : List ℕ) → AppendsPrefix old new xs → AppendsPrefix old new (xs ++ ys)
prefix_stop old new xs ys first = (
  first.0,
  omega (arith, length-append xs ys, first.1),
  subst (Appends old new) (sym (take-append-le first.0 xs ys first.1)) first.2,
)

-- a put that follows one that was done
pub puts_then : {S : Type 0} {holds : S → Option (List ℕ)} {faults : S → ℕ} {old mid new : S} {answer : PutAnswer} {xs ys : List ℕ} → Puts holds faults old mid Done xs → Puts holds faults mid new answer ys → Puts holds faults old new answer (xs ++ ys)
puts_then {holds = holds} {faults = faults} {old = old} {mid = mid} {new = new} {xs = xs} {ys = ys} first second = record {
  done = λ is. appends_then (holds old) (holds mid) (holds new) xs ys (first.done (refl)) (second.done is);
  prefix = λ is. prefix_then (holds old) (holds mid) (holds new) xs ys (first.done (refl)) (second.prefix is);
  failed = λ is. let same : faults mid ≡ faults old = first.no_fault (refl) in omega (arith, second.failed is);
  no_fault = λ is. second.no_fault is ∙ first.no_fault (refl);
  later = let same : faults mid ≡ faults old = first.no_fault (refl) in omega (arith, second.later);
}

-- if a put failed, nothing follows it
pub puts_stop : {S : Type 0} {holds : S → Option (List ℕ)} {faults : S → ℕ} {old new : S} {xs : List ℕ} (ys : List ℕ) → Puts holds faults old new Failed xs → Puts holds faults old new Failed (xs ++ ys)
puts_stop {holds = holds} {old = old} {new = new} {xs = xs} ys first = record {
  done = λ is. let no : ⊥ = cc in absurd no;
  prefix = λ is. prefix_stop (holds old) (holds new) xs ys (first.prefix is);
  failed = first.failed;
  no_fault = λ is. let no : ⊥ = cc in absurd no;
  later = first.later;
}

-- nothing is put
pub puts_nothing : {S : Type 0} {holds : S → Option (List ℕ)} {faults : S → ℕ} (sink : S) → Puts holds faults sink sink Done []
puts_nothing {holds = holds} {faults = faults} sink = record {
  done = λ _. appends_nothing (holds sink);
  prefix = λ is. let no : ⊥ = cc in absurd no;
  failed = λ is. let no : ⊥ = cc in absurd no;
  no_fault = λ _. refl;
  later = omega arith;
}

pub continues_then : {S : Type 0} {holds : S → Option (List ℕ)} {faults : S → ℕ} {old mid new : S} {so_far between answer : PutAnswer} {xs ys : List ℕ} → Continues holds faults old mid so_far between xs → Continues holds faults mid new between answer ys → Continues holds faults old new so_far answer (xs ++ ys)
continues_then {holds = holds} {faults = faults} {new = new} {answer = answer} {xs = xs} {ys = ys} first second = record {
  puts = λ start text before.
      subst (Puts holds faults start new answer) (append_assoc text xs ys) (second.puts start (text ++ xs) (first.puts start text before));
}

-- continued from nothing
pub continues_whole : {S : Type 0} {holds : S → Option (List ℕ)} {faults : S → ℕ} {old new : S} {answer : PutAnswer} {bytes : List ℕ} → Continues holds faults old new Done answer bytes → Puts holds faults old new answer bytes
continues_whole {old = old} all = all.puts old [] (puts_nothing old)
