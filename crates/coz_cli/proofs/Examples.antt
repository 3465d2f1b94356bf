-- The line of a path without a file, by the definition.
use Rattle.std.proofs.Common.{◌≡◌, ℕ, List, [], codes, Some, refl, ◌∙◌, ◌++◌, ap, arith, inr}
use Rattle.std.specs.Prelude.{get_or}
use Rattle.coz_files.specs.Verdict.{refusal}
use Rattle.coz_serve.specs.Serves.{IsLine, Program}

-- `coz run a`, where no path has a file
abbrev run_a : Program
run_a = record {
  name = codes "coz";
  HasNone = ⊥;
  Names = λ path. path ≡ codes "a";
  IsVerdict = λ held v. v ≡ refusal 5 (codes "read: a");
  last = 1;
  greatest = 12;
}

-- the line of status 5 if no fault was counted
abbrev IsFive : List ℕ → Type 0
IsFive = IsLine run_a 5 (Some []) 0 0

names_the_path : IsFive (codes "coz: read: a")
names_the_path = record {
  usage = λ status. absurd (omega (arith, status));
  write = λ status. absurd (omega (arith, status));
  memory = λ status. absurd (omega (arith, status));
  read = λ status. (codes "a", refl, refl);
  absent = λ status. inr (refusal 5 (codes "read: a"), refl, refl);
  verdict = λ of. (refusal 5 (codes "read: a"), refl, (refl, refl));
}

-- and no other path
not_of_another : IsFive (codes "coz: read: b") → ⊥
not_of_another line =
    let (path, named, same) = line.read refl in
    let last = same ∙ ap (λ path. codes "coz: read: " ++ path) named in
    omega (arith, ap (λ text. get_or text 11 0) last)
