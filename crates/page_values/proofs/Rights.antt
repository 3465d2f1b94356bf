-- A file that is added to those that were read.
use Rattle.std.proofs.Common.{◌≡◌, inl, inr, ℕ, ◌≤◌, [], ◌∷◌, ◌++◌, Bool, true, false, cond, Option, Some, None, Result, Ok, Err, refl, sym, ap, subst, ◌∙◌, arith}
use Rattle.std.specs.Prelude.{is_some, IfSome, OnOk}
use Rattle.std.specs.Str.{bytes_eq}
use Rattle.std.specs.declared.alloc.AllocError.{AllocError}
use Rattle.std.proofs.lemmas.Slice.Eq.{bytes_eq-Decides}
use Rattle.coz_types.specs.Labels.{Text}
use Rattle.coz_files.specs.Faults.{Rose}
use Rattle.coz_files.specs.Held.{Held, file_at}
use Rattle.page_values.specs.Sources.{AreRight, IsAnswer, source_in}

-- the file of a path, or else another
abbrev or_else : Option Text → Option Text → Option Text
or_else (Some bytes) other = Some bytes
or_else None other = other

at_end : (sources : Held) (path bytes asked : Text) → file_at (sources ++ (path, bytes) ∷ []) asked ≡ or_else (file_at sources asked) (cond (bytes_eq path asked) (Some bytes) None)
at_end [] path bytes asked = refl
at_end (s ∷ sources) path bytes asked =
    elim (bytes_eq s.0 asked)
    as (λ b. cond b (Some s.1) (file_at (sources ++ (path, bytes) ∷ []) asked) ≡ or_else (cond b (Some s.1) (file_at sources asked)) (cond (bytes_eq path asked) (Some bytes) None))
    [ true ↦ refl | false ↦ at_end sources path bytes asked ]

-- ---- what is there

still_there : (sources : Held) (path bytes asked : Text) → is_some (file_at sources asked) ≡ true → is_some (file_at (sources ++ (path, bytes) ∷ []) asked) ≡ true
still_there sources path bytes asked some = ap is_some (at_end sources path bytes asked) ∙ by (file_at sources asked) some
  where
    by : (f : Option Text) → is_some f ≡ true → is_some (or_else f (cond (bytes_eq path asked) (Some bytes) None)) ≡ true
    by (Some b) some = refl
    by None some = absurd cc

new_there : (sources : Held) (path bytes : Text) → is_some (file_at (sources ++ (path, bytes) ∷ []) path) ≡ true
new_there sources path bytes = ap is_some (at_end sources path bytes path) ∙ by (file_at sources path) (bytes_eq path path) ((bytes_eq-Decides path path).1 refl)
  where
    by : (f : Option Text) (same : Bool) → same ≡ true → is_some (or_else f (cond same (Some bytes) None)) ≡ true
    by (Some b) same is = refl
    by None true is = refl
    by None false is = absurd cc

-- the answer of adding a file
abbrev pub Added : Type 0
Added = Result (Unit {0}) AllocError

pub added_there : (added : Added) (old new : Held) (path bytes : Text) → OnOk added (new ≡ old ++ (path, bytes) ∷ []) → OnOk added (is_some (file_at new path) ≡ true)
added_there (Ok done) old new path bytes is = subst (λ (s : Held). is_some (file_at s path) ≡ true) (sym is) (new_there old path bytes)
added_there (Err fault) old new path bytes is = tt

pub kept_there : (added : Added) (old new : Held) (path bytes : Text) → OnOk added (new ≡ old ++ (path, bytes) ∷ [])
    → OnOk added ((other : Text) → is_some (file_at old other) ≡ true → is_some (file_at new other) ≡ true)
kept_there (Ok done) old new path bytes is = λ other some. subst (λ (s : Held). is_some (file_at s other) ≡ true) (sym is) (still_there old path bytes other some)
kept_there (Err fault) old new path bytes is = tt

-- ---- what is right

rose_later : (before now later : ℕ) → now ≤ later → Rose before now → Rose before later
rose_later before now later le rose = omega (arith, le, rose)

rose_before : (start before now : ℕ) → start ≤ before → Rose before now → Rose start now
rose_before start before now le rose = omega (arith, le, rose)

answer_later : (right bytes : Text) (before now later : ℕ) → now ≤ later → IsAnswer right before now bytes → IsAnswer right before later bytes
answer_later right bytes before now later le answer = elim answer [ inl is ↦ inl is | inr none ↦ inr (none.0, rose_later before now later le none.1) ]

answer_before : (right bytes : Text) (start before now : ℕ) → start ≤ before → IsAnswer right before now bytes → IsAnswer right start now bytes
answer_before right bytes start before now le answer = elim answer [ inl is ↦ inl is | inr none ↦ inr (none.0, rose_before start before now le none.1) ]

right_more : (held : Held) (folder : Text) (start before now : ℕ) (sources : Held) (path bytes : Text) → start ≤ before → before ≤ now
    → AreRight held folder start before sources → IsAnswer (source_in held folder path) before now bytes
    → AreRight held folder start now (sources ++ (path, bytes) ∷ [])
right_more held folder start before now sources path bytes le later right answer = λ asked found is.
    by asked found (file_at sources asked) refl (bytes_eq path asked) refl (sym (at_end sources path bytes asked) ∙ is)
  where
    by : (asked found : Text) (f : Option Text) → file_at sources asked ≡ f → (same : Bool) → bytes_eq path asked ≡ same
        → or_else f (cond same (Some bytes) None) ≡ Some found → IsAnswer (source_in held folder asked) start now found
    by asked found (Some b) old same e is = answer_later (source_in held folder asked) found start before now later (right asked found (old ∙ is))
    by asked found None old false e is = absurd cc
    by asked found None old true e is =
        let there : path ≡ asked = (bytes_eq-Decides path asked).0 e in
        let got : bytes ≡ found = cc in
        subst (λ (p : Text). IsAnswer (source_in held folder p) start now found) there
        (subst (λ (b : Text). IsAnswer (source_in held folder path) start now b) got (answer_before (source_in held folder path) bytes start before now le answer))

pub right_added : (told : Option Held) (folder : Text) (before now : ℕ) (added : Added) (old new : Held) (path bytes : Text) → before ≤ now → OnOk added (new ≡ old ++ (path, bytes) ∷ [])
    → IfSome told (λ held. IsAnswer (source_in held folder path) before now bytes)
    → IfSome told (λ held. OnOk added ((start : ℕ) → start ≤ before → AreRight held folder start before old → AreRight held folder start now new))
right_added None folder before now added old new path bytes later is answer = tt
right_added (Some held) folder before now (Err fault) old new path bytes later is answer = tt
right_added (Some held) folder before now (Ok done) old new path bytes later is answer = λ start le right.
    subst (AreRight held folder start now) (sym is) (right_more held folder start before now old path bytes le later right answer)
