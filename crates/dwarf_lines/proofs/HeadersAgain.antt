-- A spelled header is read.
use Rattle.std.proofs.Common.{◌≡◌, ℕ, zero, suc, ◌+◌, ◌<◌, Bool, true, false, ◌==◌, nat_le, List, [], ◌∷◌, ◌++◌, length, Result, Ok, refl, sym, ap, ◌∙◌, arith, append_assoc}
use Rattle.std.specs.List.{AllByRecursion}
use Rattle.std.proofs.lemmas.List.{length-append}
use Rattle.leb_cursor.specs.Ahead.{Ahead, Reading, ◌>>=◌, text_at}
use Rattle.leb_cursor.proofs.Exact.{ahead}
use Rattle.leb_cursor.proofs.Again.{byte_again, text_again}
use Rattle.dwarf_lines.specs.declared.LineFault.{LineFault}
use Rattle.dwarf_lines.specs.declared.LineKind.{LineKind}
use Rattle.dwarf_lines.specs.declared.LineKind.TheVariants as kinds
use Rattle.dwarf_lines.specs.Registers.{File, directory}
use Rattle.dwarf_lines.specs.Spelling.{IsUleb, SpellsAll, SpellsText, SpellsFile}
use Rattle.dwarf_lines.specs.Spelling as spelled
use Rattle.dwarf_lines.specs.Reading.{field, check, byte, byte_that, unsigned_field, operations, texts, file_named, files}
use Rattle.dwarf_lines.proofs.Again.{unsigned_back, bind_to}

pub bind_through : {A B : Type 0} (r : Result A LineFault) (f : A → Result B LineFault) (x : A) (y : Result B LineFault) → r ≡ Ok x → f x ≡ y → (r >>= f) ≡ y
bind_through r f x y e rest = ap (λ z. z >>= f) e ∙ rest

-- it reads as this, and the rest is ahead somewhere
abbrev pub ReadsTo : {A : Type 0} → Result (A × Ahead) LineFault → A → List ℕ → Type 0
ReadsTo r x rest = (q : ℕ) × (r ≡ Ok (x, ahead q rest))

pub byte_back : (n place : ℕ) (rest : List ℕ) → byte (ahead place (n ∷ rest)) ≡ Ok (n, ahead (place + 1) rest)
byte_back n place rest = ap field (byte_again n place rest)

pub wanted_back : {X : Type 0} (holds : Bool) (kind : LineKind) (place : ℕ) (x : X) → holds ≡ true → check holds kind place x ≡ Ok x
wanted_back true kind place x e = refl
wanted_back false kind place x e = absurd cc

pub that_back : (test : ℕ → Bool) (kind : LineKind) (n place : ℕ) (rest : List ℕ) → test n ≡ true → byte_that test kind (ahead place (n ∷ rest)) ≡ Ok (n, ahead (place + 1) rest)
that_back test kind n place rest e = bind_through (byte (ahead place (n ∷ rest))) _ (n, ahead (place + 1) rest) _ (byte_back n place rest) (wanted_back (test n) kind place (n, ahead (place + 1) rest) e)

operations_by : (four : Bool) (place : ℕ) (rest : List ℕ)
    → (q : ℕ) × ((elim four as (λ x. Result Ahead LineFault) [
      | true ↦ byte_that (λ n. n == 1) kinds.ManyOps (ahead place ((elim four as (λ x. List ℕ) [ true ↦ 1 ∷ [] | false ↦ [] ]) ++ rest)) >>= λ n. Ok n.1
      | false ↦ Ok (ahead place ((elim four as (λ x. List ℕ) [ true ↦ 1 ∷ [] | false ↦ [] ]) ++ rest))
    ]) ≡ Ok (ahead q rest))
operations_by true place rest = (place + 1, bind_through (byte_that (λ n. n == 1) kinds.ManyOps (ahead place (1 ∷ rest))) _ (1, ahead (place + 1) rest) _ (that_back (λ n. n == 1) kinds.ManyOps 1 place rest refl) refl)
operations_by false place rest = (place, refl)

pub operations_back : (version place : ℕ) (rest : List ℕ) → (q : ℕ) × (operations version (ahead place (spelled.operations version ++ rest)) ≡ Ok (ahead q rest))
operations_back version place rest = operations_by (nat_le 4 version) place rest

-- ---- lists of texts and of files

abbrev texts_next : ℕ → List ℕ × Ahead → Reading (List (List ℕ)) LineFault
texts_next n text = elim (text.0) [ [] ↦ Ok ([], text.1) | b ∷ bs ↦ texts n text.1 >>= λ more. Ok (text.0 ∷ more.0, more.1) ]

texts_read : (n place : ℕ) (t rest : List ℕ) → AllByRecursion (λ b. 0 < b) t → texts (suc n) (ahead place ((t ++ 0 ∷ []) ++ rest)) ≡ texts_next n (t, ahead (place + suc (length t)) rest)
unfolding texts
texts_read n place t rest all = bind_to (field (text_at (ahead place ((t ++ 0 ∷ []) ++ rest)))) (texts_next n) (t, ahead (place + suc (length t)) rest) (ap field (text_again place t rest all))

split : (x front others rest : List ℕ) → x ≡ front ++ others → (x ++ 0 ∷ []) ++ rest ≡ front ++ ((others ++ 0 ∷ []) ++ rest)
split x front others rest e = ap (λ (z : List ℕ). (z ++ 0 ∷ []) ++ rest) e ∙ ap (λ (z : List ℕ). z ++ rest) (append_assoc front others (0 ∷ [])) ∙ append_assoc front (others ++ 0 ∷ []) rest

pub texts_back : (n : ℕ) (ts : List (List ℕ)) (x rest : List ℕ) (place : ℕ) → SpellsAll SpellsText ts x → AllByRecursion (λ d. 0 < length d) ts → length x < n → ReadsTo (texts n (ahead place ((x ++ 0 ∷ []) ++ rest))) ts rest
texts_back zero ts x rest place is all lt = absurd (omega arith)
texts_back (suc n) [] x rest place is all lt = (place + 1, ap (λ (z : List ℕ). texts (suc n) (ahead place ((z ++ 0 ∷ []) ++ rest))) is ∙ texts_read n place [] rest tt)
texts_back (suc n) ([] ∷ ts) x rest place is all lt = let no : 0 < 0 = all.0 in absurd (omega arith)
texts_back (suc n) ((c ∷ cs) ∷ ts) x rest place is all lt =
    let t : List ℕ = c ∷ cs in
    let front = is.0 in
    let others = is.1 in
    let text = is.3 in
    let less : length others < n = omega (arith, ap (λ (z : List ℕ). length z) is.2, length-append front others, ap (λ (z : List ℕ). length z) text.1, length-append t (0 ∷ [])) in
    let more = texts_back n ts others rest (place + suc (length t)) is.4 all.1 less in (
      more.0,
      ap (λ (z : List ℕ). texts (suc n) (ahead place z)) (split x front others rest is.2 ∙ ap (λ (z : List ℕ). z ++ ((others ++ 0 ∷ []) ++ rest)) text.1)
          ∙ texts_read n place t ((others ++ 0 ∷ []) ++ rest) text.0
          ∙ bind_through (texts n (ahead (place + suc (length t)) ((others ++ 0 ∷ []) ++ rest))) _ (ts, ahead more.0 rest) _ more.1 refl,
    )

named_back : (directories : List (List ℕ)) (name number time size rest : List ℕ) (n t z place : ℕ) → IsUleb n number → IsUleb t time → IsUleb z size
    → ReadsTo (file_named directories name (ahead place (number ++ (time ++ (size ++ rest))))) (record { directory = directory directories n; name = name }) rest
named_back directories name number time size rest n t z place is-n is-t is-z = (
  place + length number + length time + length size,
  bind_through (unsigned_field (ahead place (number ++ (time ++ (size ++ rest))))) _ (n, ahead (place + length number) (time ++ (size ++ rest))) _ (unsigned_back n place number (time ++ (size ++ rest)) is-n)
      (bind_through (unsigned_field (ahead (place + length number) (time ++ (size ++ rest)))) _ (t, ahead (place + length number + length time) (size ++ rest)) _ (unsigned_back t (place + length number) time (size ++ rest) is-t)
      (bind_through (unsigned_field (ahead (place + length number + length time) (size ++ rest))) _ (z, ahead (place + length number + length time + length size) rest) _ (unsigned_back z (place + length number + length time) size rest is-z) refl)),
)

abbrev files_next : ℕ → List (List ℕ) → List ℕ × Ahead → Reading (List File) LineFault
files_next n directories name = elim (name.0) [ [] ↦ Ok ([], name.1) | b ∷ bs ↦ file_named directories name.0 name.1 >>= λ first. files n directories first.1 >>= λ more. Ok (first.0 ∷ more.0, more.1) ]

files_read : (n : ℕ) (directories : List (List ℕ)) (place : ℕ) (t rest : List ℕ) → AllByRecursion (λ b. 0 < b) t → files (suc n) directories (ahead place ((t ++ 0 ∷ []) ++ rest)) ≡ files_next n directories (t, ahead (place + suc (length t)) rest)
unfolding files
files_read n directories place t rest all = bind_to (field (text_at (ahead place ((t ++ 0 ∷ []) ++ rest)))) (files_next n directories) (t, ahead (place + suc (length t)) rest) (ap field (text_again place t rest all))

next_is : (n : ℕ) (directories : List (List ℕ)) (name : List ℕ) (a : Ahead) → 0 < length name → files_next n directories (name, a) ≡ (file_named directories name a >>= λ first. files n directories first.1 >>= λ more. let y : List File × Ahead = (first.0 ∷ more.0, more.1) in Ok y)
next_is n directories [] a some = absurd (omega arith)
next_is n directories (c ∷ cs) a some = refl

pub files_back : (n : ℕ) (directories : List (List ℕ)) (fs : List File) (x rest : List ℕ) (place : ℕ) → SpellsAll (SpellsFile directories) fs x → AllByRecursion (λ (f : File). 0 < length f.name) fs → length x < n → ReadsTo (files n directories (ahead place ((x ++ 0 ∷ []) ++ rest))) fs rest
files_back zero directories fs x rest place is all lt = absurd (omega arith)
files_back (suc n) directories [] x rest place is all lt = (place + 1, ap (λ (z : List ℕ). files (suc n) directories (ahead place ((z ++ 0 ∷ []) ++ rest))) is ∙ files_read n directories place [] rest tt)
files_back (suc n) directories (f ∷ fs) x rest place (front, others, parts, (name, number, time, size, k, t, z, whole, text, is-n, is-t, is-z, known), tail) all lt =
    let some : length others < n = omega (arith, ap (λ (v : List ℕ). length v) parts, length-append front others, ap (λ (v : List ℕ). length v) whole, length-append name (number ++ (time ++ size)), ap (λ (v : List ℕ). length v) text.1, length-append f.name (0 ∷ [])) in
    let after : List ℕ = (others ++ 0 ∷ []) ++ rest in
    let line : front ++ after ≡ (f.name ++ 0 ∷ []) ++ (number ++ (time ++ (size ++ after))) =
    ap (λ (v : List ℕ). v ++ after) (whole ∙ ap (λ (v : List ℕ). v ++ (number ++ (time ++ size))) text.1)
    ∙ append_assoc (f.name ++ 0 ∷ []) (number ++ (time ++ size)) after
    ∙ ap (λ (v : List ℕ). (f.name ++ 0 ∷ []) ++ v) (append_assoc number (time ++ size) after ∙ ap (λ (v : List ℕ). number ++ v) (append_assoc time size after)) in
    let made : File = record { directory = directory directories k; name = f.name } in
    let same : made ≡ f = ap (λ (d : List ℕ). record { directory = d; name = f.name }) (sym known) in
    let first = named_back directories f.name number time size after k t z (place + suc (length f.name)) is-n is-t is-z in
    let more = files_back n directories fs others rest first.0 tail all.1 some in (
      more.0,
      ap (λ (v : List ℕ). files (suc n) directories (ahead place v)) (split x front others rest parts ∙ line)
          ∙ files_read n directories place f.name (number ++ (time ++ (size ++ after))) text.0
          ∙ next_is n directories f.name (ahead (place + suc (length f.name)) (number ++ (time ++ (size ++ after)))) all.0
          ∙ bind_through (file_named directories f.name (ahead (place + suc (length f.name)) (number ++ (time ++ (size ++ after))))) _ (made, ahead first.0 after) _ first.1
          (bind_through (files n directories (ahead first.0 after)) _ (fs, ahead more.0 rest) _ more.1 (ap (λ (g : File). Ok (g ∷ fs, ahead more.0 rest)) same)),
    )
