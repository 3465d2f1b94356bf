-- A program, an index and marks have one list of sequences at most.
use Rattle.std.proofs.Common.{◌≡◌, ℕ, ◌+◌, ◌/◌, ◌%◌, ◌<◌, ◌≤◌, Bool, true, false, List, [], ◌∷◌, ◌++◌, get_or, refl, sym, ap, ap₂, ◌∙◌, ⊎_elim, arith, lt-ltb, le-ltb, if◌then◌else◌}
use Rattle.std.specs.List.{AllZip}
use Rattle.std.proofs.lemmas.Bool.{cases_lt}
use Rattle.coz_types.specs.Labels.{hex_digit, is_escaped, written}
use Rattle.line_index.specs.Index.{Index}
use Rattle.line_index.specs.Lines.{Line}
use Rattle.line_write.specs.Unit.{Sequence}
use Rattle.line_write.specs.Lines.{line_of_sequence}
use Rattle.line_remap.specs.Marks.{Mark}
use Rattle.line_remap.specs.Runs.{AreKept, IsRun}
use Rattle.elf_symbols.specs.declared.symbols.Symbol.{Symbol}
use Rattle.function_sequences.specs.Sequences.{IsOfFunction, SequencesAreOne, falling, functions_in, names_in}

-- ---- written paths

low_digit : (n : ℕ) → n < 10 → hex_digit n ≡ 48 + n
low_digit n lt = ap (λ (t : Bool). if t then 48 + n else 55 + n) (lt-ltb n 10 lt)

high_digit : (n : ℕ) → 10 ≤ n → hex_digit n ≡ 55 + n
high_digit n le = ap (λ (t : Bool). if t then 48 + n else 55 + n) (le-ltb n 10 le)

digit_one : (m n : ℕ) → hex_digit m ≡ hex_digit n → m ≡ n
digit_one m n e = ⊎_elim
    (λ (low : m < 10). ⊎_elim
    (λ (also : n < 10). (let same : 48 + m ≡ 48 + n = sym (low_digit m low) ∙ e ∙ low_digit n also in omega arith))
    (λ (high : 10 ≤ n). (let same : 48 + m ≡ 55 + n = sym (low_digit m low) ∙ e ∙ high_digit n high in omega arith))
    (cases_lt n 10))
    (λ (high : 10 ≤ m). ⊎_elim
    (λ (low : n < 10). (let same : 55 + m ≡ 48 + n = sym (high_digit m high) ∙ e ∙ low_digit n low in omega arith))
    (λ (also : 10 ≤ n). (let same : 55 + m ≡ 55 + n = sym (high_digit m high) ∙ e ∙ high_digit n also in omega arith))
    (cases_lt n 10))
    (cases_lt m 10)

module _ (b c : ℕ) (bs cs : List ℕ) where
  abbrev form : Bool → ℕ → List ℕ
  form t n = if t then 37 ∷ hex_digit (n / 16) ∷ hex_digit (n % 16) ∷ [] else n ∷ []

  not_mark : (n : ℕ) → 37 ≡ n → is_escaped n ≡ false → ⊥
  not_mark n e plain = let never : true ≡ false = ap is_escaped e ∙ plain in cc

  byte_one : (s t : Bool) → is_escaped b ≡ s → is_escaped c ≡ t → form s b ++ bs ≡ form t c ++ cs → (b ≡ c) × (bs ≡ cs)
  byte_one true true _ _ e =
      let high : hex_digit (b / 16) ≡ hex_digit (c / 16) = cc in
      let low : hex_digit (b % 16) ≡ hex_digit (c % 16) = cc in
      let rest : bs ≡ cs = cc in
      let upper = digit_one (b / 16) (c / 16) high in
      let lower = digit_one (b % 16) (c % 16) low in
      (omega (arith, upper, lower), rest)
  byte_one true false _ plain e = absurd (not_mark c (let first : 37 ≡ c = cc in first) plain)
  byte_one false true plain _ e = absurd (not_mark b (let first : 37 ≡ b = cc in first) plain)
  byte_one false false _ _ e =
      let first : b ≡ c = cc in
      let rest : bs ≡ cs = cc in
      (first, rest)

never_empty : (b : ℕ) (bs : List ℕ) (t : Bool) → [] ≡ form b b bs bs t b ++ bs → ⊥
never_empty b bs true e = cc
never_empty b bs false e = cc

pub path_one : (xs ys : List ℕ) → written xs ≡ written ys → xs ≡ ys
path_one [] [] e = refl
path_one [] (c ∷ ys) e = absurd (never_empty c (written ys) (is_escaped c) e)
path_one (b ∷ xs) [] e = absurd (never_empty b (written xs) (is_escaped b) (sym e))
path_one (b ∷ xs) (c ∷ ys) e =
    let parts = byte_one b c (written xs) (written ys) (is_escaped b) (is_escaped c) refl refl e in
    ap₂ (λ (n : ℕ) (ns : List ℕ). n ∷ ns) parts.0 (path_one xs ys parts.1)

-- ---- sequences

sequence_one : (s t : Sequence) → line_of_sequence s ≡ line_of_sequence t → s.address ≡ t.address → s.size ≡ t.size → s ≡ t
sequence_one s t line address size =
    let path : s.path ≡ t.path = path_one s.path t.path (ap (λ (l : Line). l.path) line) in
    let number : s.number ≡ t.number = ap (λ (l : Line). l.number) line in
    λ i. record { path = path i; number = number i; address = address i; size = size i }

module _ (index : Index) (m : Mark) (entry : ℕ) where
  ends_within : (s t : Sequence) → IsRun index m entry s → IsRun index m entry t → s.size ≤ t.size
  ends_within s t run other =
      let start = run.address in
      let also = other.address in
      ⊎_elim
      (λ (lt : t.size < s.size).
      (let has = run.inside (t.address + t.size) (omega arith) (omega arith) in
      let no : true ≡ false = sym has ∙ other.end in
      absurd (let never : ⊥ = cc in never)))
      (λ (le : s.size ≤ t.size). le)
      (cases_lt t.size s.size)

  run_one : (s t : Sequence) → IsRun index m entry s → IsRun index m entry t → s ≡ t
  run_one s t run other =
      let fits = ends_within s t run other in
      let back = ends_within t s other run in
      sequence_one s t (run.line ∙ sym other.line) (run.address ∙ sym other.address) (omega arith)

function_one : (index : Index) (names : List ℕ) (symbol : Symbol) (s t : Sequence) → IsOfFunction index names symbol s → IsOfFunction index names symbol t → s ≡ t
function_one index names symbol s t is also =
    sequence_one s t (is.line ∙ sym also.line) (is.address ∙ sym also.address) (is.size ∙ sym also.size)

-- ---- lists

zip_one : {A B : Type 0} (R : A → B → Type 0) → ((x : A) (y z : B) → R x y → R x z → y ≡ z) → (xs : List A) (ys zs : List B) → AllZip R xs ys → AllZip R xs zs → ys ≡ zs
zip_one R one [] [] [] all also = refl
zip_one R one [] [] (z ∷ zs) all also = absurd also
zip_one R one [] (y ∷ ys) zs all also = absurd all
zip_one R one (x ∷ xs) [] zs all also = absurd all
zip_one R one (x ∷ xs) (y ∷ ys) [] all also = absurd also
zip_one {B = B} R one (x ∷ xs) (y ∷ ys) (z ∷ zs) all also =
    ap₂ (λ (w : B) (ws : List B). w ∷ ws) (one x y z all.0 also.0) (zip_one R one xs ys zs all.1 also.1)

kept_one : (index : Index) (marks : List Mark) (all others : List Sequence) → AreKept index marks all → AreKept index marks others → all ≡ others
kept_one index [] all others none also = none ∙ sym also
kept_one index (m ∷ more) all others (front, back, whole, runs, rest) (fore, behind, both, also, last) =
    whole
    ∙ ap₂ (λ (xs ys : List Sequence). xs ++ ys) (zip_one (IsRun index m) (run_one index m) (get_or index.entries m.position []) front fore runs also) (kept_one index more back behind rest last)
    ∙ sym both

pub sequences_one : SequencesAreOne
sequences_one image index marks all others (kept, own, whole, are, rest) (marked, named, both, also, last) =
    whole
    ∙ ap₂ (λ (xs ys : List Sequence). xs ++ ys) (kept_one index marks kept marked are also)
    (zip_one (IsOfFunction index (names_in image.file)) (function_one index (names_in image.file)) (falling (functions_in image)) own named rest last)
    ∙ sym both
