-- Each line of a program's words is the line of an address of its written file, and so it is found.
use Rattle.std.proofs.Common.{◌≡◌, ℕ, zero, suc, ◌+◌, ◌*◌, ◌<◌, ◌≤◌, Bool, true, false, List, [], ◌∷◌, length, get_or, Some, None, refl, sym, ap, ◌∙◌, arith, nat_lt, ◌==◌, lt-ltb, ltb-true, ltb-false, eq-eqb, cond, Contains, bytes_eq, position}
use Rattle.std.specs.List.{position_or_len}
use Rattle.std.proofs.lemmas.List.Sums.{fails_before_first}
use Rattle.std.proofs.lemmas.List.Elements.{All-contains}
use Rattle.std.proofs.lemmas.Bool.{and_from}
use Rattle.std.proofs.lemmas.Slice.Eq.{bytes_eq-Decides}
use Rattle.coz_types.specs.Labels.{written}
use Rattle.line_index.specs.Lines.{Line, line_of, position_named, is_line_named, is_line_below}
use Rattle.line_index.specs.Changes.{or_else}
use Rattle.line_index.specs.Index.{Index, IsIndex}
use Rattle.rv_asm.specs.Assembled.{Program, IsProgram}
use Rattle.image_write.specs.Image.{image_of}
use Rattle.image_write.specs.Lines.{table_of}
use Rattle.image_write.proofs.WordLines.{word_has_line, text_runs}

-- ---- the line of an address

abbrev line_in : List ℕ → ℕ → Line
line_in name number = record { path = name; number = number }

same_at : (xs : List ℕ) (k d e : ℕ) → k < length xs → get_or xs k d ≡ get_or xs k e
same_at [] k d e few = absurd (omega arith)
same_at (x ∷ xs) zero d e few = refl
same_at (x ∷ xs) (suc k) d e few = same_at xs k d e (omega arith)

-- an address has the line
line_there : (p : Program) (name file : List ℕ) (number : ℕ) → IsProgram p → 0 < length name → written name ≡ name → Contains p.lines number
    → (a : ℕ) × (line_of (table_of p.lines name 4) (image_of p file).areas a ≡ Some (line_in name number))
line_there p name file number is named same (k, few, e) =
    let at : get_or p.lines k 0 ≡ number = same_at p.lines k 0 number few ∙ e in
    let some : (1 ≤ number) × (number ≤ 65536) = All-contains (λ line. (1 ≤ line) × (line ≤ 65536)) p.lines number is.lines_fit (k, few, e) in (
      0x10000 + 4 * k,
      word_has_line 4 p.lines name (image_of p file).areas k named few (omega (arith, some.0, at)) (text_runs p file k (omega (arith, is.whole)))
          ∙ ap (λ path. Some (line_in path (get_or p.lines k 0))) same
          ∙ ap (λ n. Some (line_in name n)) at,
    )

-- ---- in an index

position_there : (test : Line → Bool) (xs : List Line) (k : ℕ) (d : Line) → k < length xs → test (get_or xs k d) ≡ true → position test xs ≡ Some (position_or_len test xs)
position_there test xs k d few is =
    ap (λ t. cond t (Some (position_or_len test xs)) None) (lt-ltb (position_or_len test xs) (length xs) (below (nat_lt k (position_or_len test xs)) refl))
  where
    below : (t : Bool) → nat_lt k (position_or_len test xs) ≡ t → position_or_len test xs < length xs
    below true e =
        let fails : test (get_or xs k d) ≡ false = fails_before_first test xs k d (ltb-true k (position_or_len test xs) e) in
        let both : true ≡ false = sym is ∙ fails in
        absurd cc
    below false e = let past : position_or_len test xs ≤ k = ltb-false k (position_or_len test xs) e in omega arith

its_line : (name : List ℕ) (number : ℕ) → is_line_named name number (line_in name number) ≡ true
its_line name number = and_from (number == number) (bytes_eq name name) (eq-eqb number number refl) ((bytes_eq-Decides name name).1 refl)

-- the line of a word is found in the index of the written file
pub word_found : (p : Program) (name file : List ℕ) (number : ℕ) (index : Index) → IsProgram p → 0 < length name → written name ≡ name → Contains p.lines number → IsIndex (table_of p.lines name 4) (image_of p file).areas index
    → (k : ℕ) × (position_named name number index.lines ≡ Some k)
word_found p name file number index is named same has indexed =
    let line = line_in name number in
    let (k, few, e) = (indexed.used line).1 (line_there p name file number is named same has) in
    let there = position_there (is_line_named name number) index.lines k line few (ap (is_line_named name number) e ∙ its_line name number) in
    (position_or_len (is_line_named name number) index.lines, ap (λ o. or_else o (position (is_line_below name number) index.lines)) there)
