-- The text of an index of a program's table is that of the table.
use Rattle.std.proofs.Common.{◌≡◌, ◌≤◌, ℕ, zero, suc, ◌+◌, List, [], ◌∷◌, ◌++◌, length, map, take, refl, sym, subst, ap, ap₂, ◌∙◌, codes, Some, append_assoc, add-one, arith}
use Rattle.std.proofs.lemmas.List.{append-nil}
use Rattle.std.specs.Prelude.{slice_get}
use Rattle.std.specs.List.{flat_map}
use Rattle.coz_types.specs.declared.image.Area.{Area}
use Rattle.dwarf_lines.specs.Registers.{Table}
use Rattle.line_index.specs.Lines.{Line, label}
use Rattle.line_index.specs.Index.{Index, IsIndex}
use Rattle.line_index.specs.Listed.{lines_in, entries_in}
use Rattle.line_index.proofs.Listed.{lines_are, entries_are}
use Rattle.profile_book.specs.Pieces.{number_line}
use Rattle.command_texts.specs.Text.{line_text, labelled_text, lines_text}
use Rattle.command_texts.specs.LinesText.{each_text, index_text, HasLine}

-- lines and the entries of each, side by side
sides : (of : Line → List ℕ) (lines : List Line) → each_text lines (map of lines) ≡ flat_map (λ (line : Line). line_text line (of line)) lines
sides of [] = refl
sides of (line ∷ lines) = ap (λ (text : List ℕ). line_text line (of line) ++ text) (sides of lines)

pub listed : (table : Table) (areas : List Area) (index : Index) → IsIndex table areas index → index_text table.skipped index ≡ lines_text table areas
unfolding lines_text
listed table areas index is =
    ap (λ (text : List ℕ). number_line (codes "skipped ") table.skipped ++ text)
    (ap₂ each_text (lines_are is) (entries_are is) ∙ sides (entries_in table areas) (lines_in table areas))

-- the lines up to a position, and the one there
each_step : (lines : List Line) (entries : List (List ℕ)) (k : ℕ) (l : Line) (es : List ℕ) → slice_get lines k ≡ Some l → slice_get entries k ≡ Some es
    → each_text (take k lines) (take k entries) ++ line_text l es ≡ each_text (take (suc k) lines) (take (suc k) entries)
each_step [] entries k l es is are = let no : ⊥ = cc in absurd no
each_step (line ∷ lines) [] k l es is are = let no : ⊥ = cc in absurd no
each_step (line ∷ lines) (e ∷ entries) zero l es is are =
    let same : l ≡ line = cc in
    let same_es : es ≡ e = cc in
    ap₂ line_text same same_es ∙ sym (append-nil (line_text line e))
each_step (line ∷ lines) (e ∷ entries) (suc k) l es is are =
    append_assoc (line_text line e) (each_text (take k lines) (take k entries)) (line_text l es)
    ∙ ap (λ (text : List ℕ). line_text line e ++ text) (each_step lines entries k l es is are)

pub each_more : (lines : List Line) (entries : List (List ℕ)) (k : ℕ) (l : Line) (es : List ℕ) → slice_get lines k ≡ Some l → slice_get entries k ≡ Some es
    → each_text (take k lines) (take k entries) ++ line_text l es ≡ each_text (take (k + 1) lines) (take (k + 1) entries)
each_more lines entries k l es is are =
    each_step lines entries k l es is are ∙ ap (λ (n : ℕ). each_text (take n lines) (take n entries)) (sym (add-one k))

-- the lines up to a position after the last are all
pub each_whole : (lines : List Line) (entries : List (List ℕ)) (k : ℕ) → length lines ≤ k → each_text (take k lines) (take k entries) ≡ each_text lines entries
each_whole [] entries zero le = refl
each_whole [] entries (suc k) le = refl
each_whole (line ∷ lines) entries zero le = let no : ⊥ = omega arith in absurd no
each_whole (line ∷ lines) [] (suc k) le = refl
each_whole (line ∷ lines) (e ∷ entries) (suc k) le = ap (λ (text : List ℕ). line_text line e ++ text) (each_whole lines entries k (omega arith))

-- the line of a label
record IsLabelled (lines : List Line) (k : ℕ) (text : List ℕ) : Type 0 where
  line : Line
  is : slice_get lines k ≡ Some line
  same : label line ≡ text

labelled : (lines : List Line) (k : ℕ) (text : List ℕ) → slice_get (map label lines) k ≡ Some text → IsLabelled lines k text
labelled [] k text is = let no : ⊥ = cc in absurd no
labelled (line ∷ lines) zero text is = record { line = line; is = refl; same = cc }
labelled (line ∷ lines) (suc k) text is = let rest = labelled lines k text is in record { line = rest.line; is = rest.is; same = rest.same }

pub has_line : {IsPut : List ℕ → Type 0} (index : Index) (k : ℕ) (text addresses : List ℕ) → slice_get (map label index.lines) k ≡ Some text → slice_get index.entries k ≡ Some addresses
    → IsPut (labelled_text text addresses) → HasLine index k IsPut
has_line {IsPut = IsPut} index k text addresses named are put =
    let l = labelled index.lines k text named in
    record {
      line = l.line;
      addresses = addresses;
      is_line = l.is;
      are_entries = are;
      put = subst (λ (t : List ℕ). IsPut (labelled_text t addresses)) (sym l.same) put;
    }
