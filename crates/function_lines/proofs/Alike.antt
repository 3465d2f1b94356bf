-- What comes of two indexes with the same lines, entries and positions is the same.
use Rattle.std.proofs.Common.{◌≡◌, ℕ, ◌+◌, List, [], ◌∷◌, Option, Result, Ok, Err, sym, ap, ap₂, subst, ◌∙◌, get_or}
use Rattle.std.specs.Prelude.{map, slice_get, option_and_then}
use Rattle.std.specs.List.{AllZip}
use Rattle.coz_types.specs.Image.{ImageParts}
use Rattle.dwarf_lines.specs.Registers.{Table}
use Rattle.line_index.specs.Index.{Index, IsIndex, has_line, position_at}
use Rattle.line_index.specs.Keys.{is_at}
use Rattle.line_index.specs.Lines.{Line, label}
use Rattle.line_index.proofs.Listed.{lines_are, entries_are, positions_are}
use Rattle.line_write.specs.Unit.{Sequence}
use Rattle.line_remap.specs.Marks.{Mark, spelled}
use Rattle.line_remap.specs.Runs.{AreKept, IsRun}
use Rattle.line_regions.specs.Regions.{Region, chosen_marks}
use Rattle.elf_symbols.specs.declared.symbols.Symbol.{Symbol}
use Rattle.elf_symbols.specs.Symbols.{name_of}
use Rattle.function_sequences.specs.Labels.{labelled}
use Rattle.function_sequences.specs.Sequences.{AreSequences, IsOfFunction, falling, functions_in, names_in, function_line}
use Rattle.function_lines.specs.ByFunction.{IsAnswer, IsCauseOf}
use Rattle.function_lines.specs.declared.file.FunctionsError.{FunctionsError}
use Rattle.function_lines.specs.declared.file.FunctionsError.TheVariants.{NoFunctions, NoLines, Much, Overlap, Memory}

zip_weaker : {A B : Type 0} (R S : A → B → Type 0) → ((x : A) (y : B) → R x y → S x y) → (xs : List A) (ys : List B) → AllZip R xs ys → AllZip S xs ys
zip_weaker R S weaker [] [] all = tt
zip_weaker R S weaker [] (y ∷ ys) all = absurd all
zip_weaker R S weaker (x ∷ xs) [] all = absurd all
zip_weaker R S weaker (x ∷ xs) (y ∷ ys) all = (weaker x y all.0, zip_weaker R S weaker xs ys all.1)

-- indexes with the same lines and entries, which give each address the same position
pub record AreSame (index other : Index) : Type 0 where
  pub lines : index.lines ≡ other.lines
  pub entries : index.entries ≡ other.entries
  pub positions : (a : ℕ) → position_at index a ≡ position_at other a

pub same_indexes : (table : Table) (image : ImageParts) (index other : Index) → IsIndex table image.areas index → IsIndex table image.areas other → AreSame index other
same_indexes table image index other is also = record {
  lines = lines_are is ∙ sym (lines_are also);
  entries = entries_are is ∙ sym (entries_are also);
  positions = λ a. positions_are is a ∙ sym (positions_are also a);
}

module _ (image : ImageParts) (index other : Index) (same : AreSame index other) where
  has_same : (k a : ℕ) → has_line index k a ≡ has_line other k a
  has_same k a = ap (is_at k) (same.positions a)

  run_along : (m : Mark) (entry : ℕ) (s : Sequence) → IsRun index m entry s → IsRun other m entry s
  run_along m entry s run = record {
    line = run.line;
    address = run.address;
    inside = λ a low high. sym (has_same m.position a) ∙ run.inside a low high;
    end = sym (has_same m.position (s.address + s.size)) ∙ run.end;
  }

  kept_along : (marks : List Mark) (all : List Sequence) → AreKept index marks all → AreKept other marks all
  kept_along [] all none = none
  kept_along (m ∷ more) all (front, back, whole, runs, rest) = (
    front,
    back,
    whole,
    subst (λ (es : List (List ℕ)). AllZip (IsRun other m) (get_or es m.position []) front) same.entries
        (zip_weaker (IsRun index m) (IsRun other m) (run_along m) (get_or index.entries m.position []) front runs),
    kept_along more back rest,
  )

  same_line : (names : List ℕ) (symbol : Symbol) → function_line index names symbol ≡ function_line other names symbol
  same_line names symbol =
      ap (labelled (name_of names symbol))
      (ap₂ (λ (lines : List Line) (position : Option ℕ). option_and_then (λ (k : ℕ). option_and_then spelled (slice_get (map label lines) k)) position) same.lines (same.positions symbol.address))

  function_along : (names : List ℕ) (symbol : Symbol) (s : Sequence) → IsOfFunction index names symbol s → IsOfFunction other names symbol s
  function_along names symbol s is = record { line = is.line ∙ same_line names symbol; address = is.address; size = is.size }

  sequences_along : (marks : List Mark) (all : List Sequence) → AreSequences image index marks all → AreSequences image other marks all
  sequences_along marks all (kept, own, whole, are, rest) =
      let names = names_in image.file in (
        kept,
        own,
        whole,
        kept_along marks kept are,
        zip_weaker (IsOfFunction index names) (IsOfFunction other names) (function_along names) (falling (functions_in image)) own rest,
      )

  cause_along : (marks : List Mark) (error : FunctionsError) → IsCauseOf image index marks error → IsCauseOf image other marks error
  cause_along marks NoFunctions is = is
  cause_along marks NoLines is = is
  cause_along marks Much is = record { some = is.some; sequences = is.sequences; are = sequences_along marks is.sequences is.are; long = is.long }
  cause_along marks Overlap is = record { some = is.some; sequences = is.sequences; are = sequences_along marks is.sequences is.are; short = is.short; other = is.other }
  cause_along marks Memory is = tt

  pub answer_along : (marks : List Mark) (answer : Result (List ℕ) FunctionsError) → IsAnswer image index marks answer → IsAnswer image other marks answer
  answer_along marks (Ok file) is = record {
    some = is.some;
    sequences = is.sequences;
    are = sequences_along marks is.sequences is.are;
    file = is.file;
    right = is.right;
    short = is.short;
  }
  answer_along marks (Err error) is = cause_along marks error is

  pub same_marks : (kept : List ℕ) (regions : List Region) → chosen_marks index kept regions ≡ chosen_marks other kept regions
  same_marks kept regions = ap (λ (lines : List Line). chosen_marks (record index { lines = lines }) kept regions) same.lines
