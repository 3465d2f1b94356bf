-- The file with a unit in which each function is one line.
use Rattle.std.proofs.Common.{◌≡◌, ℕ, ◌+◌, ◌<◌, ◌≤◌, true, List, [], ◌++◌, length, take, drop, Option, Some, None, option_map, Result, Ok, Err, Bool, false, ◌==◌, refl, sym, ap, subst, ◌∙◌, arith, if◌then◌else◌, length-append, length-drop}
use Rattle.std.specs.Global.{Vec}
use Rattle.std.specs.Prelude.{All, IfErr, IfOk, IfSome, codes, is_some, unwrap_or}
use Rattle.std.specs.List.{AllByRecursion}
use Rattle.std.proofs.lemmas.Bool.{and_from}
use Rattle.std.proofs.lemmas.List.{length-take-le}
use Rattle.std.proofs.lemmas.Slice.Eq.{bytes_eq-Decides}
use Rattle.std.proofs.lemmas.List.Elements.{All-map, All-weaker, recursion_from_All}
use Rattle.coz_types.specs.declared.TheConstants.{MAX_PROGRAM}
use Rattle.coz_types.specs.Image.{ImageParts, IsImage}
use Rattle.dwarf_lines.specs.Names.{Strings, strings}
use Rattle.dwarf_lines.specs.Reading.{reading}
use Rattle.dwarf_lines.specs.Registers.{Table}
use Rattle.elf_load.specs.Loaded.{load_answer, section, section_place}
use Rattle.line_index.specs.Index.{Index}
use Rattle.line_index.specs.Lines.{is_executable, line_of}
use Rattle.line_write.specs.Lines.{GivesLines, table}
use Rattle.line_write.specs.Unit.{Sequence, unit}
use Rattle.function_lines.specs.ByFunction.{HasFunctions, IsByFunction, IsCauseOf, IsFileCause, IsLineless, IsLongWith, IsOtherWith, IsUnit, IsWithFunctions, ReadsAs, ReadsWithoutFault}
use Rattle.function_lines.specs.declared.file.FunctionsError.{FunctionsError}
use Rattle.function_lines.specs.declared.file.FunctionsError.TheVariants.{NoFunctions, NoLines, Much, Overlap, Memory}
use Rattle.line_remap.specs.declared.marks.Mark.{Mark as coded_mark}
use Rattle.line_remap.specs.Marks.{IsMark, Mark, mark_of, marks_of}
use Rattle.elf_symbols.specs.declared.symbols.Symbol.{Symbol}
use Rattle.function_sequences.specs.Sequences.{bytes_in, falling, functions_in}
use Rattle.line_remap.specs.Sound.{IsIndexOf}
use Rattle.function_lines.specs.SameProgram.{is_same_program}
use Rattle.function_lines.specs.WithLines.{has_lines, is_section, with_lines}
use Rattle.byte_write.specs.Numbers.{double}
use Rattle.byte_write.specs.Files.{with_section}
use Rattle.function_lines.proofs.FirstLines.{sequences_line}
use Rattle.function_lines.proofs.Soundness.{sound}

-- ---- the line table

section_is : (file unit : List ℕ) → section file (codes ".debug_line") ≡ Some unit → bytes_in file (codes ".debug_line") ≡ unit
section_is file unit e = ap (λ o. unwrap_or o []) e

same_ok : {E : Type 0} (x y : Table) → (let r : Result Table E = Ok x in r ≡ Ok y) → x ≡ y
same_ok x y e = cc

unit_as : (file unit : List ℕ) (all : List Sequence) → section file (codes ".debug_line") ≡ Some unit → GivesLines all unit → ReadsAs file (table all)
unit_as file unit all is gives strings = ap (reading strings) (section_is file unit is) ∙ gives.read strings

pub unit_read : (image : ImageParts) (index : Index) (marks : List Mark) (file unit : List ℕ) → IsUnit image index marks unit → section file (codes ".debug_line") ≡ Some unit → ReadsWithoutFault file
unfolding table
unit_read image index marks file unit has is = record {
  table = table has.sequences;
  reads = unit_as file unit has.sequences is has.gives;
  whole = refl;
}

within_marks : (index : Index) (marks : List Mark) → All (λ (m : Mark). m.position < length index.lines) marks → AllByRecursion (λ (m : Mark). m.position < length index.lines) marks
within_marks index marks all = recursion_from_All (λ (m : Mark). m.position < length index.lines) marks all

pub unit_lines : (image : ImageParts) (index : Index) (marks : List Mark) (file unit : List ℕ) → IsImage image → IsIndexOf image.areas index → All (λ (m : Mark). m.position < length index.lines) marks
    → IsUnit image index marks unit → section file (codes ".debug_line") ≡ Some unit → IsByFunction image index marks file
unit_lines image index marks file unit valid indexed within has is read reading_as a =
    let none : Strings = strings [] [] in
    let same : read ≡ table has.sequences = same_ok read (table has.sequences) (sym (reading_as none) ∙ unit_as file unit has.sequences is has.gives none) in
    ap (λ t. line_of t image.areas a) same
    ∙ has.gives.lines image.areas a
    ∙ ap (λ l. if is_executable image.areas a then l else None) (sequences_line image index (sound image index valid indexed) marks (within_marks index marks within) has.sequences has.are a)

-- ---- lengths

length-numbers : (a b : ℕ) (rest : List ℕ) → length (double a ++ (double b ++ rest)) ≡ 16 + length rest
unfolding double
length-numbers a b rest = omega (arith, length-append (double a) (double b ++ rest), length-append (double b) rest)

pub length-with_section : (file unit : List ℕ) (offset : ℕ) → offset + 64 ≤ length file → length (with_section file unit offset) ≡ length file + length unit
length-with_section file unit offset within =
    omega (arith, length-append (take (offset + 24) file) (double (length file) ++ (double (length unit) ++ (drop (offset + 40) file ++ unit))), length-take-le (offset + 24) file (omega arith), length-numbers (length file) (length unit) (drop (offset + 40) file ++ unit), length-append (drop (offset + 40) file) unit, length-drop (offset + 40) file)

pub long_with : (file unit : List ℕ) (found : Option ℕ) → found ≡ section_place file (codes ".debug_line") → is_some found ≡ true → IfSome found (λ offset. offset + 64 ≤ length file) → MAX_PROGRAM < length file + length unit → IsLongWith file unit
long_with file unit None is some within long = absurd cc
long_with file unit (Some offset) is some within long =
    (with_section file unit offset, ap (option_map (with_section file unit)) (sym is), omega (arith, long, length-with_section file unit offset within))

some_file : (x y : List ℕ) → Some x ≡ Some y → x ≡ y
some_file x y e = cc

pub short_with : (file unit written : List ℕ) (found : Option ℕ) → found ≡ section_place file (codes ".debug_line") → is_some found ≡ true → IfSome found (λ offset. offset + 64 ≤ length file) → with_lines file unit ≡ Some written → length file + length unit ≤ MAX_PROGRAM → length written ≤ MAX_PROGRAM
short_with file unit written None is some within made short = absurd cc
short_with file unit written (Some offset) is some within made short =
    let same : with_section file unit offset ≡ written = some_file (with_section file unit offset) written (ap (option_map (with_section file unit)) is ∙ made) in
    omega (arith, short, length-with_section file unit offset within, ap (λ (xs : List ℕ). length xs) same)

pub long_unit : (file unit : List ℕ) (found : Option ℕ) → found ≡ section_place file (codes ".debug_line") → is_some found ≡ true → IfSome found (λ offset. offset + 64 ≤ length file) → MAX_PROGRAM < length unit → IsLongWith file unit
long_unit file unit found is some within long = long_with file unit found is some within (omega (arith, long))

-- a file that is short enough is not too long
pub not_long : (file unit : List ℕ) (found : Option ℕ) → found ≡ section_place file (codes ".debug_line") → is_some found ≡ true → IfSome found (λ offset. offset + 64 ≤ length file) → length file + length unit ≤ MAX_PROGRAM → IsLongWith file unit → ⊥
not_long file unit found is some within short long =
    let fits : length long.0 ≤ MAX_PROGRAM = short_with file unit long.0 found is some within long.1 short in
    omega (arith, fits, long.2)

-- ---- functions

-- those that were found are some if they are some as their addresses fall
pub some_found : (image : ImageParts) (symbols : List Symbol) (empty : Bool) (n : ℕ) → symbols ≡ falling (functions_in image) → empty ≡ (n == 0) → n ≡ length symbols → empty ≡ false → HasFunctions image
some_found image symbols empty n is tested size some none =
    let no : symbols ≡ [] = is ∙ ap falling none in
    let zero : n ≡ 0 = size ∙ ap (λ (ss : List Symbol). length ss) no in
    let wrong : false ≡ true = sym some ∙ tested ∙ ap (λ (k : ℕ). k == 0) zero in
    absurd (let never : ⊥ = cc in never)

-- ---- causes

pub lineless : (image : ImageParts) (found : Option ℕ) → HasFunctions image → found ≡ section_place image.file (codes ".debug_line") → is_some found ≡ false → IsLineless image
lineless image None some is none = record { some = some; none = sym is }
lineless image (Some offset) some is none = absurd (let never : ⊥ = cc in never)

module _ (image : ImageParts) (index : Index) (marks : List Mark) (bytes : List ℕ) (some : HasFunctions image) (has : IsUnit image index marks bytes) where
  file_cause : (error : FunctionsError) → IsFileCause image bytes error → IsCauseOf image index marks error
  file_cause NoFunctions is = absurd is
  file_cause NoLines is = record { some = some; none = is }
  file_cause Much is = record {
    some = some;
    sequences = has.sequences;
    are = has.are;
    long = subst (λ (u : List ℕ). IsLongWith image.file u) has.unit is;
  }
  file_cause Overlap is = record {
    some = some;
    sequences = has.sequences;
    are = has.are;
    short = subst (λ (u : List ℕ). IsLongWith image.file u → ⊥) has.unit is.0;
    other = subst (λ (u : List ℕ). IsOtherWith image u) has.unit is.1;
  }
  file_cause Memory is = tt

  -- why there is no file with a unit is why there is none
  pub cause_of : (r : Result (Vec ℕ) FunctionsError) → IfErr r (IsFileCause image bytes) → IfErr r (IsCauseOf image index marks)
  cause_of (Ok v) is = tt
  cause_of (Err error) is = file_cause error is

  -- a file with the unit is one with such functions
  with_functions : (written : List ℕ) → with_lines image.file bytes ≡ Some written → has_lines image bytes written ≡ true → length written ≤ MAX_PROGRAM → IsWithFunctions image index marks written
  with_functions written is right short = record {
    some = some;
    sequences = has.sequences;
    are = has.are;
    file = subst (λ (u : List ℕ). with_lines image.file u ≡ Some written) has.unit is;
    right = subst (λ (u : List ℕ). has_lines image u written ≡ true) has.unit right;
    short = short;
  }

  pub are_with_functions : (r : Result (Vec ℕ) FunctionsError)
      → IfOk r (λ (v : Vec ℕ). with_lines image.file bytes ≡ Some v.items)
      → IfOk r (λ (v : Vec ℕ). is_same_program image (load_answer v.items) ≡ true)
      → IfOk r (λ (v : Vec ℕ). section v.items (codes ".debug_line") ≡ Some bytes)
      → IfOk r (λ (v : Vec ℕ). length v.items ≤ MAX_PROGRAM)
      → IfOk r (λ (v : Vec ℕ). IsWithFunctions image index marks v.items)
  are_with_functions (Ok v) file same lines short =
      with_functions v.items file (and_from (is_same_program image (load_answer v.items)) (is_section (section v.items (codes ".debug_line")) bytes) same (ap (λ o. is_section o bytes) lines ∙ (bytes_eq-Decides bytes bytes).1 refl)) short
  are_with_functions (Err error) file same lines short = tt

-- ---- marks

pub marks_within : (index : Index) (marks : List coded_mark) → All (IsMark index) marks → All (λ (m : Mark). m.position < length index.lines) (marks_of marks)
marks_within index marks all =
    All-map (λ (m : Mark). m.position < length index.lines) mark_of marks (All-weaker (IsMark index) (λ (m : coded_mark). m.line.0 < length index.lines) (λ m is. is.within) marks all)
