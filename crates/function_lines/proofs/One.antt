-- One answer at most comes of a program, an index of its lines and marks of them.
use Rattle.std.proofs.Common.{◌≡◌, ℕ, ◌<◌, true, false, List, length, Some, None, option_map, Result, Ok, Err, refl, sym, ap, subst, ◌∙◌, arith}
use Rattle.std.specs.Prelude.{codes}
use Rattle.coz_types.specs.declared.TheConstants.{MAX_PROGRAM}
use Rattle.coz_types.specs.Image.{ImageParts}
use Rattle.elf_load.specs.Loaded.{section_place}
use Rattle.byte_write.specs.Files.{with_section}
use Rattle.line_index.specs.Index.{Index}
use Rattle.line_write.specs.Unit.{Sequence, unit}
use Rattle.line_remap.specs.Marks.{Mark}
use Rattle.function_sequences.specs.Sequences.{AreSequences}
use Rattle.function_sequences.proofs.One.{sequences_one}
use Rattle.function_lines.specs.declared.file.FunctionsError.{FunctionsError}
use Rattle.function_lines.specs.declared.file.FunctionsError.TheVariants.{NoFunctions, NoLines, Much, Overlap, Memory}
use Rattle.function_lines.specs.ByFunction.{AnswersAreOne, IsAnswer, IsCauseOf, IsLineless, IsLongWith, IsMuch, IsOtherWith, IsOverlap, IsWithFunctions}
use Rattle.function_lines.specs.WithLines.{has_lines, with_lines}

same_some : (x y : List ℕ) → Some x ≡ Some y → x ≡ y
same_some x y e = cc

-- no unit has a place in a file without the section
no_place : (image : ImageParts) (bytes : List ℕ) → section_place image.file (codes ".debug_line") ≡ None → with_lines image.file bytes ≡ None
no_place image bytes none = ap (option_map (with_section image.file bytes)) none

module _ (image : ImageParts) (index : Index) (marks : List Mark) where
  same_unit : (all others : List Sequence) → AreSequences image index marks all → AreSequences image index marks others → unit all ≡ unit others
  same_unit all others are also = ap unit (sequences_one image index marks all others are also)

  files_one : (a b : List ℕ) → IsWithFunctions image index marks a → IsWithFunctions image index marks b → a ≡ b
  files_one a b is also =
      same_some a b (sym is.file ∙ ap (with_lines image.file) (same_unit is.sequences also.sequences is.are also.are) ∙ also.file)

  -- ---- a file and a cause

  not_lineless : (file : List ℕ) → IsWithFunctions image index marks file → IsLineless image → ⊥
  not_lineless file is cause = let no : None ≡ Some file = sym (no_place image (unit is.sequences) cause.none) ∙ is.file in cc

  not_much : (file : List ℕ) → IsWithFunctions image index marks file → IsMuch image index marks → ⊥
  not_much file is cause =
      let long = cause.long in
      let same : long.0 ≡ file = same_some long.0 file (sym long.1 ∙ ap (with_lines image.file) (same_unit cause.sequences is.sequences cause.are is.are) ∙ is.file) in
      let size : length long.0 ≡ length file = ap (λ (bytes : List ℕ). length bytes) same in
      let short = is.short in
      let over : MAX_PROGRAM < length long.0 = long.2 in
      omega (arith, size, short, over)

  not_overlap : (file : List ℕ) → IsWithFunctions image index marks file → IsOverlap image index marks → ⊥
  not_overlap file is cause =
      let other : IsOtherWith image (unit is.sequences) = subst (IsOtherWith image) (same_unit cause.sequences is.sequences cause.are is.are) cause.other in
      let found : Some (has_lines image (unit is.sequences) file) ≡ Some false = sym (ap (option_map (has_lines image (unit is.sequences))) is.file) ∙ other in
      let right = is.right in
      let no : true ≡ false = cc in
      cc

  never : (file : List ℕ) (error : FunctionsError) → IsWithFunctions image index marks file → IsCauseOf image index marks error → error ≡ Memory
  never file NoFunctions is cause = absurd (is.some cause)
  never file NoLines is cause = absurd (not_lineless file is cause)
  never file Much is cause = absurd (not_much file is cause)
  never file Overlap is cause = absurd (not_overlap file is cause)
  never file Memory is cause = refl

  -- ---- two causes

  lineless_much : IsLineless image → IsMuch image index marks → ⊥
  lineless_much cause also =
      let long = also.long in
      let no : None ≡ Some long.0 = sym (no_place image (unit also.sequences) cause.none) ∙ long.1 in
      cc

  lineless_overlap : IsLineless image → IsOverlap image index marks → ⊥
  lineless_overlap cause also =
      let no : None ≡ Some false = sym (ap (option_map (has_lines image (unit also.sequences))) (no_place image (unit also.sequences) cause.none)) ∙ also.other in
      cc

  much_overlap : IsMuch image index marks → IsOverlap image index marks → ⊥
  much_overlap cause also = also.short (subst (IsLongWith image.file) (same_unit cause.sequences also.sequences cause.are also.are) cause.long)

  causes_one : (error other : FunctionsError) → IsCauseOf image index marks error → IsCauseOf image index marks other → (error ≡ Memory → ⊥) → (other ≡ Memory → ⊥) → error ≡ other
  causes_one Memory other is also room space = absurd (room refl)
  causes_one NoFunctions Memory is also room space = absurd (space refl)
  causes_one NoFunctions NoFunctions is also room space = refl
  causes_one NoFunctions NoLines is also room space = absurd (also.some is)
  causes_one NoFunctions Much is also room space = absurd (also.some is)
  causes_one NoFunctions Overlap is also room space = absurd (also.some is)
  causes_one NoLines Memory is also room space = absurd (space refl)
  causes_one NoLines NoFunctions is also room space = absurd (is.some also)
  causes_one NoLines NoLines is also room space = refl
  causes_one NoLines Much is also room space = absurd (lineless_much is also)
  causes_one NoLines Overlap is also room space = absurd (lineless_overlap is also)
  causes_one Much Memory is also room space = absurd (space refl)
  causes_one Much NoFunctions is also room space = absurd (is.some also)
  causes_one Much NoLines is also room space = absurd (lineless_much also is)
  causes_one Much Much is also room space = refl
  causes_one Much Overlap is also room space = absurd (much_overlap is also)
  causes_one Overlap Memory is also room space = absurd (space refl)
  causes_one Overlap NoFunctions is also room space = absurd (is.some also)
  causes_one Overlap NoLines is also room space = absurd (lineless_overlap also is)
  causes_one Overlap Much is also room space = absurd (much_overlap also is)
  causes_one Overlap Overlap is also room space = refl

  answer_one : (one other : Result (List ℕ) FunctionsError) → IsAnswer image index marks one → IsAnswer image index marks other → (one ≡ Err Memory → ⊥) → (other ≡ Err Memory → ⊥) → one ≡ other
  answer_one (Ok a) (Ok b) is also room space = ap (λ (bytes : List ℕ). let r : Result (List ℕ) FunctionsError = Ok bytes in r) (files_one a b is also)
  answer_one (Ok a) (Err error) is also room space = absurd (space (ap (λ (e : FunctionsError). let r : Result (List ℕ) FunctionsError = Err e in r) (never a error is also)))
  answer_one (Err error) (Ok b) is also room space = absurd (room (ap (λ (e : FunctionsError). let r : Result (List ℕ) FunctionsError = Err e in r) (never b error also is)))
  answer_one (Err error) (Err other) is also room space =
      ap (λ (e : FunctionsError). let r : Result (List ℕ) FunctionsError = Err e in r)
      (causes_one error other is also
      (λ same. room (ap (λ (e : FunctionsError). let r : Result (List ℕ) FunctionsError = Err e in r) same))
      (λ same. space (ap (λ (e : FunctionsError). let r : Result (List ℕ) FunctionsError = Err e in r) same)))

pub answers_one : AnswersAreOne
answers_one image index marks one other is also room space = answer_one image index marks one other is also room space
