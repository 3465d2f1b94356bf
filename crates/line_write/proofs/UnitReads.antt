-- A unit is read as the table of its sequences.
use Rattle.std.proofs.Common.{◌≡◌, ◌<◌, ℕ, zero, suc, ◌+◌, ◌^◌, inl, true, List, [], ◌∷◌, ◌++◌, map, length, refl, ap, ◌∙◌, sym, arith, append_assoc, lit<, not}
use Rattle.std.specs.Prelude.{◌==◌, flat_map, All}
use Rattle.std.specs.List.{AllByRecursion}
use Rattle.std.proofs.lemmas.List.{append-nil}
use Rattle.std.proofs.lemmas.List.Elements.{recursion_from_All}
use Rattle.dwarf_lines.specs.Registers.{File, empty_table}
use Rattle.dwarf_lines.specs.Names.{Strings}
use Rattle.dwarf_lines.specs.Spelling.{SpellsAll, SpellsHeader, SpellsFile, ReadsUnit, TakesUnit, IsTable}
use Rattle.dwarf_lines.proofs.UnitsAgain.{reading_again}
use Rattle.byte_write.specs.Numbers.{half, word}
use Rattle.line_write.specs.Unit.{Sequence, IsWritable, numbers, file_entry, header, with_count, program, body, unit}
use Rattle.line_write.specs.Lines.{file_of, rows, table, GivesLines}
use Rattle.line_write.proofs.Lengths.{length-versioned, length-unit, length-counted, few_sequences}
use Rattle.line_write.proofs.LineOf.{table_lines}
use Rattle.line_write.proofs.LineProgram.{header_of, between, AreWritable, by_program, rows_closed}

-- ---- the header

not_zero : (b : ℕ) → not (b == 0) ≡ true → 0 < b
not_zero zero e = absurd cc
not_zero (suc b) e = omega arith

without_zeros : (name : List ℕ) → AllByRecursion (λ b. not (b == 0) ≡ true) name → AllByRecursion (λ b. 0 < b) name
without_zeros [] all = tt
without_zeros (b ∷ bs) all = (not_zero b all.0, without_zeros bs all.1)

spelled_file : (s : Sequence) → IsWritable s → SpellsFile [] (file_of s) (file_entry s)
spelled_file s right =
    let full = without_zeros s.path (recursion_from_All (λ b. not (b == 0) ≡ true) s.path right.text) in
    (s.path ++ 0 ∷ [], 0 ∷ [], 0 ∷ [], 0 ∷ [], 0, 0, 0, sym (append_assoc s.path (0 ∷ []) (0 ∷ 0 ∷ 0 ∷ [])), (full, refl), ((lit< tt, refl), lit< tt), ((lit< tt, refl), lit< tt), ((lit< tt, refl), lit< tt), refl)

spelled_files : (all : List Sequence) → AreWritable all → SpellsAll (SpellsFile []) (map file_of all) (flat_map file_entry all)
spelled_files [] right = refl
spelled_files (s ∷ more) right = (file_entry s, flat_map file_entry more, refl, spelled_file s right.0, spelled_files more right.1)

named_files : (all : List Sequence) → AreWritable all → AllByRecursion (λ (f : File). 0 < length f.name) (map file_of all)
named_files [] right = tt
named_files (s ∷ more) right = (right.0.named, named_files more right.1)

abbrev names : List Sequence → List ℕ
names all = 0 ∷ (flat_map file_entry all ++ 0 ∷ [])

spelled_header : (strings : Strings) (all : List Sequence) → AreWritable all → SpellsHeader 4 strings (header_of all) (header all)
spelled_header strings all right =
    (1, 0xFB, names all, [], ap (λ (bytes : List ℕ). numbers ++ bytes) (sym (append-nil (names all))), refl, refl, refl, lit< tt, refl, ([], flat_map file_entry all, refl, refl, spelled_files all right, tt, named_files all right))

-- ---- the unit

-- what stands after the version
abbrev after_version : List Sequence → List ℕ
after_version all = with_count (header all) ++ program 1 all

reads_unit : (strings : Strings) (all : List Sequence) → AreWritable all → length all < 2 ^ 33 → ReadsUnit 4 strings (after_version all) empty_table (table all)
unfolding word table
reads_unit strings all right few =
    let r = by_program all all [] 0 right (omega arith) few refl in
    (header_of all, header all, r.codes, between all (rows 0 all), ap (λ (p : List ℕ). with_count (header all) ++ p) r.spelled, spelled_header strings all right, r.goes, rows_closed 0 all, refl)

whole_unit : (all : List Sequence) → unit all ≡ word (2 + length (after_version all)) ++ half 4 ++ after_version all
unfolding unit
whole_unit all =
    let n : ℕ = 2 + length (after_version all) in
    ap (λ (m : ℕ). word m ++ (half 4 ++ after_version all)) (length-versioned (after_version all))
    ∙ sym (append_assoc (word n) (half 4) (after_version all))

takes_unit : (strings : Strings) (all : List Sequence) → AreWritable all → length all < 2 ^ 33 → 2 + length (after_version all) < 0xFFFFFFF0 → TakesUnit strings (unit all) empty_table (table all)
unfolding half word
takes_unit strings all right few short =
    (4, after_version all, whole_unit all, short, lit< tt, inl ((omega arith, omega arith), reads_unit strings all right few))

is_table : (strings : Strings) (all : List Sequence) → TakesUnit strings (unit all) empty_table (table all) → IsTable strings (unit all) (table all)
is_table strings all takes = record { units = unit all ∷ []; whole = sym (append-nil (unit all)); takes = (table all, takes, refl) }

length_after : (all : List Sequence) → length (unit all) ≡ 6 + length (after_version all)
unfolding unit
length_after all = omega (arith, length-counted (body (header all) (program 1 all)), length-versioned (after_version all))

pub unit_gives : (all : List Sequence) → All IsWritable all → length (unit all) < 2 ^ 31 → GivesLines all (unit all)
unit_gives all right short =
    let each = recursion_from_All IsWritable all right in
    let few : length all < 2 ^ 33 = omega (arith, length-unit all, few_sequences all) in
    record {
      read = λ strings. reading_again strings (unit all) (table all) (is_table strings all (takes_unit strings all each few (omega (arith, length_after all))));
      lines = λ areas a. table_lines all areas a each;
    }
