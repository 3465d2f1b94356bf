-- The line unit of a written file is read as the table of its lines.
use Rattle.std.proofs.Common.{◌≡◌, ◌<◌, ℕ, zero, suc, ◌+◌, ◌^◌, inl, true, List, [], ◌∷◌, ◌++◌, length, refl, ap, subst, ◌∙◌, sym, arith, append_assoc, length-append, lit<, not, Some, None, Option, option_map, Bool, false, if◌then◌else◌, Result, Ok, Err}
use Rattle.std.specs.Prelude.{◌==◌, IfOk, codes, ◌≤◌}
use Rattle.std.specs.List.{AllByRecursion}
use Rattle.std.proofs.lemmas.Bool.{le-leb}
use Rattle.std.proofs.lemmas.List.{append-nil}
use Rattle.std.proofs.lemmas.List.Elements.{recursion_from_All}
use Rattle.elf_load.specs.Loaded as loading
use Rattle.dwarf_lines.specs.declared.LineFault.{LineFault}
use Rattle.dwarf_lines.specs.Registers.{Table, File, empty_table}
use Rattle.dwarf_lines.specs.Names.{Strings, strings, form_for, Text, Number, Entry}
use Rattle.dwarf_lines.specs.Spelling.{IsUleb, SpellsHeader, SpellsNames, SpellsListed, SpellsEntry, SpellsFormat, SpellsFile, ReadsUnit, TakesUnit, IsTable}
use Rattle.dwarf_lines.specs.Spelling as spelled
use Rattle.dwarf_lines.specs.declared.forms.Form.TheVariants.{String, Data1}
use Rattle.dwarf_lines.specs.declared.forms.Format.{Format}
use Rattle.dwarf_lines.specs.Reading.{reading}
use Rattle.dwarf_lines.proofs.UnitsAgain.{reading_again}
use Rattle.rv_asm.specs.Assembled.{Program, IsProgram}
use Rattle.byte_write.specs.Numbers.{half, word}
use Rattle.image_write.specs.Unit.{numbers, sizes, files, ended_files, counted_files, with_count, unit_body, line_program, unit}
use Rattle.image_write.specs.Lines.{rows_of, table_of}
use Rattle.image_write.specs.File.{IsName, IsVersion, written_file}
use Rattle.image_write.proofs.Lengths.{body_short}
use Rattle.image_write.proofs.LineSection.{unit_found}
use Rattle.image_write.proofs.Program.{lengths, header_of, AreLines, by_program, ended, rows_closed}

-- its texts are all in the unit
abbrev none : Strings
none = strings [] []

-- ---- the header

not_zero : (b : ℕ) → not (b == 0) ≡ true → 0 < b
not_zero zero e = absurd cc
not_zero (suc b) e = omega arith

without_zeros : (name : List ℕ) → AllByRecursion (λ b. not (b == 0) ≡ true) name → AllByRecursion (λ b. 0 < b) name
without_zeros [] all = tt
without_zeros (b ∷ bs) all = (not_zero b all.0, without_zeros bs all.1)

abbrev entry_of : List ℕ → List ℕ
entry_of name = name ++ 0 ∷ 0 ∷ 0 ∷ 0 ∷ []

abbrev file_named : List ℕ → File
file_named name = record { directory = []; name = name }

spelled_file : (name : List ℕ) → AllByRecursion (λ b. 0 < b) name → SpellsFile [] (file_named name) (entry_of name)
spelled_file name full = (name ++ 0 ∷ [], 0 ∷ [], 0 ∷ [], 0 ∷ [], 0, 0, 0, sym (append_assoc name (0 ∷ []) (0 ∷ 0 ∷ 0 ∷ [])), (full, refl), ((lit< tt, refl), lit< tt), ((lit< tt, refl), lit< tt), ((lit< tt, refl), lit< tt), refl)

-- ---- directories and files of version 5

abbrev path_format : Format
path_format = record { content = 1; form = String }

abbrev directory_format : Format
directory_format = record { content = 2; form = Data1 }

spelled_format : (f : Format) (code : ℕ) → IsUleb f.content (f.content ∷ []) → IsUleb code (code ∷ []) → form_for f.content code ≡ Some f.form → SpellsFormat f (f.content ∷ code ∷ [])
spelled_format f code content form is = (f.content ∷ [], code ∷ [], code, refl, content, form, is)

one : IsUleb 1 (1 ∷ [])
one = ((lit< tt, refl), lit< tt)

two : IsUleb 2 (2 ∷ [])
two = ((lit< tt, refl), lit< tt)

path_is_own : form_for 1 8 ≡ Some String
unfolding form_for
path_is_own = refl

directory_is_byte : form_for 2 11 ≡ Some Data1
unfolding form_for
directory_is_byte = refl

paths : SpellsFormat path_format (1 ∷ 8 ∷ [])
paths = spelled_format path_format 8 one ((lit< tt, refl), lit< tt) path_is_own

numbers_of_directories : SpellsFormat directory_format (2 ∷ 11 ∷ [])
numbers_of_directories = spelled_format directory_format 11 two ((lit< tt, refl), lit< tt) directory_is_byte

-- a path alone
spelled_path : (name : List ℕ) → AllByRecursion (λ b. 0 < b) name → SpellsEntry none (path_format ∷ []) (record { path = name; directory = None }) (name ++ 0 ∷ [])
spelled_path name full = (Text name ∷ [], (name ++ 0 ∷ [], [], sym (append-nil (name ++ 0 ∷ [])), (name, (full, refl), refl), refl), refl)

-- a path in the directory 0
spelled_source : (name : List ℕ) → AllByRecursion (λ b. 0 < b) name → SpellsEntry none (path_format ∷ directory_format ∷ []) (record { path = name; directory = Some 0 }) (name ++ 0 ∷ 0 ∷ [])
spelled_source name full =
    (Text name ∷ Number 0 ∷ [], (name ++ 0 ∷ [], 0 ∷ [], sym (append_assoc name (0 ∷ []) (0 ∷ [])), (name, (full, refl), refl), (0 ∷ [], [], refl, (0, refl, refl), refl)), refl)

abbrev current : List Entry
current = record { path = 46 ∷ []; directory = None } ∷ []

abbrev twice : List ℕ → List Entry
twice name = record { path = name; directory = Some 0 } ∷ record { path = name; directory = Some 0 } ∷ []

spelled_current : SpellsListed none current (1 ∷ 1 ∷ 8 ∷ 1 ∷ 46 ∷ 0 ∷ [])
spelled_current = (
  path_format ∷ [],
  1 ∷ 8 ∷ [],
  1 ∷ [],
  46 ∷ 0 ∷ [],
  refl,
  (1 ∷ 8 ∷ [], [], refl, paths, refl),
  one,
  (46 ∷ 0 ∷ [], [], refl, spelled_path (46 ∷ []) (lit< tt, tt), refl),
  inl (lit< tt),
)

abbrev both_sources : List ℕ → List ℕ
both_sources name = (name ++ 0 ∷ 0 ∷ []) ++ (name ++ 0 ∷ 0 ∷ [])

spelled_twice : (name : List ℕ) → AllByRecursion (λ b. 0 < b) name → SpellsListed none (twice name) (2 ∷ 1 ∷ 8 ∷ 2 ∷ 11 ∷ 2 ∷ both_sources name)
spelled_twice name full =
    let source = name ++ 0 ∷ 0 ∷ [] in (
      path_format ∷ directory_format ∷ [],
      1 ∷ 8 ∷ 2 ∷ 11 ∷ [],
      2 ∷ [],
      both_sources name,
      refl,
      (
        1 ∷ 8 ∷ [],
        2 ∷ 11 ∷ [],
        refl,
        paths,
        (2 ∷ 11 ∷ [], [], refl, numbers_of_directories, refl),
      ),
      two,
      (source, source, refl, spelled_source name full, (source, [], sym (append-nil source), spelled_source name full, refl)),
      inl (lit< tt),
    )

-- ---- the header

-- of the version that the Bool tells
spelled_names : (five : Bool) (name : List ℕ) → AllByRecursion (λ b. 0 < b) name → 0 < length name
    → SpellsNames five none (if five then (46 ∷ []) ∷ [] else []) (if five then file_named name ∷ file_named name ∷ [] else file_named name ∷ []) (if five then counted_files name else ended_files name)
spelled_names true name full some = (
  current,
  twice name,
  1 ∷ 1 ∷ 8 ∷ 1 ∷ 46 ∷ 0 ∷ [],
  2 ∷ 1 ∷ 8 ∷ 2 ∷ 11 ∷ 2 ∷ both_sources name,
  append_assoc ((1 ∷ 1 ∷ 8 ∷ 1 ∷ 46 ∷ 0 ∷ []) ++ (2 ∷ 1 ∷ 8 ∷ 2 ∷ 11 ∷ 2 ∷ [])) (name ++ 0 ∷ 0 ∷ []) (name ++ 0 ∷ 0 ∷ []),
  spelled_current,
  spelled_twice name full,
  refl,
  refl,
)
spelled_names false name full some =
    ([], entry_of name, refl, refl, (entry_of name, [], sym (append-nil (entry_of name)), spelled_file name full, refl), tt, (some, tt))

-- one operation for an instruction, as both versions have it
abbrev IsOne : ℕ → Type 0
IsOne version = spelled.operations version ≡ 1 ∷ []

one_of : (version : ℕ) → IsVersion version → IsOne version
one_of version is = ap (λ (b : Bool). elim b as (λ x. List ℕ) [ true ↦ 1 ∷ [] | false ↦ [] ]) (le-leb 4 version is.0)

header_parts : (version : ℕ) (rest : List ℕ) → IsOne version → numbers ++ rest ≡ (4 ∷ spelled.operations version) ++ (1 ∷ 0xFB ∷ 14 ∷ 13 ∷ lengths) ++ rest ++ []
header_parts version rest is = ap (λ (bytes : List ℕ). numbers ++ bytes) (sym (append-nil rest)) ∙ ap (λ (ops : List ℕ). (4 ∷ ops) ++ (1 ∷ 0xFB ∷ 14 ∷ 13 ∷ lengths) ++ rest ++ []) (sym is)

spelled_header : (version : ℕ) (name : List ℕ) → IsVersion version → AllByRecursion (λ b. 0 < b) name → 0 < length name → SpellsHeader version none (header_of version name) (numbers ++ files version name)
spelled_header version name is full some =
    (1, 0xFB, files version name, [], header_parts version (files version name) (one_of version is), refl, refl, refl, lit< tt, refl, spelled_names (version == 5) name full some)

-- ---- the unit

abbrev header_bytes : ℕ → List ℕ → List ℕ
header_bytes version name = numbers ++ files version name

abbrev after_version : ℕ → List ℕ → List ℕ → List ℕ
after_version version lines name = sizes version ++ (with_count (header_bytes version name) ++ line_program lines)

sizes_by : (five : Bool) → (if five then 8 ∷ 0 ∷ [] else []) ≡ (elim five as (λ x. List ℕ) [ true ↦ 8 ∷ 0 ∷ [] | false ↦ [] ])
sizes_by true = refl
sizes_by false = refl

reads_unit : (version : ℕ) (lines name : List ℕ) → IsVersion version → AllByRecursion (λ b. 0 < b) name → 0 < length name → AreLines lines → length lines < 2 ^ 20 → ReadsUnit version none (after_version version lines name) empty_table (table_of lines name version)
unfolding word table_of
reads_unit version lines name is full some all few =
    let r = by_program version name lines all few in
    let h = header_bytes version name in (
      header_of version name,
      h,
      r.codes,
      ended version name (rows_of version lines),
      ap (λ (z : List ℕ). z ++ (with_count h ++ line_program lines)) (sizes_by (version == 5)) ∙ ap (λ (p : List ℕ). spelled.sizes version ++ (with_count h ++ p)) r.spelled,
      spelled_header version name is full some,
      r.goes,
      (rows_closed version lines).0,
      refl,
    )

whole_body : (version : ℕ) (lines name : List ℕ) → unit_body lines name version ≡ half version ++ after_version version lines name
whole_body version lines name =
    append_assoc (half version ++ sizes version) (with_count (header_bytes version name)) (line_program lines)
    ∙ append_assoc (half version) (sizes version) (with_count (header_bytes version name) ++ line_program lines)

body_length : (version : ℕ) (lines name : List ℕ) → length (unit_body lines name version) ≡ 2 + length (after_version version lines name)
unfolding half
body_length version lines name = ap (λ (x : List ℕ). length x) (whole_body version lines name) ∙ length-append (half version) (after_version version lines name)

body_below : (version : ℕ) (lines name : List ℕ) → length lines < 2 ^ 20 → length name < 2 ^ 20 → 2 + length (after_version version lines name) < 0xFFFFFFF0
body_below version lines name few short = subst (λ (n : ℕ). n < 0xFFFFFFF0) (body_length version lines name) (body_short lines name version few short)

whole_unit : (version : ℕ) (lines name : List ℕ) → unit lines name version ≡ word (2 + length (after_version version lines name)) ++ half version ++ after_version version lines name
unfolding unit
whole_unit version lines name =
    let n : ℕ = 2 + length (after_version version lines name) in
    ap (λ (m : ℕ). word m ++ unit_body lines name version) (body_length version lines name)
    ∙ ap (λ (x : List ℕ). word n ++ x) (whole_body version lines name)
    ∙ sym (append_assoc (word n) (half version) (after_version version lines name))

takes_unit : (version : ℕ) (lines name : List ℕ) → IsVersion version → AllByRecursion (λ b. 0 < b) name → 0 < length name → AreLines lines → length lines < 2 ^ 20 → length name < 2 ^ 20 → TakesUnit none (unit lines name version) empty_table (table_of lines name version)
unfolding half word
takes_unit version lines name is full some all few short =
    (version, after_version version lines name, whole_unit version lines name, body_below version lines name few short, omega (arith, is.1), inl ((omega (arith, is.0), is.1), reads_unit version lines name is full some all few))

is_table : (version : ℕ) (lines name : List ℕ) → TakesUnit none (unit lines name version) empty_table (table_of lines name version) → IsTable none (unit lines name version) (table_of lines name version)
is_table version lines name takes = record { units = unit lines name version ∷ []; whole = sym (append-nil (unit lines name version)); takes = (table_of lines name version, takes, refl) }

-- ---- the file

all_lines : (lines : List ℕ) → AllByRecursion (λ line. (1 ≤ line) × (line ≤ 65536)) lines → AreLines lines
all_lines [] all = tt
all_lines (l ∷ more) all = (omega (arith, all.0), all_lines more all.1)

pub unit_is_read : (p : Program) (name : List ℕ) (version : ℕ) → IsProgram p → IsName name → IsVersion version → reading none (unit p.lines name version) ≡ Ok (table_of p.lines name version)
unit_is_read p name version is named right =
    let full = without_zeros name (recursion_from_All (λ b. not (b == 0) ≡ true) name named.2) in
    let all = all_lines p.lines (recursion_from_All (λ line. (1 ≤ line) × (line ≤ 65536)) p.lines is.lines_fit) in
    let takes = takes_unit version p.lines name right full named.0 all (omega (arith, is.whole, is.text_fits)) (omega (arith, named.1)) in
    reading_again none (unit p.lines name version) (table_of p.lines name version) (is_table version p.lines name takes)

pub lines_found : (p : Program) (name : List ℕ) (version : ℕ) → IsProgram p → IsName name → IsVersion version → option_map (reading none) (loading.section (written_file p name version) (codes ".debug_line")) ≡ Some (Ok (table_of p.lines name version))
lines_found p name version is named right = ap (λ (o : Option (List ℕ)). option_map (reading none) o) (unit_found p name version is named) ∙ ap (λ (r : Result Table LineFault). Some r) (unit_is_read p name version is named right)

-- what a call wrote, if it is the written file
pub given_lines : {V E : Type 0} (bytes : V → List ℕ) (p : Program) (name : List ℕ) (version : ℕ) (r : Result V E) → IsName name → IsVersion version → IfOk r (λ v. bytes v ≡ written_file p name version) → IsProgram p → IfOk r (λ v. option_map (reading none) (loading.section (bytes v) (codes ".debug_line")) ≡ Some (Ok (table_of p.lines name version)))
given_lines bytes p name version (Ok v) named right e is = ap (λ (f : List ℕ). option_map (reading none) (loading.section f (codes ".debug_line"))) e ∙ lines_found p name version is named right
given_lines bytes p name version (Err x) named right e is = tt
