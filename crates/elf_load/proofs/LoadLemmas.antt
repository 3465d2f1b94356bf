-- What loading answers, from what was read and judged.
use Rattle.std.proofs.Common.{◌≡◌, ℕ, ◌*◌, ◌≤◌, List, map, filter, true, Some, None, Result, Ok, Err, refl, sym, ap, subst, ◌∙◌}
use Rattle.std.specs.Prelude.{All}
use Rattle.std.specs.Result.{IsErrAnd}
use Rattle.std.proofs.lemmas.List.Elements.{filter_passes}
use Rattle.coz_types.specs.declared.image.Area.{Area}
use Rattle.coz_types.specs.Image.{ImageParts, IsImage}
use Rattle.elf_load.specs.declared.ElfFault.{ElfFault}
use Rattle.failures.specs.declared.Failure.{Failure}
use Rattle.failures.specs.declared.Failure.TheVariants as errors
use Rattle.elf_load.specs.declared.tables.Segment.{Segment}
use Rattle.elf_load.specs.declared.tables.Section.{Section}
use Rattle.elf_load.specs.Tables.{entry, phnum, segments, sections, is_area, load_areas, end_page}
use Rattle.elf_load.specs.Faults.{first_row, header_rows, rows_on, table_rows, HasHeaders, JudgesOrFails, fault}
use Rattle.elf_load.specs.Loaded.{area_of, headers, image, load_answer, Loads}
use Rattle.elf_load.proofs.Rows.{header_fault, table_fault}
use Rattle.elf_load.proofs.Valid.{valid, areas_end}

pub headed : (file : List ℕ) → first_row (header_rows file) ≡ None → HasHeaders file
unfolding HasHeaders
headed file e = e

load_answer_fault : (file : List ℕ) (f : ElfFault) → fault file ≡ Some f → load_answer file ≡ Err f
unfolding load_answer
load_answer_fault file f e = rw (e, load_answer) refl

load_answer_image : (file : List ℕ) → fault file ≡ None → load_answer file ≡ Ok (image file)
unfolding load_answer
load_answer_image file e = rw (e, load_answer) refl

-- the entries that were read are those of the tables
pub record WereRead (file : List ℕ) (ss : List Segment) (ns : List Section) (areas : List Segment) : Type 0 where
  pub segments_read : ss ≡ segments file
  pub sections_read : ns ≡ sections file
  pub areas_read : areas ≡ load_areas file

-- as they were kept in vectors
pub were_read : (file : List ℕ) (xs ss held_ss : List Segment) (ns held_ns : List Section) (areas held_areas : List Segment) → held_ss ≡ segments file → held_ns ≡ sections file → held_areas ≡ filter is_area xs
    → xs ≡ held_ss → ss ≡ held_ss → ns ≡ held_ns → areas ≡ held_areas → WereRead file ss ns areas
were_read file xs ss held_ss ns held_ns areas held_areas is_ss is_ns is_areas at_xs at_ss at_ns at_areas = record {
  segments_read = at_ss ∙ is_ss;
  sections_read = at_ns ∙ is_ns;
  areas_read = at_areas ∙ (is_areas ∙ ap (λ (ys : List Segment). filter is_area ys) (at_xs ∙ is_ss));
}

pub all_areas : (xs areas held_areas : List Segment) → held_areas ≡ filter is_area xs → areas ≡ held_areas → All (λ s. is_area s ≡ true) areas
all_areas xs areas held_areas is_areas at = subst (λ (ys : List Segment). All (λ s. is_area s ≡ true) ys) (sym (at ∙ is_areas)) (filter_passes is_area xs)

pub rows_same : (file : List ℕ) (ss : List Segment) (ns : List Section) (areas : List Segment) → WereRead file ss ns areas → first_row (rows_on file ss ns areas) ≡ first_row (table_rows file)
rows_same file ss ns areas read =
    ap (λ (xs : List Segment). first_row (rows_on file xs ns areas)) read.segments_read
    ∙ (ap (λ (xs : List Section). first_row (rows_on file (segments file) xs areas)) read.sections_read
    ∙ ap (λ (xs : List Segment). first_row (rows_on file (segments file) (sections file) xs)) read.areas_read)

pub low_areas : (file : List ℕ) (ss : List Segment) (ns : List Section) (areas : List Segment) → WereRead file ss ns areas → first_row (table_rows file) ≡ None → All (λ s. 4096 * end_page s ≤ 0x2000000000) areas
low_areas file ss ns areas read e = subst (λ (xs : List Segment). All (λ s. 4096 * end_page s ≤ 0x2000000000) xs) (sym read.areas_read) (areas_end file e)

-- an error that is this fault
fault_answered : (r : Result ImageParts (Failure ElfFault)) (f : ElfFault) (holds : Result ImageParts ElfFault) → IsErrAnd r (λ e. e ≡ errors.Fault f) → holds ≡ Err f → Loads r holds
fault_answered (Ok parts) f holds is e = absurd is
fault_answered (Err x) f holds is e = subst (λ (y : Failure ElfFault). Loads (Err y) holds) (sym is) e

pub header_answered : (file : List ℕ) (r : Result ImageParts (Failure ElfFault)) (f : ElfFault) → IsErrAnd r (λ e. e ≡ errors.Fault f) → first_row (header_rows file) ≡ Some f → Loads r (load_answer file)
header_answered file r f is e = fault_answered r f (load_answer file) is (load_answer_fault file f (header_fault file f e))

memory_answered : (r : Result ImageParts (Failure ElfFault)) (holds : Result ImageParts ElfFault) → IsErrAnd r (λ e. e ≡ errors.Memory) → Loads r holds
memory_answered (Ok parts) holds is = absurd is
memory_answered (Err x) holds is = subst (λ (y : Failure ElfFault). Loads (Err y) holds) (sym is) tt

pub tables_answered : (file : List ℕ) (r : Result ImageParts (Failure ElfFault)) (x : Failure ElfFault) → HasHeaders file → IsErrAnd r (λ e. e ≡ x) → JudgesOrFails (Err x) (first_row (table_rows file)) → Loads r (load_answer file)
tables_answered file r errors.Memory headed is judged = memory_answered r (load_answer file) is
tables_answered file r (errors.Fault f) headed is judged = fault_answered r f (load_answer file) is (load_answer_fault file f (table_fault file headed ∙ judged))

-- the image's parts are those of the definition
pub parts_are : (file : List ℕ) (ss : List Segment) (ns : List Section) (areas : List Segment) (made : List Area) (at address count : ℕ) → WereRead file ss ns areas → made ≡ map (area_of file) areas → at ≡ entry file → address ≡ headers file → count ≡ phnum file
    → (let parts : ImageParts = record { file = file; areas = made; entry = at; headers = address; header_count = count } in parts ≡ image file)
unfolding image
parts_are file ss ns areas made at address count read is_made is_entry is_headers is_count =
    let all : made ≡ map (area_of file) (load_areas file) = is_made ∙ ap (λ (xs : List Segment). map (area_of file) xs) read.areas_read in
    rw (all, is_entry, is_headers, is_count) refl

pub image_valid : (file : List ℕ) (parts : ImageParts) → first_row (table_rows file) ≡ None → parts ≡ image file → IsImage parts
image_valid file parts e is = subst IsImage (sym is) (valid file e)

pub image_answered : (file : List ℕ) (parts : ImageParts) → HasHeaders file → first_row (table_rows file) ≡ None → parts ≡ image file → Loads (Ok parts) (load_answer file)
image_answered file parts headed e is = load_answer_image file (table_fault file headed ∙ e) ∙ ap (λ (x : ImageParts). Ok x) (sym is)

pub image_faultless : (file : List ℕ) (parts : ImageParts) → HasHeaders file → first_row (table_rows file) ≡ None → parts.file ≡ file → fault parts.file ≡ None
image_faultless file parts headed e is = ap (λ (x : List ℕ). fault x) is ∙ (table_fault file headed ∙ e)
