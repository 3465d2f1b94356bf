use Rattle.std.proofs.Common.{◌≡◌, ◌∙◌, ap, sym, subst, Option, None, Err}
use Rattle.elf_load.specs.declared.ElfFault.{ElfFault}
use Rattle.coz_types.specs.Image.{ImageParts}
use Rattle.elf_load.specs.Faults.{JudgesOrFails, first_row, table_rows}
use Rattle.elf_load.proofs.LoadLemmas.{were_read, headed, all_areas, rows_same, low_areas, header_answered, tables_answered, parts_are, image_valid, image_answered, image_faultless}
use Rattle.elf_load.proofs.load.Goals as goal

pub returns-in_err-check_header-clause-answer : goal.returns-in_err-check_header-clause-answer
returns-in_err-check_header-clause-answer c = header_answered c.args.file.now c.from_residual.result c.in_err-check_header.field-0.0 c.from_residual.ensures.1 c.in_err-check_header.ensures

pub read_segments-requires : goal.read_segments-requires
read_segments-requires c = headed c.args.file.now c.in_ok-check_header.ensures

pub read_sections-requires : goal.read_sections-requires
read_sections-requires c = headed c.args.file.now c.in_ok-check_header.ensures

pub check_tables-requires-clause-headers : goal.check_tables-requires-clause-headers
check_tables-requires-clause-headers c = headed c.args.file.now c.in_ok-check_header.ensures

pub check_tables-requires-clause-areas : goal.check_tables-requires-clause-areas
check_tables-requires-clause-areas c = all_areas c.deref.result.now c.deref-4.result.now c.in_ok-areas.areas.items c.in_ok-areas.ensures c.deref-4.ensures.value

pub returns-in_err-check_tables-clause-answer : goal.returns-in_err-check_tables-clause-answer
returns-in_err-check_tables-clause-answer c =
    let file = c.args.file.now in
    let read = were_read file c.deref.result.now c.deref-2.result.now c.in_ok-segments.segments.items c.deref-3.result.now c.in_ok-sections.sections.items c.deref-4.result.now c.in_ok-areas.areas.items
    c.in_ok-segments.ensures c.in_ok-sections.ensures c.in_ok-areas.ensures c.deref.ensures.value c.deref-2.ensures.value c.deref-3.ensures.value c.deref-4.ensures.value in
    let same = rows_same file c.deref-2.result.now c.deref-3.result.now c.deref-4.result.now read in
    let judged = subst (λ (found : Option ElfFault). JudgesOrFails (Err c.in_err-check_tables.field-0.0) found) same c.in_err-check_tables.ensures in
    tables_answered file c.from_residual-in_err-check_tables.result c.in_err-check_tables.field-0.0 (headed file c.in_ok-check_header.ensures) c.from_residual-in_err-check_tables.ensures.1 judged

pub headers-headers-requires-clause-headers : goal.headers-headers-requires-clause-headers
headers-headers-requires-clause-headers c = headed c.args.file.now c.in_ok-check_header.ensures

-- no row on the tables holds
pub headers-headers-requires-clause-tables : goal.headers-headers-requires-clause-tables
headers-headers-requires-clause-tables c =
    let file = c.args.file.now in
    let read = were_read file c.deref.result.now c.deref-2.result.now c.in_ok-segments.segments.items c.deref-3.result.now c.in_ok-sections.sections.items c.deref-4.result.now c.in_ok-areas.areas.items
    c.in_ok-segments.ensures c.in_ok-sections.ensures c.in_ok-areas.ensures c.deref.ensures.value c.deref-2.ensures.value c.deref-3.ensures.value c.deref-4.ensures.value in
    sym (rows_same file c.deref-2.result.now c.deref-3.result.now c.deref-4.result.now read) ∙ c.in_ok-check_tables.ensures

pub image_areas-requires : goal.image_areas-requires
image_areas-requires c =
    let file = c.args.file.now in
    let read = were_read file c.deref.result.now c.deref-2.result.now c.in_ok-segments.segments.items c.deref-3.result.now c.in_ok-sections.sections.items c.deref-4.result.now c.in_ok-areas.areas.items
    c.in_ok-segments.ensures c.in_ok-sections.ensures c.in_ok-areas.ensures c.deref.ensures.value c.deref-2.ensures.value c.deref-3.ensures.value c.deref-4.ensures.value in
    let no_row : first_row (table_rows file) ≡ None = sym (rows_same file c.deref-2.result.now c.deref-3.result.now c.deref-4.result.now read) ∙ c.in_ok-check_tables.ensures in
    let again = were_read file c.deref.result.now c.deref-2.result.now c.in_ok-segments.segments.items c.deref-3.result.now c.in_ok-sections.sections.items c.deref-6.result.now c.in_ok-areas.areas.items
    c.in_ok-segments.ensures c.in_ok-sections.ensures c.in_ok-areas.ensures c.deref.ensures.value c.deref-2.ensures.value c.deref-3.ensures.value c.deref-6.ensures.value in
    low_areas file c.deref-2.result.now c.deref-3.result.now c.deref-6.result.now again no_row

pub new-requires : goal.new-requires
new-requires c =
    let file = c.args.file.now in
    let read = were_read file c.deref.result.now c.deref-2.result.now c.in_ok-segments.segments.items c.deref-3.result.now c.in_ok-sections.sections.items c.deref-4.result.now c.in_ok-areas.areas.items
    c.in_ok-segments.ensures c.in_ok-sections.ensures c.in_ok-areas.ensures c.deref.ensures.value c.deref-2.ensures.value c.deref-3.ensures.value c.deref-4.ensures.value in
    let no_row : first_row (table_rows file) ≡ None = sym (rows_same file c.deref-2.result.now c.deref-3.result.now c.deref-4.result.now read) ∙ c.in_ok-check_tables.ensures in
    let again = were_read file c.deref.result.now c.deref-2.result.now c.in_ok-segments.segments.items c.deref-3.result.now c.in_ok-sections.sections.items c.deref-6.result.now c.in_ok-areas.areas.items
    c.in_ok-segments.ensures c.in_ok-sections.ensures c.in_ok-areas.ensures c.deref.ensures.value c.deref-2.ensures.value c.deref-3.ensures.value c.deref-6.ensures.value in
    image_valid file _ no_row (parts_are file c.deref-2.result.now c.deref-3.result.now c.deref-6.result.now c.in_ok-areas-2.areas.items c.double_at-entry.result c.headers-headers.result c.half_at-count.result again c.in_ok-areas-2.ensures c.double_at-entry.ensures c.headers-headers.ensures c.half_at-count.ensures)

pub returns-clause-faultless : goal.returns-clause-faultless
returns-clause-faultless c =
    let file = c.args.file.now in
    let read = were_read file c.deref.result.now c.deref-2.result.now c.in_ok-segments.segments.items c.deref-3.result.now c.in_ok-sections.sections.items c.deref-4.result.now c.in_ok-areas.areas.items
    c.in_ok-segments.ensures c.in_ok-sections.ensures c.in_ok-areas.ensures c.deref.ensures.value c.deref-2.ensures.value c.deref-3.ensures.value c.deref-4.ensures.value in
    let no_row : first_row (table_rows file) ≡ None = sym (rows_same file c.deref-2.result.now c.deref-3.result.now c.deref-4.result.now read) ∙ c.in_ok-check_tables.ensures in
    image_faultless file c.new.result (headed file c.in_ok-check_header.ensures) no_row (ap (λ (parts : ImageParts). parts.file) c.new.ensures)

pub returns-clause-answer : goal.returns-clause-answer
returns-clause-answer c =
    let file = c.args.file.now in
    let read = were_read file c.deref.result.now c.deref-2.result.now c.in_ok-segments.segments.items c.deref-3.result.now c.in_ok-sections.sections.items c.deref-4.result.now c.in_ok-areas.areas.items
    c.in_ok-segments.ensures c.in_ok-sections.ensures c.in_ok-areas.ensures c.deref.ensures.value c.deref-2.ensures.value c.deref-3.ensures.value c.deref-4.ensures.value in
    let no_row : first_row (table_rows file) ≡ None = sym (rows_same file c.deref-2.result.now c.deref-3.result.now c.deref-4.result.now read) ∙ c.in_ok-check_tables.ensures in
    let again = were_read file c.deref.result.now c.deref-2.result.now c.in_ok-segments.segments.items c.deref-3.result.now c.in_ok-sections.sections.items c.deref-6.result.now c.in_ok-areas.areas.items
    c.in_ok-segments.ensures c.in_ok-sections.ensures c.in_ok-areas.ensures c.deref.ensures.value c.deref-2.ensures.value c.deref-3.ensures.value c.deref-6.ensures.value in
    image_answered file c.new.result (headed file c.in_ok-check_header.ensures) no_row
    (c.new.ensures ∙ parts_are file c.deref-2.result.now c.deref-3.result.now c.deref-6.result.now c.in_ok-areas-2.areas.items c.double_at-entry.result c.headers-headers.result c.half_at-count.result again c.in_ok-areas-2.ensures c.double_at-entry.ensures c.headers-headers.ensures c.half_at-count.ensures)
