use Rattle.std.proofs.Common.{◌≡◌, ℕ, true, false, not, List, Some, sym, ap, subst, ◌∙◌}
use Rattle.std.specs.Global.{Vec}
use Rattle.std.specs.Prelude.{codes, is_some}
use Rattle.std.proofs.lemmas.Result.{IfOk-weaker}
use Rattle.elf_load.specs.Loaded.{section}
use Rattle.line_write.specs.Unit.{unit}
use Rattle.line_write.specs.declared.UnitError.{UnitError}
use Rattle.function_lines.specs.ByFunction.{IsByFunction, IsLongUnit, IsUnit, IsUnitCause, ReadsWithoutFault}
use Rattle.line_remap.specs.Marks.{marks_of}
use Rattle.function_lines.proofs.Soundness.{sound}
use Rattle.function_lines.proofs.Whole.{are_with_functions, cause_of, lineless, long_unit, marks_within, some_found, unit_lines, unit_read}
use Rattle.function_lines.proofs.file.by_marks.Goals as goal

pub unit_of-requires-clause-sound : goal.unit_of-requires-clause-sound
unit_of-requires-clause-sound c = sound c.args.image.now c.args.index.now c.in_ok-symbols.ensures.valid c.requires.indexed

pub returns-in-Ok-clause-reads : goal.returns-in-Ok-clause-reads
returns-in-Ok-clause-reads c =
    let image = c.args.image.now in
    let index = c.args.index.now in
    let marks = marks_of c.args.marks.now in
    let bytes = c.deref-in-Ok.result.now in
    let is_unit : IsUnit image index marks bytes = subst (λ (bs : List ℕ). IsUnit image index marks bs) (sym c.deref-in-Ok.ensures.value) c.in-Ok.ensures.unit in
    IfOk-weaker c.file_of.result (λ (v : Vec ℕ). section v.items (codes ".debug_line") ≡ Some bytes) (λ (v : Vec ℕ). ReadsWithoutFault v.items)
    (λ v is. unit_read image index marks v.items bytes is_unit is) c.file_of.ensures.lines

pub returns-in-Ok-clause-lines : goal.returns-in-Ok-clause-lines
returns-in-Ok-clause-lines c =
    let image = c.args.image.now in
    let index = c.args.index.now in
    let marks = marks_of c.args.marks.now in
    let bytes = c.deref-in-Ok.result.now in
    let is_unit : IsUnit image index marks bytes = subst (λ (bs : List ℕ). IsUnit image index marks bs) (sym c.deref-in-Ok.ensures.value) c.in-Ok.ensures.unit in
    IfOk-weaker c.file_of.result (λ (v : Vec ℕ). section v.items (codes ".debug_line") ≡ Some bytes) (λ (v : Vec ℕ). IsByFunction image index marks v.items)
    (λ v is. unit_lines image index marks v.items bytes c.in_ok-symbols.ensures.valid c.requires.indexed (marks_within index c.args.marks.now c.requires.marks) is_unit is) c.file_of.ensures.lines

pub returns-in-Err-TooLong-clause-cause : goal.returns-in-Err-TooLong-clause-cause
returns-in-Err-TooLong-clause-cause c =
    let image = c.args.image.now in
    let index = c.args.index.now in
    let marks = marks_of c.args.marks.now in
    let long : IsLongUnit image index marks = subst (λ (error : UnitError). IsUnitCause image index marks error) c.in-Err-TooLong.field-0-is c.in-Err-TooLong.ensures.too_long in
    let some : is_some c.section_place.result ≡ true = c.is_none.ensures ∙ ap not c.if-is_none.false in
    record {
      some = some_found c.args.image.now c.in_ok-symbols.symbols.items c.is_empty.result c.in_ok-symbols.symbols.len c.in_ok-symbols.ensures.found c.is_empty.ensures c.in_ok-symbols.symbols.ok.0 c.if-is_empty.false;
      sequences = long.sequences;
      are = long.are;
      long = long_unit image.file (unit long.sequences) c.section_place.result c.section_place.ensures.place some c.section_place.ensures.within long.long;
    }

pub returns-then-is_none-clause-cause : goal.returns-then-is_none-clause-cause
returns-then-is_none-clause-cause c =
    let some = some_found c.args.image.now c.in_ok-symbols.symbols.items c.is_empty.result c.in_ok-symbols.symbols.len c.in_ok-symbols.ensures.found c.is_empty.ensures c.in_ok-symbols.symbols.ok.0 c.if-is_empty.false in
    let none : is_some c.section_place.result ≡ false = c.is_none.ensures ∙ ap not c.if-is_none.true in
    lineless c.args.image.now c.section_place.result some c.section_place.ensures.place none

pub returns-in-Ok-clause-file : goal.returns-in-Ok-clause-file
returns-in-Ok-clause-file c =
    let image = c.args.image.now in
    let index = c.args.index.now in
    let marks = marks_of c.args.marks.now in
    let bytes = c.deref-in-Ok.result.now in
    let is_unit : IsUnit image index marks bytes = subst (λ (bs : List ℕ). IsUnit image index marks bs) (sym c.deref-in-Ok.ensures.value) c.in-Ok.ensures.unit in
    let some = some_found c.args.image.now c.in_ok-symbols.symbols.items c.is_empty.result c.in_ok-symbols.symbols.len c.in_ok-symbols.ensures.found c.is_empty.ensures c.in_ok-symbols.symbols.ok.0 c.if-is_empty.false in
    are_with_functions image index marks bytes some is_unit c.file_of.result c.file_of.ensures.file c.file_of.ensures.same_program c.file_of.ensures.lines c.file_of.ensures.short

pub returns-in-Ok-clause-cause : goal.returns-in-Ok-clause-cause
returns-in-Ok-clause-cause c =
    let image = c.args.image.now in
    let index = c.args.index.now in
    let marks = marks_of c.args.marks.now in
    let bytes = c.deref-in-Ok.result.now in
    let is_unit : IsUnit image index marks bytes = subst (λ (bs : List ℕ). IsUnit image index marks bs) (sym c.deref-in-Ok.ensures.value) c.in-Ok.ensures.unit in
    let some = some_found c.args.image.now c.in_ok-symbols.symbols.items c.is_empty.result c.in_ok-symbols.symbols.len c.in_ok-symbols.ensures.found c.is_empty.ensures c.in_ok-symbols.symbols.ok.0 c.if-is_empty.false in
    cause_of image index marks bytes some is_unit c.file_of.result c.file_of.ensures.cause
