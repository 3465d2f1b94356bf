use Rattle.std.proofs.Common.{◌≡◌, ◌∙◌, arith, rules, refl, ap, Ok, length}
use Rattle.leb_cursor.specs.Ahead.{Ahead}
use Rattle.dwarf_lines.specs.Bounds.{weight}
use Rattle.dwarf_lines.specs.Views.{so_far}
use Rattle.dwarf_lines.specs.Names.{strings}
use Rattle.dwarf_lines.specs.Reading.{reading}
use Rattle.dwarf_lines.proofs.Shorter.{unit_less}
use Rattle.dwarf_lines.proofs.Loops.{units_next}
use Rattle.dwarf_lines.proofs.Units.{reading_takes}
use Rattle.dwarf_lines.proofs.UnitsAgain.{one_table_or_one_fault}
use Rattle.dwarf_lines.proofs.Whole.{unit_fails, only_table, whole_table}
use Rattle.dwarf_lines.proofs.read_lines.Goals as goal

pub loop-cursor-init : goal.loop-cursor-init
unfolding reading
loop-cursor-init c =
    let at_start = c.new-cursor.ensures in
    let empty = c.new-draft.ensures in
    let none : weight (so_far c.new-draft.result) ≡ 0 = ap weight empty in
    let whole : length c.new-cursor.result.bytes ≡ length c.args.section.now = ap (λ (a : Ahead). length a.bytes) at_start in
    record {
      read = rw (empty, at_start) refl;
      texts = c.new-sections.ensures;
      room = omega arith;
    }

pub loop-cursor-smaller : goal.loop-cursor-smaller
loop-cursor-smaller c = unit_less (strings c.args.general.now c.args.line.now) (so_far c.loop-cursor.draft) (so_far c.read_unit.new.self) c.loop-cursor.cursor c.read_unit.new.cursor (rw c.loop-cursor.invariant.texts at c.in_ok-read_unit.ensures.exact)

pub loop-cursor-preserved : goal.loop-cursor-preserved
loop-cursor-preserved c = record {
  read = units_next (strings c.args.general.now c.args.line.now) (so_far c.loop-cursor.draft) (so_far c.read_unit.new.self) c.loop-cursor.cursor c.read_unit.new.cursor _ (omega arith) (rw c.loop-cursor.invariant.texts at c.in_ok-read_unit.ensures.exact) c.loop-cursor.invariant.read;
  texts = c.in_ok-read_unit.ensures.kept ∙ c.loop-cursor.invariant.texts;
  room = omega (arith, c.in_ok-read_unit.ensures.room, c.loop-cursor.invariant.room);
}

pub returns-in_err-read_unit-clause-exact : goal.returns-in_err-read_unit-clause-exact
returns-in_err-read_unit-clause-exact c =
    let fails = unit_fails (strings c.args.general.now c.args.line.now) (so_far c.loop-cursor.draft) c.loop-cursor.cursor c.in_err-read_unit.field-0.0 _ (omega arith) (rw c.loop-cursor.invariant.texts at c.in_err-read_unit.ensures.exact) c.loop-cursor.invariant.read in
    search rules

pub returns-in_err-read_unit-clause-only : goal.returns-in_err-read_unit-clause-only
returns-in_err-read_unit-clause-only c =
    let fails = unit_fails (strings c.args.general.now c.args.line.now) (so_far c.loop-cursor.draft) c.loop-cursor.cursor c.in_err-read_unit.field-0.0 _ (omega arith) (rw c.loop-cursor.invariant.texts at c.in_err-read_unit.ensures.exact) c.loop-cursor.invariant.read in
    only_table (strings c.args.general.now c.args.line.now) c.args.section.now c.from_residual.result (search rules)

pub returns-in_err-read_unit-clause-one : goal.returns-in_err-read_unit-clause-one
returns-in_err-read_unit-clause-one c = one_table_or_one_fault (strings c.args.general.now c.args.line.now) c.args.section.now (λ i. omega (arith, c.type_inv.section i))

pub returns-clause-exact : goal.returns-clause-exact
returns-clause-exact c = whole_table (strings c.args.general.now c.args.line.now) c.loop-cursor.cursor _ _ _ (omega arith) c.loop-cursor.invariant.read c.into_table.ensures

pub returns-clause-found : goal.returns-clause-found
returns-clause-found c =
    let exact = whole_table (strings c.args.general.now c.args.line.now) c.loop-cursor.cursor _ _ _ (omega arith) c.loop-cursor.invariant.read c.into_table.ensures in
    reading_takes (strings c.args.general.now c.args.line.now) c.args.section.now _ (λ i. omega (arith, c.type_inv.section i)) exact

pub returns-clause-only : goal.returns-clause-only
returns-clause-only c =
    let exact = whole_table (strings c.args.general.now c.args.line.now) c.loop-cursor.cursor _ _ _ (omega arith) c.loop-cursor.invariant.read c.into_table.ensures in
    only_table (strings c.args.general.now c.args.line.now) c.args.section.now (Ok c.into_table.result) exact

pub returns-clause-one : goal.returns-clause-one
returns-clause-one c = one_table_or_one_fault (strings c.args.general.now c.args.line.now) c.args.section.now (λ i. omega (arith, c.type_inv.section i))
