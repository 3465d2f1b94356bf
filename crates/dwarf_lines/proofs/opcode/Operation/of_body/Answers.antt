use Rattle.std.proofs.Common.{arith, refl}
use Rattle.dwarf_lines.specs.Views.{header_view}
use Rattle.dwarf_lines.proofs.Steps.{address_fault, address_set}
use Rattle.dwarf_lines.proofs.opcode.Operation.of_body.Goals as goal

pub returns-then-size-ne9 : goal.returns-then-size-ne9
returns-then-size-ne9 c = address_fault (header_view c.args.header.now) c.args.place c.args.inside c.byte.new.cursor (omega arith) (omega arith) (rw (← c.in-2.is) c.in_ok-byte.ensures)

pub returns-in_ok-double-in-2 : goal.returns-in_ok-double-in-2
returns-in_ok-double-in-2 c = address_set (header_view c.args.header.now) c.args.place c.in_ok-double-in-2.field-0 c.args.inside c.byte.new.cursor c.double.new.self (omega arith) (rw (← c.in-2.is) c.in_ok-byte.ensures) (rw c.in_ok-double-in-2.ensures refl)
