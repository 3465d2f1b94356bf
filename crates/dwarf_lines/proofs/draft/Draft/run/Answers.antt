use Rattle.std.proofs.Common.{◌∙◌, sym, arith, rules}
use Rattle.dwarf_lines.specs.Views.{header_view, operation_view, state_of}
use Rattle.dwarf_lines.proofs.Shorter.{operation_less}
use Rattle.dwarf_lines.proofs.Steps.{wider}
use Rattle.dwarf_lines.proofs.Loops.{program_next, operation_fault, apply_fault, program_open, program_closed}
use Rattle.dwarf_lines.proofs.draft.Draft.run.Goals as goal

pub returns-in_err-operation-clause-exact : goal.returns-in_err-operation-clause-exact
returns-in_err-operation-clause-exact c =
    let h = header_view c.args.header.now in
    let s = state_of c.loop-registers.self c.args.first_file c.loop-registers.registers in
    let fault = sym c.loop-registers.invariant.goes ∙ operation_fault h s c.loop-registers.opcodes c.in_err-operation.field-0.0 (omega arith) c.in_err-operation.ensures in
    search rules

pub returns-in_err-registers-clause-exact : goal.returns-in_err-registers-clause-exact
returns-in_err-registers-clause-exact c =
    let h = header_view c.args.header.now in
    let s = state_of c.loop-registers.self c.args.first_file c.loop-registers.registers in
    let fails = apply_fault h s c.loop-registers.opcodes c.read.new.cursor (operation_view c.in_ok-operation.operation) c.in_err-registers.field-0.0 _ (omega arith) c.in_ok-operation.ensures (rw (← c.place-place.ensures) c.in_err-registers.ensures.exact) c.loop-registers.invariant.goes in
    search rules

pub loop-registers-smaller : goal.loop-registers-smaller
loop-registers-smaller c = operation_less (header_view c.args.header.now) c.loop-registers.opcodes c.read.new.cursor _ c.in_ok-operation.ensures

pub loop-registers-preserved : goal.loop-registers-preserved
loop-registers-preserved c =
    let h = header_view c.args.header.now in
    let s = state_of c.loop-registers.self c.args.first_file c.loop-registers.registers in
    let less = operation_less h c.loop-registers.opcodes c.read.new.cursor _ c.in_ok-operation.ensures in
    let done = rw c.place-place.ensures at c.in_ok-registers.ensures.exact in
    let fewer = c.loop-registers.invariant.fewer in
    record {
      goes = program_next h s (state_of c.apply.new.self c.args.first_file c.in_ok-registers.registers) c.loop-registers.opcodes c.read.new.cursor (operation_view c.in_ok-operation.operation) _ (omega arith) c.in_ok-operation.ensures done c.loop-registers.invariant.goes;
      line = wider _ _ c.in_ok-registers.registers.line (omega arith) (c.in_ok-registers.ensures.line _ c.loop-registers.invariant.line);
      room = omega (arith, less, c.in_ok-registers.ensures.room, c.loop-registers.invariant.room);
      fewer = omega (arith, less);
    }

pub returns-then-is_open-clause-exact : goal.returns-then-is_open-clause-exact
returns-then-is_open-clause-exact c =
    let h = header_view c.args.header.now in
    let s = state_of c.loop-registers.self c.args.first_file c.loop-registers.registers in
    rw c.place.ensures (program_open h s c.loop-registers.opcodes _ (omega arith) (sym c.is_open.ensures ∙ c.if-is_open.true) c.loop-registers.invariant.goes)

pub returns-clause-exact : goal.returns-clause-exact
returns-clause-exact c =
    let h = header_view c.args.header.now in
    let s = state_of c.loop-registers.self c.args.first_file c.loop-registers.registers in
    program_closed h s c.loop-registers.opcodes _ (omega arith) (sym c.is_open.ensures ∙ c.if-is_open.false) c.loop-registers.invariant.goes
