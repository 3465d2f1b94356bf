use Rattle.std.proofs.Common.{◌≡◌, ◌≤◌, ◌+◌, ◌-◌, ◌*◌, ◌^◌, suc, length}
use Rattle.dwarf_lines.specs.Registers.{first_registers}
use Rattle.dwarf_lines.specs.Reading.{program}
use Rattle.dwarf_lines.specs.Bounds.{IsLineWithin, weight}
use Rattle.dwarf_lines.specs.Views.{header_view, so_far, state_of}
use Rattle.dwarf_lines.proofs.draft.Draft.run.Given as goal

-- what is still to be done goes as the whole does; each opcode took a byte or more, and moved the line by less than 2^63
abbrev pub invariant-loop-registers : goal.invariant-loop-registers
invariant-loop-registers l = record {
  goes : program (suc (length l.opcodes.bytes)) (header_view l.header) (state_of l.self l.first_file l.registers) l.opcodes ≡ program (suc (length l.initial.opcodes.bytes)) (header_view l.header) (state_of l.fn.self l.first_file (first_registers (header_view l.header))) l.initial.opcodes;
  line : IsLineWithin (1 + 2 ^ 63 * (length l.initial.opcodes.bytes - length l.opcodes.bytes)) l.registers.line;
  room : weight (so_far l.self) + length l.opcodes.bytes ≤ weight (so_far l.fn.self) + length l.initial.opcodes.bytes;
  fewer : length l.opcodes.bytes ≤ length l.initial.opcodes.bytes;
}

abbrev pub decreases-loop-registers : goal.decreases-loop-registers
decreases-loop-registers l = length l.opcodes.bytes
