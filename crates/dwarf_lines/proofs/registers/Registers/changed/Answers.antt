use Rattle.std.proofs.Common.{ap, ◌∙◌}
use Rattle.dwarf_lines.specs.Registers.{with_address_moved}
use Rattle.dwarf_lines.proofs.registers.Registers.changed.Goals as goal

pub returns-in-ConstAddPc : goal.returns-in-ConstAddPc
returns-in-ConstAddPc c = rw c.in-ConstAddPc.is (c.moved-in-ConstAddPc.ensures ∙ ap (λ step. with_address_moved step c.args.self) c.address_step.ensures)
