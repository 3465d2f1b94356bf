use Rattle.std.proofs.Common.{ap, option_map}
use Rattle.asm_tokens.specs.Registers.{number_of}
use Rattle.asm_tokens.specs.Table.{register_of}
use Rattle.asm_tokens.proofs.table.register_of.Goals as goal

pub returns : goal.returns
unfolding register_of
returns c = ap (option_map number_of) c.look_up.ensures
