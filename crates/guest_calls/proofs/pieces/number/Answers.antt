use Rattle.std.proofs.Common.{◌≡◌, Some, None, ◌∙◌}
use Rattle.guest_memory.specs.Memory.{number_at}
use Rattle.guest_calls.proofs.Vectors.{load-readable}
use Rattle.guest_calls.proofs.pieces.number.Goals as goal

pub unreachable-requires : goal.unreachable-requires
unreachable-requires c =
    let e : None ≡ Some (number_at c.args.memory.now c.args.address 8) = c.in_default.ensures ∙ load-readable c.args.memory.now c.args.address 8 c.requires in cc

pub returns : goal.returns
returns c =
    let e : Some c.in-Ok.number ≡ Some (number_at c.args.memory.now c.args.address 8) = c.in-Ok.ensures ∙ load-readable c.args.memory.now c.args.address 8 c.requires in cc
