use Rattle.std.proofs.Common.{◌+◌}
use Rattle.byte_write.specs.Programs.{end_sequence, set_address, set_line}
use Rattle.byte_write.proofs.Appends.{four}
use Rattle.byte_write.proofs.sequence.push_sequence.Goals as goal

pub returns : goal.returns
returns c =
    four c.extend_from_slice.result c.args.out.now.items (set_address c.args.address) (set_line c.args.file c.args.number) (set_address (c.args.address + c.args.size)) end_sequence _ _ _ _
    c.in_ok-push_address.ensures c.in_ok-push_line.ensures c.in_ok-push_address-2.ensures c.extend_from_slice.ensures.items
