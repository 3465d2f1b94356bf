use Rattle.std.proofs.Common.{sym}
use Rattle.zero_bytes.proofs.Filled.{no_bytes, all_bytes, filled-resized, filled-whole}
use Rattle.zero_bytes.proofs.piece.fill.Goals as goal

pub returns-in-Ok-clause-bytes : goal.returns-in-Ok-clause-bytes
returns-in-Ok-clause-bytes c =
    let v = c.args.bytes.now in
    let none = no_bytes c.is_empty.result v.len v.items c.is_empty.ensures v.ok.0 c.if-is_empty.true in
    filled-resized 262144 v.len v.items c.resize.new.self.items none v.ok.0 c.in-Ok.ensures.items

pub returns-else-is_empty-clause-bytes : goal.returns-else-is_empty-clause-bytes
returns-else-is_empty-clause-bytes c =
    let v = c.args.bytes.now in
    sym (filled-whole 262144 v.items (all_bytes c.is_empty.result v.len v.items c.is_empty.ensures v.ok.0 c.if-is_empty.false c.requires.piece))
