use Rattle.byte_write.proofs.Appends.{advanced}
use Rattle.byte_write.proofs.words.push_advance_pc.Goals as goal

pub returns : goal.returns
returns c =
    advanced c.push_uleb.result c.args.words c.from.result c.args.out.now.items _ _
    c.if-words-eq0.false c.from.ensures c.in_ok-push.ensures.items c.push_uleb.ensures
