use Rattle.std.proofs.Common.{◌∙◌, arith}
use Rattle.guest_calls.proofs.Rows.{answered_count}
use Rattle.guest_calls.proofs.Guest.answer_count.Goals as goal

pub returns : goal.returns
returns c = c.reply.ensures ∙ answered_count c.args.count c.args.hart.0 c.args.self.now (omega arith)
