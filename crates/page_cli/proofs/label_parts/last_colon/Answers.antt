use Rattle.std.proofs.Common.{rules, ◌-◌, arith}
use Rattle.profile_labels.proofs.Scans.{last_at}
use Rattle.page_cli.proofs.label_parts.last_colon.Goals as goal

pub returns-then-label-i-eq58 : goal.returns-then-label-i-eq58
returns-then-label-i-eq58 c = last_at (c.loop-i.i - 1) c.loop-i.i c.args.label.now (omega arith) (omega arith) (search rules) c.loop-i.invariant
