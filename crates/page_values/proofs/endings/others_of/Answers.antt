use Rattle.std.proofs.Common.{ℕ, ◌-◌, length, ap}
use Rattle.page_values.proofs.endings.others_of.Goals as goal

pub returns : goal.returns
returns c = ap (λ (n : ℕ). length c.args.summaries.now - n) c.count_of-exited.ensures.count
