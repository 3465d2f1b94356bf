use Rattle.std.proofs.Common.{◌≡◌, ◌∙◌, ◌/◌, List, length, ap, rules}
use Rattle.experiment_plan.specs.declared.experiment.Experiment.{Experiment}
use Rattle.experiment_plan.specs.ByLine.{by_line}
use Rattle.experiment_plan.proofs.Lines.{line_count_is, joined_again}
use Rattle.experiment_plan.proofs.experiment.Plan.line_count.Goals as goal

pub returns-clause-count : goal.returns-clause-count
returns-clause-count c =
    let held = c.self.inside.pairs.items in
    let size : c.len.result ≡ length held = search rules in
    let same : held ≡ c.args.self.now = search rules in
    ap (λ n. n / c.self.inside.speedups) size
    ∙ line_count_is c.self.inside.speedups held c.self.invariant
    ∙ ap (λ (pairs : List Experiment). length (by_line pairs)) same

pub returns-clause-all : goal.returns-clause-all
returns-clause-all c = joined_again c.args.self.now
