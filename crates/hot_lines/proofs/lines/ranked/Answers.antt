use Rattle.std.proofs.Common.{rules, ◌≤◌}
use Rattle.std.proofs.lemmas.List.Sorted.{All-permutation}
use Rattle.hot_lines.specs.declared.lines.HotLine.{HotLine}
use Rattle.hot_lines.proofs.Ranking.{ranking}
use Rattle.hot_lines.proofs.lines.ranked.Goals as goal

pub returns-clause-ranked : goal.returns-clause-ranked
returns-clause-ranked c =
    let sort = c.in_ok-sort_by_key.ensures in
    ranking c.args.lines.items c.sort_by_key.new.self.items sort.sorted sort.stable (λ b r f k. search rules)

pub returns-clause-within : goal.returns-clause-within
returns-clause-within c = λ most all.
    All-permutation (λ (line : HotLine). line.cost ≤ most) c.args.lines.items c.sort_by_key.new.self.items c.in_ok-sort_by_key.ensures.permutation all
