use Rattle.std.proofs.Common.{◌-◌, ◌^◌, arith, rules}
use Rattle.line_regions.proofs.Nodes.{all_within}
use Rattle.line_regions.proofs.tree.step_before.Goals as goal

pub returns-then-is_within-clause-first : goal.returns-then-is_within-clause-first
returns-then-is_within-clause-first c =
    let i = c.args.end - 1 in
    let within = c.is_within.ensures.0 c.if-is_within.true in
    all_within c.args.nodes.now c.args.wanted.now i (c.requires.tree i (omega (arith, c.requires.some, c.requires.within))) (2 ^ 32) c.args.end (omega (arith, c.requires.some)) (search rules) within.0 within.1
