use Rattle.std.proofs.Common.{◌≡◌, Some, length, slice_get, ◌-◌, sym, rules}
use Rattle.experiment_plan.proofs.Pairing.{few_lines, few_pairs}
use Rattle.experiment_plan.proofs.planning.pair_count.Goals as goal

pub overflow_mul-result : goal.overflow_mul-result
overflow_mul-result c =
    let lines = c.args.lines.now in
    let last : slice_get lines (length lines - 1) ≡ Some c.in-Some.last.now = sym c.in-Some.ensures.value in
    let few = few_pairs (length lines) (length c.args.speedups.now) (few_lines lines c.in-Some.last.now c.requires.rising last (search rules)) c.requires.few in
    search rules
