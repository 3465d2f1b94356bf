use Rattle.std.proofs.Common.{sym, subst, arith}
use Rattle.std.specs.List.Sorted.{IsStrictlySortedBy}
use Rattle.std.specs.Ordering.{nat_cmp}
use Rattle.program_load.proofs.Naming.{all_below, one_line, range_rises}
use Rattle.program_load.proofs.selection.all_lines.Goals as goal

pub loop-line-preserved : goal.loop-line-preserved
loop-line-preserved c = one_line c.loop-line.lines.items c.push.new.self.items c.loop-line.line c.loop-line.invariant c.in_ok-push.ensures.items

pub returns-clause-rising : goal.returns-clause-rising
returns-clause-rising c = subst (IsStrictlySortedBy nat_cmp) (sym c.loop-line.invariant) (range_rises 0 c.loop-line.line)

pub returns-clause-below : goal.returns-clause-below
returns-clause-below c = λ k d below.
    let one = all_below c.loop-line.lines.items c.loop-line.line c.loop-line.invariant k d below in
    omega (arith, one, c.loop-line.auto, c.count-line-end.ensures)
