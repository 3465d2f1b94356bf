use Rattle.std.proofs.Common.{List, ℕ, sym, subst}
use Rattle.std.specs.Ordering.{nat_cmp}
use Rattle.std.specs.List.Sorted.{IsStrictlySortedBy}
use Rattle.experiment_plan.specs.Selected.{ids}
use Rattle.experiment_plan.proofs.Naming.{all_selected, all_below}
use Rattle.experiment_plan.proofs.Rising.{rises}
use Rattle.experiment_plan.proofs.selection.select.Goals as goal

pub returns-clause-selection : goal.returns-clause-selection
returns-clause-selection c =
    all_selected c.args.index.now.lines c.args.text.now _ _ c.in_ok-lines.ensures.0 c.in_ok-lines.ensures.1 c.in_ok-rising_lines.ensures

pub returns-clause-rising : goal.returns-clause-rising
returns-clause-rising c = subst (λ (ns : List ℕ). IsStrictlySortedBy nat_cmp ns) (sym c.in_ok-rising_lines.ensures) (rises (ids c.in_ok-lines.lines.items))

pub returns-clause-below : goal.returns-clause-below
returns-clause-below c = all_below c.args.index.now.lines c.args.text.now _ _ c.in_ok-lines.ensures.1 c.in_ok-rising_lines.ensures
