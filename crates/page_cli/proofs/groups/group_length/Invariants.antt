use Rattle.page_cli.specs.Page.{have_one_point}
use Rattle.profile_labels.proofs.FirstGroups.{IsRun}
use Rattle.page_cli.proofs.groups.group_length.Given as goal

abbrev pub invariant-loop-i : goal.invariant-loop-i
invariant-loop-i l = IsRun have_one_point l.i l.curves
