use Rattle.profile_labels.specs.Groups.{have_one_label}
use Rattle.profile_labels.proofs.FirstGroups.{IsRun}
use Rattle.profile_labels.proofs.groups.group_length.Given as goal

abbrev pub invariant-loop-i : goal.invariant-loop-i
invariant-loop-i l = IsRun have_one_label l.i l.summaries
